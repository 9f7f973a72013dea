use Rattle.std.proofs.Common.{◌≡◌, ◌∙◌, ℕ, ◌+◌, List, [], ◌∷◌, ◌++◌, replicate}
use Rattle.std.proofs.lemmas.List.{replicate_more}
use Rattle.pb_script.proofs.script.no_requests.Goals as goal

-- one more of the same
one_more : {X : Type 0} (old new : List X) (n : ℕ) (x y : X) → old ≡ replicate n y → x ≡ y → new ≡ old ++ x ∷ [] → new ≡ replicate (n + 1) y
one_more old new n x y so_far same is = is ∙ (λ i. so_far i ++ same i ∷ []) ∙ replicate_more n y

pub loop-preserved : goal.loop-preserved
loop-preserved c = one_more _ _ _ _ _ c.loop.invariant c.new.ensures c.in_ok-push.ensures.items
