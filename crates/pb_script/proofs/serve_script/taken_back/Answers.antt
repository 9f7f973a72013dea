use Rattle.std.proofs.Common.{◌≡◌, ◌∙◌, List, [], ◌∷◌, ◌++◌, map, ap, sym}
use Rattle.std.proofs.lemmas.Iterator.Adapters.{YieldsList-from_vec}
use Rattle.std.proofs.lemmas.Iterator.Consumers.{YieldsList-end}
use Rattle.std.proofs.lemmas.List.{map-append, map-id}
use Rattle.pb_script.specs.declared.serve_script.Returned.{Returned}
use Rattle.pb_script.proofs.serve_script.taken_back.Goals as goal

-- one more is back
one_more : {B : Type 0} (f : Returned → B) (yielded : List Returned) (one : Returned) (old new : List B) → new ≡ old ++ f one ∷ [] → old ≡ map f yielded → new ≡ map f (yielded ++ one ∷ [])
one_more f yielded one old new pushed so_far = pushed ∙ ap (λ l. l ++ f one ∷ []) so_far ∙ sym (map-append f yielded (one ∷ []))

pub returns : goal.returns
returns c =
    let gives = c.into_iter-returned-iterator.ensures.into_iter_gives in
    let all = YieldsList-from_vec {s = c.into_iter-returned-iterator.result} c.args.back.items gives.0 (gives.1 ∙ c.args.back.ok.0) in
    let ended = YieldsList-end all c.loop-returned.yielded c.loop-returned.returned-iterator c.loop-returned.yielded_by c.next.result c.next.new.self c.in-None.is c.next.ensures.steps in
    let whole : c.loop-returned.yielded ≡ c.args.back.items = sym (map-id c.loop-returned.yielded) ∙ ended.0 in
    let so_far = c.loop-returned.invariant in
    (so_far.0 ∙ ap (map (λ (r : Returned). r.clerk)) whole, so_far.1 ∙ ap (map (λ (r : Returned). r.served)) whole)

pub loop-returned-preserved : goal.loop-returned-preserved
loop-returned-preserved c =
    let so_far = c.loop-returned.invariant in (
      one_more (λ (r : Returned). r.clerk) c.loop-returned.yielded c.in-Some.returned c.loop-returned.clerks.items c.push.new.self.items c.in_ok-push.ensures.items so_far.0,
      one_more (λ (r : Returned). r.served) c.loop-returned.yielded c.in-Some.returned c.loop-returned.served.items c.push-in-loop-returned.new.self.items c.in_ok-push-2.ensures.items so_far.1,
    )
