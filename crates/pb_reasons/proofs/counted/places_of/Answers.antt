use Rattle.std.proofs.Common.{◌≡◌, ◌∙◌, ◌++◌, ◌∷◌, [], List, ℕ, ap, map, sym, take, take_all, rules}
use Rattle.std.proofs.lemmas.List.{map_more}
use Rattle.pb_rounds.specs.Run.{ElectedView}
use Rattle.pb_reasons.proofs.counted.places_of.Goals as goal

pub loop-winner-preserved : goal.loop-winner-preserved
loop-winner-preserved c =
    let elected = c.args.elected.now in
    let i = c.loop-winner.winner-index in
    let winner : ElectedView = c.winner-item.result in
    let place : ElectedView → ℕ = λ w. w.place in
    let pushed : c.push.new.self.items ≡ c.loop-winner.places.items ++ winner.place ∷ [] = search rules in
    pushed
    ∙ ap (λ (l : List ℕ). l ++ winner.place ∷ []) c.loop-winner.invariant
    ∙ ap (λ (w : ElectedView). map place (take i elected) ++ w.place ∷ []) c.winner-item.is
    ∙ sym (map_more place elected i winner c.loop-winner-test.true)

pub returns : goal.returns
returns c = c.loop-winner.invariant ∙ ap (map (λ (w : ElectedView). w.place)) (take_all c.loop-winner.winner-index c.args.elected.now c.loop-winner-test.false)
