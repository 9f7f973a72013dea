use Rattle.std.proofs.Common.{◌≡◌, List, ℕ, subst, ◌∙◌, ap}
use Rattle.std.specs.Prelude.{IfOk}
use Rattle.pb_core.specs.Election.{ElectionView}
use Rattle.pb_reasons.proofs.RaiseEnds.{not_elected_are_free}
use Rattle.pb_reasons.proofs.raise_end.only_by.Goals as goal

pub returns : goal.returns
returns c =
    let taken = ap (λ (w : ElectionView × List ℕ). w.1) c.in_ok-winners.ensures ∙ c.as_slice.ensures.value ∙ c.in_ok-places.ensures in
    let same = not_elected_are_free c.args.others.now c.in_ok-winners.winners.1 taken c.args.elected.now in
    let P : List ℕ → Type 0 = λ l. IfOk c.others_of-only.result (λ places. places.items ≡ l) in
    subst P same c.others_of-only.ensures
