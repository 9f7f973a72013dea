use Rattle.std.proofs.Common.{◌≡◌, ◌∙◌, ◌∷◌, ℕ, [], List, Option, arith, length, refl, sym}
use Rattle.pb_desk.specs.Inner.Slots.{filed}
use Rattle.pb_desk.specs.declared.source.Source.{Source}
use Rattle.pb_desk.proofs.filed_ballots.first_filed.Goals as goal

nothing_filed : (slots : List (Option (List ℕ × Source))) → length slots ≡ 0 → filed slots ≡ []
nothing_filed [] none = refl
nothing_filed (slot ∷ more) none = absurd (omega (arith, none))

pub returns : goal.returns
returns g c = sym c.loop-slot.invariant ∙ nothing_filed c.loop-slot.left.now c.in_default.ensures.cases
