use Rattle.std.proofs.Common.{◌∙◌, List, ℕ, Option, sym, ap, subst}
use Rattle.std.specs.FinMap as map
use Rattle.pb_ids.specs.Inner.Places.{Places, get_none}
use Rattle.pb_desk.specs.Inner.Slots.{IsListing}
use Rattle.pb_desk.specs.declared.source.Source.{Source}
use Rattle.pb_desk.proofs.Slots.{IsListing-none}
use Rattle.pb_desk.proofs.ballot_list.BallotList.with_capacity.Goals as goal

pub invariant_of-result : goal.invariant_of-result
invariant_of-result g c =
    subst (λ (slots : List (Option (List ℕ × Source))). IsListing (map.get c.new.result) slots 0) (sym c.in_ok-slots.ensures.items)
    (IsListing-none (map.get c.new.result) (λ id. ap (λ (table : Places). map.get table id) c.new.ensures ∙ get_none id))
