-- Projects as ties are broken by them.
use Rattle.std.specs.Prelude.{ℕ, List, [], ◌∷◌, ◌++◌, Option, Some, None, replicate, slice_index_or}
use Rattle.arrayvec.specs.ArrayString.{ArrayString}
use Rattle.pb_core.specs.Election.{ElectionView, project_ids}
use Rattle.pb_price.specs.Supporters.{SupportView, cost_at, support_of}
use Rattle.pb_rounds.specs.MostVotes.{votes_at}
use Rattle.pb_rounds.specs.declared.tie_order.Tied.{Tied}
use Rattle.pb_rounds.specs.declared.tie_rule.TieKeys.{TieKeys}
use Rattle.pb_rounds.specs.declared.tie_rule.TieKeys.TheVariants as keys
use Rattle.pb_rounds.specs.declared.tie_rule.TieRule.{TieRule}
use Rattle.sha2.specs.Sha256.{sha256}

-- a project without a lot, as these keys order it; a number that they don't name is 0
abbrev pub keyed : TieKeys → (votes cost place : ℕ) → List ℕ → Tied
keyed keys.Votes votes cost place lot =
    record { votes = record { 0 = votes }; cost = 0; then_votes = record { 0 = 0 }; lot = lot; place = place }
keyed keys.Cost votes cost place lot =
    record { votes = record { 0 = 0 }; cost = cost; then_votes = record { 0 = 0 }; lot = lot; place = place }
keyed keys.VotesThenCost votes cost place lot =
    record { votes = record { 0 = votes }; cost = cost; then_votes = record { 0 = 0 }; lot = lot; place = place }
keyed keys.CostThenVotes votes cost place lot =
    record { votes = record { 0 = 0 }; cost = cost; then_votes = record { 0 = votes }; lot = lot; place = place }
keyed keys.Nothing votes cost place lot =
    record { votes = record { 0 = 0 }; cost = 0; then_votes = record { 0 = 0 }; lot = lot; place = place }

-- what is drawn for an id
abbrev pub drawn : Option ArrayString → List ℕ → List ℕ
drawn (Some seed) id = sha256 (seed.bytes ++ 10 ∷ id)
drawn None id = replicate 32 0

-- the project at this place
abbrev pub tied_of : TieRule → ElectionView → ℕ → Tied
tied_of ties e place =
    keyed ties.keys (votes_at (support_of e) place) (cost_at (support_of e) place) place
    (drawn ties.lot (slice_index_or (project_ids e) place []))
