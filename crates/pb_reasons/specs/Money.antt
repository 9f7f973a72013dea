-- Where the money of a project's supporters went.
use Rattle.std.specs.Prelude.{ℕ, ◌-◌, List, [], ◌∷◌, fold, if◌then◌else◌, map, nat_lt, sum_by, take}
use Rattle.pb_core.specs.Election.{ElectionView}
use Rattle.pb_price.specs.Supporters.{support_of, supporters_at}
use Rattle.pb_rounds.specs.Outcome.{OutcomeView}
use Rattle.pb_reasons.specs.Reasons.{paid_for}
use Rattle.pb_reasons.specs.declared.payment.Payment.{Payment}

-- the largest payments, for different projects, and what is paid for others
pub record MoneyView : Type 0 where
  pub most : List Payment
  pub others : ℕ

-- what the supporters of the project at this place paid together for each of the elected, in order of election
abbrev pub paid_together : ElectionView → OutcomeView → ℕ → List Payment
paid_together e o place = map (λ w. record {
  place = w.place;
  amount = sum_by (paid_for e o w.place) (supporters_at (support_of e) place);
}) o.elected

-- payments from the largest on, with one more: behind those that are no less, and only where it is above 0
abbrev pub with_payment : List Payment → Payment → List Payment
with_payment [] p = if nat_lt 0 p.amount then p ∷ [] else []
with_payment (q ∷ paid) p = if nat_lt q.amount p.amount then p ∷ q ∷ paid else q ∷ with_payment paid p

-- the five largest of these, from the largest on, and the others together
abbrev pub money_of : List Payment → MoneyView
money_of paid = let most = take 5 (fold with_payment [] paid) in
    record { most = most; others = sum_by (λ p. p.amount) paid - sum_by (λ p. p.amount) most }
