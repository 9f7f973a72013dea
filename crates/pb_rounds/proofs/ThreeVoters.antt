-- The definitions compute: three voters, of whom the first two approve a project of 30.00 and the last two one of 60.00, with a budget of 100.00.
use Rattle.std.proofs.Common.{◌≡◌, ℕ, [], ◌∷◌, None, Some, refl}
use Rattle.std.specs.Prelude.{codes}
use Rattle.pb_core.specs.Election.{ElectionView}
use Rattle.pb_price.specs.Price.{PriceView, price_of}
use Rattle.pb_price.specs.Supporters.{supporters_of, support_of}
use Rattle.pb_price.specs.declared.grain.Grain.TheVariants.{Hundredths}
use Rattle.pb_rounds.specs.declared.measure.Measure.TheVariants.{Votes, Cost}
use Rattle.pb_rounds.specs.declared.options.Completion.TheVariants.{Plain, Add1, NoShares}
use Rattle.pb_rounds.specs.Count.{is_over, is_exhausted, first_decisive, count_of}
use Rattle.pb_rounds.specs.Fairness.{paid_within}
use Rattle.pb_rounds.specs.Payments.{paid_in_turn, payments_of}
use Rattle.pb_rounds.specs.Run.{best_of, charged, run_from, run_of}

-- a whole price
abbrev whole : ℕ → PriceView
whole amount = record { amount = amount; payers = 1 }

abbrev three : ElectionView
three = record {
  budget = 10000;
  max_length = None;
  projects = record { id = codes "a"; name = []; cost = 3000 } ∷ record { id = codes "b"; name = []; cost = 6000 } ∷ [];
  voters = record { id = codes "v1"; ballot = 0 ∷ [] } ∷ record { id = codes "v2"; ballot = 0 ∷ 1 ∷ [] } ∷ record { id = codes "v3"; ballot = 1 ∷ [] } ∷ [];
}

-- at 33.33 each the first is elected at 15.00, and the second is too expensive
plain : count_of three (record { step = 100; max_raises = 0; workers = 1; completion = Plain; measure = Votes; grain = Hundredths })
    ≡ Some (record { share = 3333; raised = 0; elected = record { place = 0; price = 1500; exact = whole 1500; collected = 3000 } ∷ []; rests = 1833 ∷ 1833 ∷ 3333 ∷ [] })
unfolding best_of charged run_from run_of price_of supporters_of
plain = refl

-- after five raises, at 38.33 each, the second is elected too, at 36.67
raised : count_of three (record { step = 100; max_raises = 5; workers = 1; completion = Add1; measure = Votes; grain = Hundredths })
    ≡ Some (record {
      share = 3833;
      raised = 5;
      elected = record { place = 0; price = 1500; exact = whole 1500; collected = 3000 } ∷ record { place = 1; price = 3667; exact = whole 3667; collected = 6000 } ∷ [];
      rests = 2333 ∷ 0 ∷ 166 ∷ [];
    })
unfolding best_of charged run_from run_of price_of supporters_of is_over is_exhausted first_decisive
raised = refl

-- nobody has a share, so nothing is elected
without_shares : count_of three (record { step = 100; max_raises = 0; workers = 1; completion = NoShares; measure = Votes; grain = Hundredths })
    ≡ Some (record { share = 0; raised = 0; elected = []; rests = 0 ∷ 0 ∷ 0 ∷ [] })
unfolding best_of run_from run_of price_of supporters_of
without_shares = refl

-- The second project would have cost each of its supporters 30.00. With no raise one of them paid 15.00, for the first project: more
-- than what 33.33 leave beside 30.00. By cost these 15.00 are just what 30.00 for 60.00 come to for 30.00; they count at no less.
fair_by_votes : paid_within Votes (support_of three) 3333 (record { place = 0; price = 1500; exact = whole 1500; collected = 3000 } ∷ []) 1 3000 1 ≡ 1500
unfolding charged payments_of paid_in_turn supporters_of
fair_by_votes = refl

fair_by_cost : paid_within Cost (support_of three) 3333 (record { place = 0; price = 1500; exact = whole 1500; collected = 3000 } ∷ []) 1 3000 1 ≡ 1500
unfolding charged payments_of paid_in_turn supporters_of
fair_by_cost = refl

none_below : paid_within Cost (support_of three) 3333 (record { place = 0; price = 1500; exact = whole 1500; collected = 3000 } ∷ []) 1 2999 1 ≡ 0
unfolding charged payments_of paid_in_turn supporters_of
none_below = refl
