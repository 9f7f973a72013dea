-- What those come to together that a count elects and adds.
use Rattle.std.specs.Prelude.{◌+◌, ◌-◌, length, sum_by}
use Rattle.pb_core.specs.Election.{ElectionView}
use Rattle.pb_price.specs.Grain.{in_parts}
use Rattle.pb_price.specs.Supporters.{cost_at, support_of}
use Rattle.pb_price.specs.declared.grain.Grain.{Grain}
use Rattle.pb_rounds.specs.Count.{spent_on}
use Rattle.pb_reasons.specs.Counted.{CountedView}
use Rattle.pb_reasons.specs.declared.totals.Totals.{Totals}

-- what the elected and the added cost together, and what was paid beyond the costs of the elected, or in fine money
-- is left uncovered of them
abbrev pub totals_of : Grain → ElectionView → CountedView → Totals
totals_of grain e c = let spent = spent_on (support_of e) c.outcome.elected in
    let paid = sum_by (λ w. w.collected) c.outcome.elected in let cost = in_parts grain (length e.voters) spent in record {
      spent = spent + sum_by (cost_at (support_of e)) c.added;
      surplus = paid - cost + (cost - paid);
    }
