-- Amounts in the parts that are counted, as text, and the payers of prices.
use Rattle.std.proofs.Common.{◌≡◌, ℕ, ◌*◌, ◌<◌, ◌≤◌, ◌^◌, max, Bool, true, false, cond, Option, Some, None, refl, subst, ◌∙◌, ap, arith}
use Rattle.std.specs.Prelude.{All, length, slice_get}
use Rattle.std.proofs.Math.Nat.{mul-le-mul_right}
use Rattle.pb_core.specs.Election.{most_voters}
use Rattle.pb_price.specs.Grain.{in_parts}
use Rattle.pb_price.specs.Price.{HasPayers, PriceView}
use Rattle.pb_price.specs.Supporters.{support_in}
use Rattle.pb_price.specs.declared.grain.Grain.{Grain}
use Rattle.pb_price.specs.declared.grain.Grain.TheVariants.{Fine, Hundredths}
use Rattle.pb_reasons.proofs.RoundTies.{run_payers}
use Rattle.pb_reasons.specs.CountedElection.{CountedElectionView, IsCountedElection}
use Rattle.pb_reasons.specs.Reasons.{ending_of, project_reason, round_of}
use Rattle.pb_reasons.specs.declared.project_reason.Added.{Added}
use Rattle.pb_reasons.specs.declared.project_reason.Ending.{Ending}
use Rattle.pb_reasons.specs.declared.project_reason.Ending.TheVariants as ending
use Rattle.pb_reasons.specs.declared.project_reason.Lost.{Lost}
use Rattle.pb_reasons.specs.declared.project_reason.Won.{Won}
use Rattle.pb_rounds.specs.MostVotes.{is_taken}
use Rattle.pb_rounds.specs.Run.{ElectedView}
use Rattle.pb_rows.specs.ExactText.{exact_text}
use Rattle.pb_commands.proofs.TablesTell.{read_here}
use Rattle.pb_commands.specs.Report.{in_units}

-- what one pays alone
pub units_of_one : (x : CountedElectionView) (amount parts : ℕ) → parts ≡ in_parts x.rule.options.grain (length x.election.voters) 1
    → exact_text amount parts ≡ in_units x amount 1
units_of_one x amount parts is =
    let parts' = in_parts x.rule.options.grain (length x.election.voters) 1 in
    let once : parts' ≡ 1 * parts' = omega arith in
    ap (exact_text amount) (is ∙ once)

-- what divides a price in parts is small
pub divisor_fits : (grain : Grain) (voters payers : ℕ) → voters ≤ most_voters → payers ≤ max 1 voters → (grain ≡ Hundredths → payers ≡ 1)
    → payers * in_parts grain voters 1 < 2 ^ 64
divisor_fits Hundredths voters payers few within alone = let one = alone refl in omega (arith, one)
divisor_fits Fine voters payers few within alone =
    let parts = in_parts Fine voters 1 in
    let small : parts ≤ 10000000000 = omega (arith, few) in
    let product : payers * parts ≤ 1000000 * parts = mul-le-mul_right parts (omega (arith, few, within)) in
    omega (arith, product, small)

-- the prices of a count have payers
pub counted_payers : (x : CountedElectionView) → IsCountedElection x
    → All (λ (w : ElectedView). HasPayers (support_in x.rule.options.grain x.election) w.exact) x.counted.outcome.elected
counted_payers x is =
    let o = x.counted.outcome in
    run_payers x.rule.options.measure (support_in x.rule.options.grain x.election) o.share o.elected o.rests is.is_count.run_is

-- and so has that of a project that is said to have won
abbrev exact_in : Ending → PriceView
exact_in (ending.Won w) = w.exact
exact_in other = record { amount = 0; payers = 1 }

not_won : (b : Bool) (added : Added) (lost : Lost) (won : Won) → cond b (ending.Added added) (ending.Lost lost) ≡ ending.Won won → ⊥
not_won true added lost won is = cc
not_won false added lost won is = cc

module _ (x : CountedElectionView) (is : IsCountedElection x) (place : ℕ) (won : Won) where
  by_round : (o : Option ElectedView) → slice_get x.counted.outcome.elected (round_of x.counted.outcome.elected place) ≡ o
      → ending_of x.rule.options.grain x.election x.counted place o ≡ ending.Won won → HasPayers (support_in x.rule.options.grain x.election) won.exact
  by_round None at said = absurd (not_won (is_taken x.counted.added place) _ _ won said)
  by_round (Some w) at said =
      let s = support_in x.rule.options.grain x.election in
      let elected = x.counted.outcome.elected in
      let here = read_here elected (round_of elected place) w at in
      subst (HasPayers s) (ap exact_in said)
      (subst (λ (v : ElectedView). HasPayers s v.exact) here.1 (counted_payers x is (round_of elected place) w here.0))

  pub won_payers : (project_reason x.rule.options.grain x.election x.counted place).ending ≡ ending.Won won
      → HasPayers (support_in x.rule.options.grain x.election) won.exact
  won_payers said = by_round (slice_get x.counted.outcome.elected (round_of x.counted.outcome.elected place)) refl said
