-- The price of an elected project has payers.
use Rattle.std.proofs.Common.{◌≡◌, ◌∙◌, ℕ, zero, suc, Bool, true, false, List, [], ◌∷◌, Option, Some, None, ap, arith, refl, subst, sym}
use Rattle.std.specs.Prelude.{All, if◌then◌else◌, slice_get}
use Rattle.std.proofs.lemmas.Option.{none-some, same_Some}
use Rattle.pb_price.specs.Price.{HasPayers, PriceView}
use Rattle.pb_price.specs.Supporters.{support_in}
use Rattle.pb_reasons.proofs.RoundTies.{run_payers}
use Rattle.pb_reasons.specs.CountedElection.{CountedElectionView, IsCountedElection}
use Rattle.pb_reasons.specs.Reasons.{ending_of, project_reason, round_of}
use Rattle.pb_reasons.specs.declared.project_reason.Added.{Added}
use Rattle.pb_reasons.specs.declared.project_reason.Ending.{Ending}
use Rattle.pb_reasons.specs.declared.project_reason.Ending.TheVariants as ending
use Rattle.pb_reasons.specs.declared.project_reason.Lost.{Lost}
use Rattle.pb_reasons.specs.declared.project_reason.Won.{Won}
use Rattle.pb_rounds.specs.MostVotes.{is_taken}
use Rattle.pb_rounds.specs.Run.{ElectedView}

-- what is so of each is so of one
all_at : {X : Type 0} (P : X → Type 0) (xs : List X) (k : ℕ) (x : X) → All P xs → slice_get xs k ≡ Some x → P x
all_at P [] zero x all is = absurd (none-some x is)
all_at P [] (suc k) x all is = absurd (none-some x is)
all_at P (y ∷ ys) zero x all is = subst P (same_Some y x is) (all 0 y (omega arith))
all_at P (y ∷ ys) (suc k) x all is = all_at P ys k x (λ j d below. all (suc j) d (omega (arith, below))) is

abbrev exact_in : Ending → PriceView
exact_in (ending.Won w) = w.exact
exact_in (ending.Added a) = record { amount = 0; payers = 0 }
exact_in (ending.Lost l) = record { amount = 0; payers = 0 }

never : (b : Bool) (a : Added) (l : Lost) (w : Won) → (if b then ending.Added a else ending.Lost l) ≡ ending.Won w → ⊥
never true a l w is = cc is
never false a l w is = cc is

module _ (x : CountedElectionView) (h : IsCountedElection x) (place : ℕ) (won : Won) where
  ended : (at : Option ElectedView) → slice_get x.counted.outcome.elected (round_of x.counted.outcome.elected place) ≡ at
      → ending_of x.rule.options.grain x.election x.counted place at ≡ ending.Won won
      → HasPayers (support_in x.rule.options.grain x.election) won.exact
  ended (Some w) there is =
      let o = x.counted.outcome in let s = support_in x.rule.options.grain x.election in
      let all : All (λ (v : ElectedView). HasPayers s v.exact) o.elected = run_payers x.rule.options.measure s o.share o.elected o.rests h.is_count.run_is in
      let same : w.exact ≡ won.exact = ap exact_in is in
      subst (HasPayers s) same (all_at (λ (v : ElectedView). HasPayers s v.exact) o.elected (round_of o.elected place) w all there)
  ended None there is = absurd (never (is_taken x.counted.added place) _ _ won is)

  pub won_has_payers : (project_reason x.rule.options.grain x.election x.counted place).ending ≡ ending.Won won
      → HasPayers (support_in x.rule.options.grain x.election) won.exact
  won_has_payers is = ended (slice_get x.counted.outcome.elected (round_of x.counted.outcome.elected place)) refl is
