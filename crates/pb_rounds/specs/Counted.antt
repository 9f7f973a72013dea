-- What a count promises: of its outcome, and of each refusal.
use Rattle.std.specs.Prelude.{◌≡◌, ◌≢◌, ℕ, ◌≤◌, List, None, Some, false, true}
use Rattle.pb_core.specs.Election.{ElectionView}
use Rattle.pb_price.specs.Supporters.{support_in}
use Rattle.pb_rounds.specs.Cheapest.{IsRun}
use Rattle.pb_rounds.specs.Completed.{AreSpent, IsCompleted}
use Rattle.pb_rounds.specs.Count.{is_too_fine, share_by, spent_on, step_of}
use Rattle.pb_rounds.specs.CountFault.{refusal_of}
use Rattle.pb_rounds.specs.Outcome.{OutcomeView}
use Rattle.pb_rounds.specs.PriceSystem.{IsPriceSystem}
use Rattle.pb_rounds.specs.PricingRecord.{HasPricing}
use Rattle.pb_rounds.specs.declared.count_fault.CountFault.{CountFault}
use Rattle.pb_rounds.specs.declared.count_fault.CountFault.TheVariants.{NoMemory, RaisesSpent, TooFine}
use Rattle.pb_rounds.specs.declared.options.Completion.TheVariants.{Add1}
use Rattle.pb_rounds.specs.declared.options.CountOptions.{CountOptions}

module _ (e : ElectionView) (options : CountOptions) where
  -- The outcome is that of a run at its share, which is 0 without shares, else the opening share raised by so
  -- many steps: with Add1 by as many as complete it, else by none. So it is one outcome, for any number of workers.
  -- What is elected is within the budget, and a price system explains it; and the numbers of prices are the
  -- lengths of a pricing record.
  pub record IsCountOf (o : OutcomeView) : Type 0 where
    pub in_range : (refusal_of options ≡ None) × (is_too_fine e options ≡ false)
    pub share_is : o.share ≡ share_by options.completion options.grain e (step_of e options) o.raised
    pub run_is : IsRun options.measure (support_in options.grain e) o.share o.elected o.rests
    pub unraised : options.completion ≢ Add1 → o.raised ≡ 0
    pub completed : options.completion ≡ Add1
        → IsCompleted options.measure options.grain e (step_of e options) options.max_raises o.raised
    pub within_budget : spent_on (support_in options.grain e) o.elected ≤ e.budget
    pub price_system : (payments : List (List ℕ))
        × IsPriceSystem (support_in options.grain e) o.share o.elected o.rests payments
    pub priced : HasPricing options.measure (support_in options.grain e) options.workers o.share o.elected o.priced

  -- When each fault of a count comes: options that are out of their ranges, amounts that are too large to be counted so
  -- finely, and raises of which none up to the limit ends the completion. Out of memory aside, no other count is refused.
  abbrev pub IsCountFault : CountFault → Type 0
  IsCountFault RaisesSpent =
      (refusal_of options ≡ None) × (is_too_fine e options ≡ false) × (options.completion ≡ Add1)
      × AreSpent options.measure options.grain e (step_of e options) options.max_raises
  IsCountFault TooFine = (refusal_of options ≡ None) × (is_too_fine e options ≡ true)
  IsCountFault NoMemory = (refusal_of options ≡ None) × (is_too_fine e options ≡ false)
  IsCountFault fault = refusal_of options ≡ Some fault
