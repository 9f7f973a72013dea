-- Why the raises of a count ended.
use Rattle.std.specs.Prelude.{◌≡◌, ◌≢◌, ◌+◌, ◌<◌, filter, map, not}
use Rattle.pb_core.specs.Election.{ElectionView}
use Rattle.pb_price.specs.Supporters.{support_in}
use Rattle.pb_rounds.specs.Completed.{After, IsExhausted}
use Rattle.pb_rounds.specs.Count.{spent_on, step_of}
use Rattle.pb_rounds.specs.Outcome.{OutcomeView}
use Rattle.pb_rounds.specs.Run.{is_elected}
use Rattle.pb_rounds.specs.declared.options.Completion.TheVariants as completion
use Rattle.pb_rounds.specs.declared.options.CountOptions.{CountOptions}
use Rattle.pb_reasons.specs.declared.raise_end.RaiseEnd.{RaiseEnd}
use Rattle.pb_reasons.specs.declared.raise_end.RaiseEnd.TheVariants.{Plain, Exhausted, Over}

-- Why the raises ended of a count by these options that has this outcome: without Add1 there are none; with it
-- the outcome is exhausted; or it is not, and one raise more, to this share, elects projects that cost this
-- much together, more than the budget: these only then, and these of the outcome's no more.
abbrev pub IsRaiseEnd : ElectionView → CountOptions → OutcomeView → RaiseEnd → Type 0
IsRaiseEnd e options o Plain = options.completion ≢ completion.Add1
IsRaiseEnd e options o Exhausted = (options.completion ≡ completion.Add1) × IsExhausted (support_in options.grain e) e.budget o.elected
IsRaiseEnd e options o (Over next) = (options.completion ≡ completion.Add1) × (¬ IsExhausted (support_in options.grain e) e.budget o.elected)
    × (next.share ≡ o.share + step_of e options) × (e.budget < next.cost)
    × After options.measure options.grain e (step_of e options) (o.raised + 1) (λ elected. (next.cost ≡ spent_on (support_in options.grain e) elected)
    × (next.only_then.items ≡ map (λ w. w.place) (filter (λ w. not (is_elected o.elected w.place)) elected))
    × (next.no_more.items ≡ map (λ w. w.place) (filter (λ w. not (is_elected elected w.place)) o.elected)))
