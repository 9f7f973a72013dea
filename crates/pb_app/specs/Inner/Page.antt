-- A page of a count.
use Rattle.std.specs.Prelude.{◌≡◌, ◌≢◌, ◌==◌, ◌+◌, ◌≤◌, ℕ, ⊤, Bool, false, true, List, IfSome, None, Option, Some, count_by, length, slice_get, take}
use Rattle.pb_commands.specs.Beside.{BesideRefuses}
use Rattle.pb_commands.specs.Closed.{CountRefuses}
use Rattle.pb_commands.specs.Decided.{Applies}
use Rattle.pb_commands.specs.declared.decide.Decide.{Decide}
use Rattle.pb_commands.specs.declared.decide.DecidedBy.{DecidedBy}
use Rattle.pb_commands.specs.declared.decide.DecidedBy.TheVariants.{Choices, Worth}
use Rattle.pb_command_line.specs.declared.task.PageRun.{PageRun}
use Rattle.pb_core.specs.Election.{ElectionView}
use Rattle.pb_page.specs.Page.{IsPage}
use Rattle.pb_faults.specs.declared.fault.AppFault.{AppFault}
use Rattle.pb_page.specs.declared.facts.Decided.{Decided}
use Rattle.pb_page.specs.declared.facts.Facts.{Facts}
use Rattle.pb_reasons.specs.CountedElection.{CountedElectionView, IsCountIn, IsCountedElection}
use Rattle.pb_rounds.specs.declared.rule.Rule.{Rule}
use Rattle.pb_streams.specs.declared.run_refusal.RunRefusal.{RunRefusal}
use Rattle.pb_streams.specs.declared.run_refusal.RunRefusal.TheVariants.{Told}
use Rattle.pb_streams.specs.declared.run_refusal.End.TheVariants.{Page}

-- the facts are as the run asks: the title if one is given, where the files and the page that recounts lie, and the
-- comparison; and the count was decided so
abbrev pub AreAsked : PageRun → Option Decided → Facts → Type 0
AreAsked run decided facts = IfSome run.title (λ title. facts.title ≡ title)
    × (facts.files ≡ run.files) × (facts.recount ≡ run.recount) × (facts.compares ≡ run.compares) × (facts.decided ≡ decided)

-- the text is the page of this count, with facts that are as the run asks
abbrev pub IsPageOf : PageRun → Option Decided → CountedElectionView → List ℕ → Type 0
IsPageOf run decided x text = IsCountedElection x × (facts : Facts) × AreAsked run decided facts × IsPage x facts text

-- what a page says of a decision: whether it is by worth; and all of it
abbrev pub is_worth : DecidedBy → Bool
is_worth Choices = false
is_worth Worth = true

abbrev pub told : Rule → Decide → (own others : ℕ) → Decided
told rule decide own others = record {
  rule = rule;
  other = decide.other;
  by_worth = is_worth decide.by;
  own = own;
  others = others;
}

-- the count of the election by this rule; or by the one that applies, with what a page says of that
abbrev pub IsCountFor : Rule → Option Decide → ElectionView → CountedElectionView × Option Decided → Type 0
IsCountFor rule None e counted = IsCountIn rule e counted.0 × (counted.1 ≡ None)
IsCountFor rule (Some decide) e counted = (own others : ℕ) × IsCountIn counted.0.rule e counted.0
    × Applies decide rule e (counted.0.rule, own, others) × (counted.1 ≡ Some (told rule decide own others))

-- what refuses it
abbrev pub PageRefuses : Rule → Option Decide → List ℕ → Option (List ℕ) → ElectionView → AppFault → Type 0
PageRefuses rule None = CountRefuses rule
PageRefuses rule (Some decide) = BesideRefuses rule decide.other

-- the text is the page of such a count
abbrev pub IsPageBy : PageRun → Rule → Option Decide → ElectionView → List ℕ → Type 0
IsPageBy run rule decide e text = (counted : CountedElectionView × Option Decided)
    × IsCountFor rule decide e counted × IsPageOf run counted.1 counted.0 text

-- two texts are alike in so many bytes, and differ in the next one
pub record FirstDiffers (made published : List ℕ) (at : ℕ) : Type 0 where
  pub alike : take at made ≡ take at published
  pub apart : slice_get made at ≢ slice_get published at
  pub within : at ≤ length published

-- the line of a text, from 1, in which the byte behind so many is
abbrev pub line_of : List ℕ → ℕ → ℕ
line_of text at = count_by (λ byte. byte == 10) (take at text) + 1

-- where a refusal tells of a published page that differs, this holds of the line that it tells
abbrev pub IfDiffers : RunRefusal → (ℕ → Type 0) → Type 0
IfDiffers (Told (Page refusal) words) P = P refusal.line
IfDiffers refusal P = ⊤
