-- What a count comes to: its outcome, and what is added to that.
use Rattle.std.specs.Prelude.{◌≡◌, ℕ, ◌-◌, ◌||◌, ◌++◌, Bool, List, [], if◌then◌else◌, map}
use Rattle.pb_core.specs.Election.{ElectionView}
use Rattle.pb_rounds.specs.MostVotes.{is_taken, most_votes_first}
use Rattle.pb_price.specs.Supporters.{support_of}
use Rattle.pb_rounds.specs.Count.{spent_on}
use Rattle.pb_rounds.specs.Counted.{IsCountOf}
use Rattle.pb_rounds.specs.Outcome.{OutcomeView}
use Rattle.pb_rounds.specs.RuleNames.{fills_up}
use Rattle.pb_rounds.specs.Run.{is_elected}
use Rattle.pb_rounds.specs.declared.rule.FillUp.{FillUp}
use Rattle.pb_rounds.specs.declared.rule.Rule.{Rule}

-- an outcome, how it is filled up, and the projects that are added, by place, in their order
pub record CountedView : Type 0 where
  pub outcome : OutcomeView
  pub fill_up : FillUp
  pub added : List ℕ

-- what a count comes to whose outcome is this, and which is so filled up: out of what the elected leave of the
-- budget
abbrev pub counted : ElectionView → FillUp → OutcomeView → CountedView
counted e fill_up o = let s = support_of e in
    let added = most_votes_first s (map (λ w. w.place) o.elected) (e.budget - spent_on s o.elected) in
    record { outcome = o; fill_up = fill_up; added = if fills_up fill_up then added else [] }

-- a count of the election by this rule comes to this
abbrev pub IsCountBy : Rule → ElectionView → CountedView → Type 0
IsCountBy rule e c = (o : OutcomeView) × IsCountOf e rule.options o × (c ≡ counted e rule.fill_up o)

-- the elected, in order of election, and then the added in theirs; whether a project is one of these
abbrev pub winners_of : CountedView → List ℕ
winners_of c = map (λ w. w.place) c.outcome.elected ++ c.added

abbrev pub is_selected : CountedView → ℕ → Bool
is_selected c place = is_elected c.outcome.elected place || is_taken c.added place
