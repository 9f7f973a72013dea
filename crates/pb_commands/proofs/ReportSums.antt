-- An elected project, and an added one, in the report's words.
use Rattle.std.proofs.Common.{◌≡◌, ℕ, ◌+◌, ◌<◌, List, [], ◌∷◌, ◌++◌, length, get_or, take, sym, ◌∙◌, ap, map}
use Rattle.std.specs.Prelude.{codes, decimal}
use Rattle.std.proofs.lemmas.List.{get_or-map, map_more}
use Rattle.pb_core.specs.Election.{ElectionView, ProjectView, project_ids}
use Rattle.pb_core.specs.MoneyText.{money_text}
use Rattle.pb_rounds.specs.MostVotes.{votes_at}
use Rattle.pb_price.specs.Supporters.{support_of}
use Rattle.pb_reasons.proofs.WinnerSums.{IsWinner, cost_at-known}
use Rattle.pb_reasons.specs.CountedElection.{CountedElectionView}
use Rattle.pb_rounds.specs.Run.{ElectedView}
use Rattle.pb_rows.specs.Writing.{text_of_row, text_of_rows}
use Rattle.pb_commands.specs.Inner.Report.{added_row, elected_row}
use Rattle.pb_commands.specs.Report.{in_units}
use Rattle.pb_commands.proofs.RowsGrown.{row_grown}

pub id_at-known : (e : ElectionView) (place : ℕ) (p : ProjectView)
    → place < length e.projects → p ≡ get_or e.projects place p → get_or (project_ids e) place [] ≡ p.id
id_at-known e place p known is = get_or-map (λ (q : ProjectView). q.id) e.projects place p [] known ∙ ap (λ (q : ProjectView). q.id) (sym is)

-- the rows of the elected so far with one more
pub elected_grown : (x : CountedElectionView) (elected : List ElectedView) (i : ℕ) (w : ElectedView) (p : ProjectView) (old first second : List ℕ)
    → IsWinner x.election elected i w p
    → first ≡ old ++ text_of_rows (map (elected_row x) (take i elected))
    → second ≡ first ++ text_of_row (codes "elected" ∷ p.id ∷ money_text p.cost ∷ in_units x w.exact.amount w.exact.payers ∷ [])
    → second ≡ old ++ text_of_rows (map (elected_row x) (take (i + 1) elected))
elected_grown x elected i w p old first second h before grown =
    rw (map_more (elected_row x) elected i w h.below, ← h.here, id_at-known x.election w.place p h.known h.project, cost_at-known x.election w.place p h.known h.project)
    (row_grown _ _ old first second before grown)

-- the rows of the added so far with one more
pub added_grown : (e : ElectionView) (added : List ℕ) (i place : ℕ) (p : ProjectView) (votes : ℕ) (old first second : List ℕ)
    → i < length added → place ≡ get_or added i place → place < length e.projects → p ≡ get_or e.projects place p
    → votes ≡ votes_at (support_of e) place
    → first ≡ old ++ text_of_rows (map (added_row e) (take i added))
    → second ≡ first ++ text_of_row (codes "added" ∷ p.id ∷ money_text p.cost ∷ decimal votes ∷ [])
    → second ≡ old ++ text_of_rows (map (added_row e) (take (i + 1) added))
added_grown e added i place p votes old first second below here known is count before grown =
    rw (map_more (added_row e) added i place below, ← here, id_at-known e place p known is, cost_at-known e place p known is, ← count)
    (row_grown _ _ old first second before grown)
