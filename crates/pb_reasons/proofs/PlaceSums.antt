-- What the projects at the places so far cost, and what one more adds.
use Rattle.std.proofs.Common.{◌≡◌, ℕ, ◌+◌, ◌<◌, ◌≤◌, List, length, get_or, take, sym, ◌∙◌, ap}
use Rattle.std.specs.Prelude.{All, sum_by}
use Rattle.std.proofs.lemmas.List.Sums.{sum_by_more, sum_by_more_le}
use Rattle.pb_core.specs.Election.{ElectionView, ProjectView}
use Rattle.pb_price.specs.Supporters.{cost_at, support_of}
use Rattle.pb_reasons.proofs.WinnerSums.{cost_at-known}

-- the i-th of these places is this one, and this project's
pub record IsPlaced (e : ElectionView) (places : List ℕ) (i place : ℕ) (p : ProjectView) : Type 0 where
  pub below : i < length places
  pub here : place ≡ get_or places i place
  pub known : place < length e.projects
  pub project : p ≡ get_or e.projects place p

-- the project that a turn of a loop has, as the loop reads it
pub the_placed : (e : ElectionView) (places : List ℕ) (i place : ℕ) (p : ProjectView) (projects : List ProjectView)
    → All (λ (q : ℕ). q < length e.projects) places → i < length places → place ≡ get_or places i place
    → projects ≡ e.projects → p ≡ get_or projects place p → IsPlaced e places i place p
the_placed e places i place p projects known below here all is = record {
  below = below;
  here = here;
  known = rw (← here) at (known i place below);
  project = rw all at is;
}

-- what the projects so far cost with one more
pub costs_more : (e : ElectionView) (places : List ℕ) (i place : ℕ) (p : ProjectView) → IsPlaced e places i place p
    → sum_by (cost_at (support_of e)) (take (i + 1) places) ≡ sum_by (cost_at (support_of e)) (take i places) + p.cost
costs_more e places i place p h =
    sum_by_more (cost_at (support_of e)) places i place h.below
    ∙ ap (λ (cost : ℕ). sum_by (cost_at (support_of e)) (take i places) + cost)
    (ap (cost_at (support_of e)) (sym h.here) ∙ cost_at-known e place p h.known h.project)

pub costs_more_le : (e : ElectionView) (places : List ℕ) (i place : ℕ) (p : ProjectView) → IsPlaced e places i place p
    → sum_by (cost_at (support_of e)) (take i places) + p.cost ≤ sum_by (cost_at (support_of e)) places
costs_more_le e places i place p h =
    let le = sum_by_more_le (cost_at (support_of e)) places i place h.below in
    let at : cost_at (support_of e) (get_or places i place) ≡ p.cost = ap (cost_at (support_of e)) (sym h.here) ∙ cost_at-known e place p h.known h.project in
    rw at at le
