-- What the elected so far cost, and what one more adds.
use Rattle.std.proofs.Common.{◌≡◌, ℕ, ◌+◌, ◌<◌, ◌≤◌, List, length, get_or, take, sym, ◌∙◌, ap}
use Rattle.std.specs.Prelude.{All}
use Rattle.std.proofs.lemmas.List.{get_or-map}
use Rattle.std.proofs.lemmas.List.Sums.{sum_by_more, sum_by_more_le}
use Rattle.pb_core.specs.Election.{ElectionView, ProjectView}
use Rattle.pb_price.specs.Supporters.{cost_at, support_of}
use Rattle.pb_rounds.specs.Count.{spent_on}
use Rattle.pb_rounds.specs.Run.{ElectedView}

pub cost_at-known : (e : ElectionView) (place : ℕ) (p : ProjectView)
    → place < length e.projects → p ≡ get_or e.projects place p → cost_at (support_of e) place ≡ p.cost
cost_at-known e place p known is = get_or-map (λ (q : ProjectView). q.cost) e.projects place p 0 known ∙ ap (λ (q : ProjectView). q.cost) (sym is)

-- the i-th of the elected is this one, and elects this project
pub record IsWinner (e : ElectionView) (elected : List ElectedView) (i : ℕ) (w : ElectedView) (p : ProjectView) : Type 0 where
  pub below : i < length elected
  pub here : w ≡ get_or elected i w
  pub known : w.place < length e.projects
  pub project : p ≡ get_or e.projects w.place p

-- the winner that a turn of a loop has, as the loop reads it
pub the_winner : (e : ElectionView) (elected : List ElectedView) (i : ℕ) (w inside : ElectedView) (p : ProjectView) (projects : List ProjectView)
    → All (λ (v : ElectedView). v.place < length e.projects) elected → i < length elected → w ≡ get_or elected i w → inside ≡ w
    → projects ≡ e.projects → p ≡ get_or projects inside.place p → IsWinner e elected i w p
the_winner e elected i w inside p projects known below here same all is = record {
  below = below;
  here = here;
  known = rw (← here) at (known i w below);
  project = rw (all, same) at is;
}

-- what the elected so far cost with one more
pub spent_more : (e : ElectionView) (elected : List ElectedView) (i : ℕ) (w : ElectedView) (p : ProjectView)
    → IsWinner e elected i w p → spent_on (support_of e) (take (i + 1) elected) ≡ spent_on (support_of e) (take i elected) + p.cost
spent_more e elected i w p h =
    sum_by_more (λ (v : ElectedView). cost_at (support_of e) v.place) elected i w h.below
    ∙ ap (λ (cost : ℕ). spent_on (support_of e) (take i elected) + cost)
    (ap (λ (v : ElectedView). cost_at (support_of e) v.place) (sym h.here) ∙ cost_at-known e w.place p h.known h.project)

pub spent_more_le : (e : ElectionView) (elected : List ElectedView) (i : ℕ) (w : ElectedView) (p : ProjectView)
    → IsWinner e elected i w p → spent_on (support_of e) (take i elected) + p.cost ≤ spent_on (support_of e) elected
spent_more_le e elected i w p h =
    let le = sum_by_more_le (λ (v : ElectedView). cost_at (support_of e) v.place) elected i w h.below in
    let at : cost_at (support_of e) (get_or elected i w).place ≡ p.cost =
    ap (λ (v : ElectedView). cost_at (support_of e) v.place) (sym h.here) ∙ cost_at-known e w.place p h.known h.project in
    rw at at le
