-- The projects of places, and the winners' parts of the budget.
use Rattle.std.proofs.Common.{◌≡◌, ◌<◌, ◌+◌, ℕ, List, [], ◌∷◌, ◌++◌, get_or, length, sym, take, ◌∙◌, ap, arith}
use Rattle.std.specs.Prelude.{sum_by}
use Rattle.std.proofs.lemmas.List.{get_or_default, take_more}
use Rattle.std.proofs.lemmas.List.Sums.{sum_by-cons}
use Rattle.pb_core.specs.Election.{ElectionView, ProjectView}
use Rattle.pb_page.specs.Content.{Part}
use Rattle.pb_page.specs.Inner.Grown.{Grows}
use Rattle.pb_page.specs.Page.{blocks, project_at}
use Rattle.pb_page.specs.declared.markup.form.Form.{Form}
use Rattle.pb_page.proofs.Grown.{then}
use Rattle.pb_price.specs.Supporters.{cost_at, support_of}
use Rattle.pb_reasons.proofs.PlaceSums.{IsPlaced}

pub the_project : (e : ElectionView) (place : ℕ) (p : ProjectView) → place < length e.projects → p ≡ get_or e.projects place p → p ≡ project_at e place
the_project e place p known is = is ∙ get_or_default e.projects place p (record { id = []; name = []; cost = 0 }) known

pub project_read : (e : ElectionView) (projects : List ProjectView) (place : ℕ) (p : ProjectView) → place < length e.projects → projects ≡ e.projects
    → p ≡ get_or projects place p → p ≡ project_at e place
project_read e projects place p known all is = the_project e place p known (rw all at is)

-- the parts of the winners with one more
blocks_more : (form : Form) (e : ElectionView) (before total : ℕ) (xs : List ℕ) (place : ℕ) → total ≡ before + sum_by (cost_at (support_of e)) xs
    → blocks form e before (xs ++ place ∷ []) ≡ blocks form e before xs ++ blocks form e total (place ∷ [])
blocks_more form e before total [] place sum =
    let none : before ≡ total = omega (arith, sum) in ap (λ (n : ℕ). blocks form e n (place ∷ [])) none
blocks_more form e before total (x ∷ xs) place sum =
    let cost = cost_at (support_of e) x in
    let parts : sum_by (cost_at (support_of e)) (x ∷ xs) ≡ cost + sum_by (cost_at (support_of e)) xs = sum_by-cons (cost_at (support_of e)) x xs in
    let rest : total ≡ (before + cost) + sum_by (cost_at (support_of e)) xs = omega (arith, sum, parts) in
    ap (λ (t : List Part). blocks form e before (x ∷ []) ++ t) (blocks_more form e (before + cost) total xs place rest)

pub block_more : (form : Form) (e : ElectionView) (places : List ℕ) (i place : ℕ) (p : ProjectView) (before : ℕ) (old middle new : List ℕ)
    → IsPlaced e places i place p → before ≡ sum_by (cost_at (support_of e)) (take i places) → Grows old middle (blocks form e 0 (take i places))
    → Grows middle new (blocks form e before (place ∷ [])) → Grows old new (blocks form e 0 (take (i + 1) places))
block_more form e places i place p before old middle new placed sum one two =
    let total : before ≡ 0 + sum_by (cost_at (support_of e)) (take i places) = omega (arith, sum) in
    let all = ap (blocks form e 0) (take_more places i place placed.below ∙ ap (λ (q : ℕ). take i places ++ q ∷ []) (sym placed.here)) ∙ blocks_more form e 0 before (take i places) place total in
    rw all (then _ _ _ _ _ one two)
