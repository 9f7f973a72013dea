-- The projects of an election, copied one by one, with another cost for one of them.
use Rattle.std.proofs.Common.{◌≡◌, ◌∙◌, ℕ, ◌+◌, ◌<◌, List, Contains, ◌∷◌, ◌++◌, [], get_or, length, map, slice_set, take, sym, ap, arith}
use Rattle.std.specs.List.{slice_index_or}
use Rattle.std.proofs.lemmas.List.{get_or-map, get_or-set_other, get_or-set_same, get_or-take, get_or_default, length-map, length-take, map_more, map_push, set-get_or, take_more}
use Rattle.pb_core.proofs.Elections.{not-Contains-ids}
use Rattle.pb_core.specs.Election.{ProjectView}
use Rattle.pb_core.specs.Inner.Ids.{AreDistinct}

-- a project of an election has another id than those before it
pub another_id : (projects : List ProjectView) (i : ℕ) (p : ProjectView) → AreDistinct (map (λ q. q.id) projects) → i < length projects → p ≡ slice_index_or projects i p
    → ¬ Contains (map (λ q. q.id) (take i projects)) p.id
another_id projects i p distinct within at =
    not-Contains-ids (λ (q : ProjectView). q.id) (take i projects) p.id (λ k d below same.
    let near : k < i = omega (arith, below, length-take i projects, within) in
    let one : slice_index_or (map (λ (q : ProjectView). q.id) projects) k p.id ≡ (slice_index_or projects k d).id = get_or-map (λ (q : ProjectView). q.id) projects k d p.id (omega (arith, near, within)) in
    let two : slice_index_or (map (λ (q : ProjectView). q.id) projects) i p.id ≡ p.id = get_or-map (λ (q : ProjectView). q.id) projects i p p.id within ∙ ap (λ (q : ProjectView). q.id) (sym at) in
    distinct k i p.id near (omega (arith, within, length-map projects (λ (q : ProjectView). q.id)))
    (one ∙ ap (λ (q : ProjectView). q.id) (sym (get_or-take i projects k d near)) ∙ same ∙ sym two))

-- a number that a list has at a place may be put there
set_same : (xs : List ℕ) (i x : ℕ) → i < length xs → x ≡ get_or xs i x → slice_set xs i x ≡ xs
set_same xs i x below at = ap (slice_set xs i) (at ∙ get_or_default xs i x 0 below) ∙ set-get_or xs i 0

-- ids, with that of the next project
pub ids_more : (projects own after : List ProjectView) (i : ℕ) (p q : ProjectView) → i < length projects → p ≡ get_or projects i p
    → map (λ r. r.id) own ≡ map (λ r. r.id) (take i projects) → after ≡ own ++ q ∷ [] → q.id ≡ p.id
    → map (λ r. r.id) after ≡ map (λ r. r.id) (take (i + 1) projects)
ids_more projects own after i p q below at ids pushed same =
    ap (map (λ (r : ProjectView). r.id)) pushed ∙ map_push (λ (r : ProjectView). r.id) own q
    ∙ (λ t. ids t ++ (same ∙ ap (λ (r : ProjectView). r.id) at) t ∷ [])
    ∙ sym (map_more (λ (r : ProjectView). r.id) projects i p below)

-- costs, with that of the next project
pub costs_more : (costs : List ℕ) (own after : List ProjectView) (i : ℕ) (q : ProjectView) → i < length costs
    → map (λ r. r.cost) own ≡ take i costs → after ≡ own ++ q ∷ [] → q.cost ≡ get_or costs i q.cost
    → map (λ r. r.cost) after ≡ take (i + 1) costs
costs_more costs own after i q below so_far pushed at =
    ap (map (λ (r : ProjectView). r.cost)) pushed ∙ map_push (λ (r : ProjectView). r.cost) own q
    ∙ (λ t. so_far t ++ at t ∷ []) ∙ sym (take_more costs i q.cost below)

-- the cost at the place that is changed, and at any other
pub cost_here : (projects : List ProjectView) (place cost i : ℕ) → i < length projects → i ≡ place
    → cost ≡ get_or (slice_set (map (λ r. r.cost) projects) place cost) i cost
cost_here projects place cost i below here =
    sym (ap (λ n. get_or (slice_set (map (λ (r : ProjectView). r.cost) projects) n cost) i cost) (sym here)
    ∙ get_or-set_same (map (λ (r : ProjectView). r.cost) projects) i cost cost (omega (arith, below, length-map projects (λ (r : ProjectView). r.cost))))

pub cost_there : (projects : List ProjectView) (place cost i : ℕ) (p : ProjectView) → i < length projects → p ≡ get_or projects i p → ¬ (i ≡ place)
    → p.cost ≡ get_or (slice_set (map (λ r. r.cost) projects) place cost) i p.cost
cost_there projects place cost i p below at there =
    ap (λ (r : ProjectView). r.cost) at ∙ sym (get_or-map (λ (r : ProjectView). r.cost) projects i p p.cost below)
    ∙ sym (get_or-set_other (map (λ (r : ProjectView). r.cost) projects) place i cost p.cost there)

-- a project's own cost may be put at its place
pub own_cost : (projects : List ProjectView) (place : ℕ) (p : ProjectView) → place < length projects → p ≡ get_or projects place p
    → slice_set (map (λ r. r.cost) projects) place p.cost ≡ map (λ r. r.cost) projects
own_cost projects place p below at =
    set_same (map (λ (r : ProjectView). r.cost) projects) place p.cost (omega (arith, below, length-map projects (λ (r : ProjectView). r.cost)))
    (ap (λ (r : ProjectView). r.cost) at ∙ sym (get_or-map (λ (r : ProjectView). r.cost) projects place p p.cost below))
