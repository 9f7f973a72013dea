-- Laws of the reading of rows one by one.
use Rattle.std.proofs.Common.{◌≡◌, ◌<◌, ◌==◌, ℕ, Bool, cond, not, List, [], ◌∷◌, ◌++◌, length, Option, Some, None, Result, Ok, Err, refl, ap, sym, ◌∙◌, true, false, arith}
use Rattle.std.specs.Result.{result_unwrap_or}
use Rattle.std.specs.Prelude.{codes, find, option_map, nat_le, reverse}
use Rattle.std.proofs.lemmas.List.{reverse-append}
use Rattle.std.specs.Option.{option_map_or}
use Rattle.std.proofs.lemmas.Bool.{eqb-false, leb-false, lt-leb, ne_eqb, not-false}
use Rattle.pb_core.specs.Election.{ElectionView, project_ids, voter_ids, most_projects, most_voters}
use Rattle.pb_core.specs.Money.{money_of}
use Rattle.pb_core.specs.declared.money_fault.MoneyFault.{MoneyFault}
use Rattle.pb_core.specs.declared.money_fault.MoneyFault.TheVariants as money
use Rattle.pb_rows.specs.Reading.{Fields}
use Rattle.pb_read.proofs.KeyFacts.{with_each, with_each-same}
use Rattle.pb_read.proofs.ListFacts.{cond_none, some≢none}
use Rattle.pb_read.specs.Inner.Forms.{next_row}
use Rattle.pb_read.specs.Columns.{has_fields}
use Rattle.pb_read.specs.Faults.{fails_by}
use Rattle.pb_read.specs.Stages.{head, plain}
use Rattle.pb_read.specs.Inner.Machine.{Position, with_row, step, bind, run, head_checks, project_checks, vote_checks, vote_row_checks, row_fault}
use Rattle.pb_read.specs.Lengths.{max_length_of}
use Rattle.pb_read.specs.MetaRows.{meta_of, value_of}
use Rattle.pb_read.specs.Rows.{field, is_empty, is_word}
use Rattle.pb_read.specs.Voting.{is_among, names_only}
use Rattle.pb_read.specs.declared.columns.ProjectColumns.{ProjectColumns}
use Rattle.pb_read.specs.declared.columns.VoteColumns.{VoteColumns}
use Rattle.pb_read.specs.declared.fault.ReadKind.{ReadKind}
use Rattle.pb_read.specs.declared.fault.ReadKind.TheVariants as kind
use Rattle.pb_read.specs.declared.meta.Meta.{Meta}
use Rattle.pb_read.specs.declared.progress.Stage.TheVariants.{InMeta, InProjects, InVotes}
use Rattle.pb_read.specs.declared.section.Section.TheVariants as section

bind_bind : (r : Result Position ReadKind) (f g : Position → Result Position ReadKind) → bind (bind r f) g ≡ bind r (λ p. bind (f p) g)
bind_bind (Ok p) f g = refl
bind_bind (Err kind) f g = refl

bind_same : (r : Result Position ReadKind) (f g : Position → Result Position ReadKind) → ((p : Position) → f p ≡ g p) → bind r f ≡ bind r g
bind_same (Ok p) f g h = h p
bind_same (Err kind) f g h = refl

pub run-append : (p : Position) (xs ys : List Fields) → run p (xs ++ ys) ≡ bind (run p xs) (λ q. run q ys)
run-append p [] ys = refl
run-append p (x ∷ xs) ys =
    bind_same (step p (next_row x)) _ _ (λ q. run-append q xs ys) ∙ sym (bind_bind (step p (next_row x)) (λ q. run q xs) (λ q. run q ys))

option_map_cond : {A B : Type 0} (f : A → B) (t : Bool) (x : A) (o : Option A) → option_map f (cond t (Some x) o) ≡ cond t (Some (f x)) (option_map f o)
option_map_cond f true x o = refl
option_map_cond f false x o = refl

option_map_or_cond : {A B : Type 0} (f : A → B) (t : Bool) (x : A) (o : Option A) (d : B) → option_map_or f (cond t (Some x) o) d ≡ cond t (f x) (option_map_or f o d)
option_map_or_cond f true x o d = refl
option_map_or_cond f false x o d = refl

pub value_of-push : (key : List ℕ) (rows : List Fields) (row : Fields) → value_of key (rows ++ row ∷ []) ≡ cond (is_word key (field row 0)) (Some (field row 1)) (value_of key rows)
value_of-push key rows row =
    ap (λ xs. option_map (λ x. field x 1) (find (λ x. is_word key (field x 0)) xs)) (reverse-append rows (row ∷ []))
    ∙ option_map_cond (λ x. field x 1) (is_word key (field row 0)) row (find (λ x. is_word key (field x 0)) (reverse rows))

-- META's rows with one more
pub meta_of-push : (rows : List Fields) (row : Fields) → meta_of (rows ++ row ∷ []) ≡ with_row (meta_of rows) row
meta_of-push rows row = (λ i. record { budget = budget i; approval = approval i; max_length = max_length i }) ∙ with_each-same (meta_of rows) row
  where
    budget : option_map money_of (value_of (codes "budget") (rows ++ row ∷ [])) ≡ (with_each (meta_of rows) row).budget
    budget = ap (option_map money_of) (value_of-push (codes "budget") rows row) ∙ option_map_cond money_of (is_word (codes "budget") (field row 0)) (field row 1) (value_of (codes "budget") rows)

    approval : option_map (is_word (codes "approval")) (value_of (codes "vote_type") (rows ++ row ∷ [])) ≡ (with_each (meta_of rows) row).approval
    approval = ap (option_map (is_word (codes "approval"))) (value_of-push (codes "vote_type") rows row) ∙ option_map_cond (is_word (codes "approval")) (is_word (codes "vote_type") (field row 0)) (field row 1) (value_of (codes "vote_type") rows)

    max_length : option_map_or max_length_of (value_of (codes "max_length") (rows ++ row ∷ [])) (Ok None) ≡ (with_each (meta_of rows) row).max_length
    max_length =
        ap (λ o. option_map_or max_length_of o (Ok None)) (value_of-push (codes "max_length") rows row)
        ∙ option_map_or_cond max_length_of (is_word (codes "max_length") (field row 0)) (field row 1) (value_of (codes "max_length") rows) (Ok None)

pub head_fault : (meta : Meta) (e : ElectionView) → row_fault (InMeta meta, e) (head section.Projects) ≡ head_checks meta.budget meta.approval meta.max_length
unfolding row_fault
head_fault meta e = go meta.budget meta.approval meta.max_length
  where
    go : (budget : Option (Result ℕ MoneyFault)) (approval : Option Bool) (max_length : Result (Option ℕ) ReadKind) →
        row_fault (InMeta (record { budget = budget; approval = approval; max_length = max_length }), e) (head section.Projects) ≡ head_checks budget approval max_length
    go None approval max_length = refl
    go (Some budget) None max_length = refl
    go (Some (Ok amount)) (Some true) (Ok max_length) = refl
    go (Some (Ok amount)) (Some true) (Err fault) = refl
    go (Some (Ok amount)) (Some false) max_length = refl
    go (Some (Err money.BadMoney)) (Some true) max_length = refl
    go (Some (Err money.BadMoney)) (Some false) max_length = refl
    go (Some (Err money.MoneyTooFine)) (Some true) max_length = refl
    go (Some (Err money.MoneyTooFine)) (Some false) max_length = refl
    go (Some (Err money.MoneyTooLarge)) (Some true) max_length = refl
    go (Some (Err money.MoneyTooLarge)) (Some false) max_length = refl

-- the checks of a project row, with the reading of its cost as a variable
abbrev found_for : Bool → Result ℕ MoneyFault → Bool → Bool → Bool → Option ReadKind
found_for whole cost no_id repeated full =
    cond (not whole) (Some kind.MissingField) (
    cond (fails_by kind.BadMoney cost) (Some kind.BadMoney) (
    cond (fails_by kind.MoneyTooFine cost) (Some kind.MoneyTooFine) (
    cond (fails_by kind.MoneyTooLarge cost) (Some kind.MoneyTooLarge) (
    cond (result_unwrap_or cost 1 == 0) (Some kind.ZeroCost) (
    cond no_id (Some kind.EmptyId) (
    cond repeated (Some kind.RepeatedProject) (
    cond full (Some kind.TooManyProjects) None)))))))

found_is_checks : (whole : Bool) (cost : Result ℕ MoneyFault) (no_id repeated full : Bool) → found_for whole cost no_id repeated full ≡ project_checks whole cost no_id repeated full
found_is_checks whole (Ok amount) no_id repeated full = refl
found_is_checks whole (Err money.BadMoney) no_id repeated full = refl
found_is_checks whole (Err money.MoneyTooFine) no_id repeated full = refl
found_is_checks whole (Err money.MoneyTooLarge) no_id repeated full = refl

pub project_fault : (columns : ProjectColumns) (row : Fields) (e : ElectionView) →
    row_fault (InProjects columns, e) (plain row)
    ≡ project_checks (has_fields columns.id columns.cost row) (money_of (field row columns.cost)) (is_empty (field row columns.id)) (is_among (project_ids e) (field row columns.id)) (nat_le most_projects (length e.projects))
unfolding row_fault
project_fault columns row e =
    found_is_checks (has_fields columns.id columns.cost row) (money_of (field row columns.cost)) (is_empty (field row columns.id)) (is_among (project_ids e) (field row columns.id)) (nat_le most_projects (length e.projects))

pub vote_fault : (columns : VoteColumns) (row : Fields) (e : ElectionView) →
    row_fault (InVotes columns, e) (plain row)
    ≡ vote_checks (has_fields columns.voter columns.vote row) (is_empty (field row columns.voter)) (is_among (voter_ids e) (field row columns.voter)) (names_only (project_ids e) (field row columns.vote)) (nat_le most_voters (length e.voters))
unfolding row_fault
vote_fault columns row e = refl

-- what a project row without fault has passed
pub record PassesProject (columns : ProjectColumns) (row : Fields) (e : ElectionView) : Type 0 where
  pub cost : ℕ
  pub whole : has_fields columns.id columns.cost row ≡ true
  pub reads : money_of (field row columns.cost) ≡ Ok cost
  pub costs : 0 < cost
  pub has_id : is_empty (field row columns.id) ≡ false
  pub new_id : is_among (project_ids e) (field row columns.id) ≡ false
  pub room : length e.projects < most_projects

pub passes_project : (columns : ProjectColumns) (row : Fields) (e : ElectionView) → row_fault (InProjects columns, e) (plain row) ≡ None → PassesProject columns row e
passes_project columns row e none =
    go (has_fields columns.id columns.cost row) refl (money_of (field row columns.cost)) refl (sym (project_fault columns row e) ∙ none)
  where
    room : Bool
    room = nat_le most_projects (length e.projects)

    go : (whole : Bool) → has_fields columns.id columns.cost row ≡ whole → (cost : Result ℕ MoneyFault) → money_of (field row columns.cost) ≡ cost →
        project_checks whole cost (is_empty (field row columns.id)) (is_among (project_ids e) (field row columns.id)) (nat_le most_projects (length e.projects)) ≡ None →
        PassesProject columns row e
    go false w cost m f = absurd (some≢none f)
    go true w (Err money.BadMoney) m f = absurd (some≢none f)
    go true w (Err money.MoneyTooFine) m f = absurd (some≢none f)
    go true w (Err money.MoneyTooLarge) m f = absurd (some≢none f)
    go true w (Ok cost) m f =
        let costs = cond_none _ _ _ f in
        let has_id = cond_none _ _ _ costs.1 in
        let new_id = cond_none _ _ _ has_id.1 in
        let few = cond_none _ _ _ new_id.1 in
        let some_cost = eqb-false cost 0 costs.0 in
        let below = leb-false most_projects (length e.projects) few.0 in
        record { cost = cost; whole = w; reads = m; costs = omega (arith, some_cost); has_id = has_id.0; new_id = new_id.0; room = below }

pub project_passes : (columns : ProjectColumns) (row : Fields) (e : ElectionView) → PassesProject columns row e → row_fault (InProjects columns, e) (plain row) ≡ None
project_passes columns row e p =
    project_fault columns row e ∙ go _ _ _ _ _ p.whole p.reads p.has_id p.new_id (lt-leb most_projects (length e.projects) p.room)
  where
    go : (whole : Bool) (cost : Result ℕ MoneyFault) (no_id repeated full : Bool) → whole ≡ true → cost ≡ Ok p.cost → no_id ≡ false → repeated ≡ false → full ≡ false →
        project_checks whole cost no_id repeated full ≡ None
    go whole cost no_id repeated full w c n r f =
        let free : (p.cost == 0) ≡ false = ne_eqb p.cost 0 (λ e. absurd (omega (arith, e, p.costs))) in
        rw (w, c, n, r, f, free) refl

-- what a vote row without fault has passed
pub record PassesVote (columns : VoteColumns) (row : Fields) (e : ElectionView) : Type 0 where
  pub whole : has_fields columns.voter columns.vote row ≡ true
  pub has_id : is_empty (field row columns.voter) ≡ false
  pub new_id : is_among (voter_ids e) (field row columns.voter) ≡ false
  pub known : names_only (project_ids e) (field row columns.vote) ≡ true
  pub room : length e.voters < most_voters

-- by its checks, and as the first fault there
pub passes_checks : (columns : VoteColumns) (row : Fields) (e : ElectionView) → vote_row_checks columns row e ≡ None → PassesVote columns row e
unfolding vote_row_checks
passes_checks columns row e none =
    let whole = cond_none _ _ _ none in
    let has_id = cond_none _ _ _ whole.1 in
    let new_id = cond_none _ _ _ has_id.1 in
    let known = cond_none _ _ _ new_id.1 in
    let few = cond_none _ _ _ known.1 in
    record { whole = not-false _ whole.0; has_id = has_id.0; new_id = new_id.0; known = not-false _ known.0; room = leb-false most_voters (length e.voters) few.0 }

pub passes_vote : (columns : VoteColumns) (row : Fields) (e : ElectionView) → row_fault (InVotes columns, e) (plain row) ≡ None → PassesVote columns row e
unfolding vote_row_checks
passes_vote columns row e none = passes_checks columns row e (sym (vote_fault columns row e) ∙ none)

pub vote_passes : (columns : VoteColumns) (row : Fields) (e : ElectionView) → PassesVote columns row e → row_fault (InVotes columns, e) (plain row) ≡ None
vote_passes columns row e p =
    vote_fault columns row e ∙ go _ _ _ _ _ p.whole p.has_id p.new_id p.known (lt-leb most_voters (length e.voters) p.room)
  where
    go : (whole no_id repeated known full : Bool) → whole ≡ true → no_id ≡ false → repeated ≡ false → known ≡ true → full ≡ false → vote_checks whole no_id repeated known full ≡ None
    go whole no_id repeated known full w n r k f = rw (w, n, r, k, f) refl

-- what META has where its values pass
pub record PassesHead (meta : Meta) : Type 0 where
  pub budget : ℕ
  pub max_length : Option ℕ
  pub budget_is : meta.budget ≡ Some (Ok budget)
  pub approval : meta.approval ≡ Some true
  pub limit : meta.max_length ≡ Ok max_length

pub passes_head : (meta : Meta) (e : ElectionView) → row_fault (InMeta meta, e) (head section.Projects) ≡ None → PassesHead meta
passes_head meta e none = go meta.budget meta.approval meta.max_length refl refl refl (sym (head_fault meta e) ∙ none)
  where
    go : (budget : Option (Result ℕ MoneyFault)) (approval : Option Bool) (max_length : Result (Option ℕ) ReadKind) → meta.budget ≡ budget → meta.approval ≡ approval → meta.max_length ≡ max_length →
        head_checks budget approval max_length ≡ None → PassesHead meta
    go None approval max_length b a l f = absurd (some≢none f)
    go (Some budget) None max_length b a l f = absurd (some≢none f)
    go (Some budget) (Some false) max_length b a l f = absurd (some≢none f)
    go (Some (Ok budget)) (Some true) (Ok max_length) b a l f = record { budget = budget; max_length = max_length; budget_is = b; approval = a; limit = l }
    go (Some (Ok budget)) (Some true) (Err fault) b a l f = absurd (some≢none f)
    go (Some (Err money.BadMoney)) (Some true) max_length b a l f = absurd (some≢none f)
    go (Some (Err money.MoneyTooFine)) (Some true) max_length b a l f = absurd (some≢none f)
    go (Some (Err money.MoneyTooLarge)) (Some true) max_length b a l f = absurd (some≢none f)

pub head_passes : (meta : Meta) (e : ElectionView) (budget : ℕ) (max_length : Option ℕ) → meta.budget ≡ Some (Ok budget) → meta.approval ≡ Some true → meta.max_length ≡ Ok max_length →
    row_fault (InMeta meta, e) (head section.Projects) ≡ None
head_passes meta e budget max_length b a l = head_fault meta e ∙ rw (b, a, l) refl
