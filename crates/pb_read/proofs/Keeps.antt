-- What runs stands: after each row without fault, the rows have come as far as the machine says.
use Rattle.std.proofs.Common.{◌≡◌, ◌≢◌, ◌<◌, ◌≤◌, ◌+◌, ℕ, zero, suc, Bool, true, false, cond, not, List, [], ◌∷◌, ◌++◌, length, All, Contains, Option, Some, None, Result, Ok, Err, refl, ap, sym, ◌∙◌, subst, arith, get_or, append_assoc}
use Rattle.std.specs.Option.{option_map_or}
use Rattle.std.specs.Prelude.{is_none, option_map, codes, nat_le}
use Rattle.std.proofs.lemmas.Option.{same_Some}
use Rattle.std.specs.List.{AllZip, range_with_len}
use Rattle.std.specs.List.Sorted.{IsStrictlyIncreasing}
use Rattle.std.specs.Str.{trim, trim_start, trim_end, chars}
use Rattle.std.proofs.lemmas.Bool.{false≢true, leb-true}
use Rattle.std.proofs.lemmas.List.{length-map}
use Rattle.std.proofs.lemmas.List.Elements.{All-filter}
use Rattle.std.proofs.lemmas.List.FromFn.{length-range_with_len, get_or-range_with_len}
use Rattle.std.proofs.lemmas.List.Kept.{IsStrictlyIncreasing-filter}
use Rattle.csv.specs.Records.{AllText}
use Rattle.pb_core.specs.Election.{ElectionView, ProjectView, IsElection, project_ids}
use Rattle.pb_core.specs.Inner.Terms.{opening}
use Rattle.pb_core.specs.Money.{money_of, largest_money}
use Rattle.pb_core.specs.MoneyText.{hundredths, has_money_form, is_in_hundredths}
use Rattle.pb_core.specs.declared.money_fault.MoneyFault.{MoneyFault}
use Rattle.pb_core.specs.declared.money_fault.MoneyFault.TheVariants as money
use Rattle.pb_core.specs.declared.terms.Terms.{Terms}
use Rattle.pb_read.specs.Inner.Forms.{meta_for, next_row}
use Rattle.pb_read.specs.declared.fault.ReadKind.TheVariants as kind
use Rattle.pb_core.proofs.Elections.{IsElection-push_project, IsElection-push_voter}
use Rattle.pb_core.proofs.Trim.{trim-trim}
use Rattle.pb_rows.specs.Reading.{Fields}
use Rattle.pb_read.proofs.ListFacts.{IsPlain, some≢none, ok≢err, AllZip-push, AllByRecursion-append, is_among-Contains}
use Rattle.pb_read.proofs.MachineLaws.{meta_of-push, passes_project, passes_vote, passes_head, PassesProject, PassesVote}
use Rattle.pb_read.specs.Columns.{project_columns, vote_columns}
use Rattle.pb_read.specs.Stages.{Next, the_end, blank, head, plain}
use Rattle.pb_read.specs.declared.progress.Stage.TheVariants.{Start, Header, InMeta, InProjects, InVotes}
use Rattle.pb_read.specs.Inner.Positions.{IsJustAt}
use Rattle.pb_read.specs.Inner.Machine.{Position, advance, budget_of, limit_of, amount_of, project_of, terms_said, voter_of, with_project, with_voter, with_row, row_fault}
use Rattle.pb_read.specs.MetaRows.{meta_of, value_of}
use Rattle.pb_read.specs.Inner.Fields.{trimmed}
use Rattle.pb_read.specs.Rows.{field, head_of, is_blank, is_empty}
use Rattle.pb_read.specs.StandsFor.{EndsIn, GivesAllButVoters, GivesProject, GivesVoter, IsMeta}
use Rattle.pb_read.specs.Voting.{ballot_of, is_among}
use Rattle.pb_read.specs.declared.columns.ProjectColumns.{ProjectColumns}
use Rattle.pb_read.specs.declared.columns.VoteColumns.{VoteColumns}
use Rattle.pb_read.specs.declared.meta.Meta.{Meta}
use Rattle.pb_read.specs.declared.section.Section.{Section}
use Rattle.pb_read.specs.declared.section.Section.TheVariants as section

-- no field of the row has white space at its ends
abbrev pub IsTidy : Fields → Type 0
IsTidy row = (place : ℕ) → trim (field row place) ≡ field row place

trim-nil : trim [] ≡ []
unfolding trim_start trim_end chars
trim-nil = refl

pub IsTidy-trimmed : (fields : Fields) → AllText fields → IsTidy (trimmed fields)
unfolding AllText
IsTidy-trimmed [] t place = trim-nil
IsTidy-trimmed (f ∷ fields) t zero = trim-trim f t.0
IsTidy-trimmed (f ∷ fields) t (suc place) = IsTidy-trimmed fields t.1 place

-- what a row that is not blank is next as
abbrev pub Follows : Next → Fields → Type 0
Follows the_end row = ⊥
Follows blank row = ⊥
Follows (head name) row = head_of row ≡ Some name
Follows (plain r) row = (r ≡ row) × (head_of row ≡ None)

pub next_follows : (row : Fields) → is_blank row ≡ false → Follows (next_row row) row
next_follows row full = rw full (go (head_of row) refl)
  where
    go : (name : Option Section) → head_of row ≡ name → Follows (option_map_or head name (plain row)) row
    go None e = (refl, e)
    go (Some name) e = e

le_of : (form fine : Bool) (read amount : ℕ) →
    ◌≡◌ {A = Result ℕ MoneyFault} (cond (not form) (Err money.BadMoney) (cond (not fine) (Err money.MoneyTooFine) (cond (nat_le read largest_money) (Ok read) (Err money.MoneyTooLarge)))) (Ok amount) →
    amount ≤ largest_money
le_of false fine read amount e = absurd (ok≢err (sym e))
le_of true false read amount e = absurd (ok≢err (sym e))
le_of true true read amount e = go (nat_le read largest_money) refl e
  where
    go : (small : Bool) → nat_le read largest_money ≡ small → ◌≡◌ {A = Result ℕ MoneyFault} (cond small (Ok read) (Err money.MoneyTooLarge)) (Ok amount) → amount ≤ largest_money
    go false s e = absurd (ok≢err (sym e))
    go true s e = let same : read ≡ amount = cc in omega (arith, leb-true read largest_money s, same)

-- an amount that was read is not above the largest
pub money_of-le : (text : List ℕ) (amount : ℕ) → money_of text ≡ Ok amount → amount ≤ largest_money
money_of-le text amount e = le_of (has_money_form text) (is_in_hundredths text) (hundredths text) amount e

pub opening_is_election : (terms : Terms) → terms.budget ≤ largest_money → IsElection (opening terms)
opening_is_election terms few = record {
  budget_bounded = few;
  few_projects = omega arith;
  few_voters = omega arith;
  are_projects = λ k d below. absurd (omega (arith, below));
  are_voters = λ k d below. absurd (omega (arith, below));
  projects_differ = λ i j d above below. absurd (omega (arith, below));
  voters_differ = λ i j d above below. absurd (omega (arith, below));
}

pub not_empty : (text : List ℕ) → is_empty text ≡ false → text ≢ []
not_empty text full e = false≢true (sym full ∙ ap is_empty e)

pub not_among : (ids : List (List ℕ)) (id : List ℕ) → is_among ids id ≡ false → ¬ Contains ids id
not_among ids id new there = false≢true (sym new ∙ is_among-Contains ids id there)

range_rises : (n : ℕ) → IsStrictlyIncreasing (range_with_len 0 n)
range_rises n k below =
    let size : length (range_with_len 0 n) ≡ n = length-range_with_len 0 n in
    let here : get_or (range_with_len 0 n) k 0 ≡ 0 + k = get_or-range_with_len 0 n k 0 (omega (arith, below, size)) in
    let next : get_or (range_with_len 0 n) (k + 1) 0 ≡ 0 + (k + 1) = get_or-range_with_len 0 n (k + 1) 0 (omega (arith, below, size)) in
    omega (arith, here, next)

range_below : (n : ℕ) → All (λ place. place < n) (range_with_len 0 n)
range_below n k d below =
    let size : length (range_with_len 0 n) ≡ n = length-range_with_len 0 n in
    let here : get_or (range_with_len 0 n) k d ≡ 0 + k = get_or-range_with_len 0 n k d (omega (arith, below, size)) in
    omega (arith, here, below, size)

pub ballot_of-rises : (ids : List (List ℕ)) (vote : List ℕ) → IsStrictlyIncreasing (ballot_of ids vote)
ballot_of-rises ids vote = IsStrictlyIncreasing-filter _ (range_with_len 0 (length ids)) (range_rises (length ids))

pub ballot_of-below : (ids : List (List ℕ)) (vote : List ℕ) → All (λ place. place < length ids) (ballot_of ids vote)
ballot_of-below ids vote = All-filter _ (λ place. place < length ids) (range_with_len 0 (length ids)) (range_below (length ids))

some_column : {A : Type 0} (o : Option A) → cond (is_none o) (Some kind.MissingColumn) None ≡ None → (c : A) × (o ≡ Some c)
some_column None f = absurd (some≢none f)
some_column (Some c) f = (c, refl)

project_columns_found : (e : ElectionView) (header : Fields) → row_fault (Header section.Projects, e) (plain header) ≡ None → (c : ProjectColumns) × (project_columns header ≡ Some c)
unfolding row_fault
project_columns_found e header f = some_column (project_columns header) f

vote_columns_found : (e : ElectionView) (header : Fields) → row_fault (Header section.Votes, e) (plain header) ≡ None → (c : VoteColumns) × (vote_columns header ≡ Some c)
unfolding row_fault
vote_columns_found e header f = some_column (vote_columns header) f

pub budget_le : (rows : List Fields) (budget : ℕ) → (meta_of rows).budget ≡ Some (Ok budget) → budget ≤ largest_money
budget_le rows budget = go (value_of (codes "budget") rows)
  where
    go : (value : Option (List ℕ)) → option_map money_of value ≡ Some (Ok budget) → budget ≤ largest_money
    go None e = absurd (some≢none (sym e))
    go (Some text) e = money_of-le text budget (same_Some _ _ e)

-- the election after a project row, and after a vote row
pub with_project_is_election : (columns : ProjectColumns) (row : Fields) (e : ElectionView) → IsElection e → e.voters ≡ [] → PassesProject columns row e → IsElection (with_project columns row e)
with_project_is_election columns row e is no_voter p =
    IsElection-push_project e (project_of columns row) is (record {
      has_id = not_empty _ p.has_id;
      costs = subst (λ r. 0 < amount_of r) (sym p.reads) p.costs;
      affordable = subst (λ r. amount_of r ≤ largest_money) (sym p.reads) (money_of-le (field row columns.cost) p.cost p.reads);
    }) no_voter p.room (not_among _ _ p.new_id)

pub with_voter_is_election : (columns : VoteColumns) (row : Fields) (e : ElectionView) → IsTidy row → IsElection e → PassesVote columns row e → IsElection (with_voter columns row e)
with_voter_is_election columns row e tidy is p =
    IsElection-push_voter e (voter_of columns (project_ids e) row) is (record {
      has_id = record { not_empty = not_empty _ p.has_id; is_trimmed = tidy columns.voter };
      ballot_rises = ballot_of-rises (project_ids e) (field row columns.vote);
      ballot_known = subst (λ n. All (λ place. place < n) (ballot_of (project_ids e) (field row columns.vote))) (length-map e.projects (λ (q : ProjectView). q.id)) (ballot_of-below (project_ids e) (field row columns.vote));
    }) p.room (not_among _ _ p.new_id)

-- a section with one row more
ends_push : (Before : List Fields → Type 0) (name : Section) (body rows : List Fields) (row : Fields) → EndsIn Before name body rows → IsPlain row → EndsIn Before name (body ++ row ∷ []) (rows ++ row ∷ [])
ends_push Before name body rows row at is =
    (at.0, at.1, ap (λ xs. xs ++ row ∷ []) at.2 ∙ append_assoc at.0 (at.1 ∷ body) (row ∷ []), at.3, at.4, AllByRecursion-append IsPlain body (row ∷ []) at.5 (is, tt))

-- a section's head after other rows
ends_head : (Before : List Fields → Type 0) (name : Section) (rows : List Fields) (row : Fields) → Before rows → head_of row ≡ Some name → EndsIn Before name [] (rows ++ row ∷ [])
ends_head Before name rows row before opens = (rows, row, refl, before, opens, tt)

-- one row without fault
pub kept : (p : Position) (n : Next) (rows : List Fields) (row : Fields) → Follows n row → IsTidy row → row_fault p n ≡ None → IsJustAt rows p → IsElection p.1 →
    IsJustAt (rows ++ row ∷ []) (advance p n) × IsElection ((advance p n).1)
unfolding row_fault
kept p the_end rows row follows tidy none at sound = absurd follows
kept p blank rows row follows tidy none at sound = absurd follows
kept (Start, e) (head section.Meta) rows row follows tidy none at sound =
    ((ends_head (λ front. front ≡ []) section.Meta rows row at.0 follows, at.1), sound)
kept (Start, e) (head section.Projects) rows row follows tidy none at sound = absurd (some≢none none)
kept (Start, e) (head section.Votes) rows row follows tidy none at sound = absurd (some≢none none)
kept (Start, e) (plain r) rows row follows tidy none at sound = absurd (some≢none none)
kept (Header name, e) (head other) rows row follows tidy none at sound = absurd (some≢none none)
kept (Header section.Meta, e) (plain r) rows row follows tidy none at sound =
    (((row, [], ends_push (λ front. front ≡ []) section.Meta [] rows row at.0 follows.1, refl), at.1), sound)
kept (Header section.Projects, e) (plain header) rows row follows tidy none at sound =
    let found = project_columns_found e header none in
    let no_project : e.projects ≡ [] = ap (λ (x : ElectionView). x.projects) at.1 in
    let no_voter : e.voters ≡ [] = ap (λ (x : ElectionView). x.voters) at.1 in
    let names : project_columns row ≡ Some found.0 = ap project_columns (sym follows.0) ∙ found.1 in
    let gives : AllZip (GivesProject found.0) [] e.projects = subst (λ ps. AllZip (GivesProject found.0) [] ps) (sym no_project) tt in
    rw found.1 (((row, [], ends_push (IsMeta (meta_for e)) section.Projects [] rows row at.0 follows.1, names, gives), no_voter), sound)
kept (Header section.Votes, e) (plain header) rows row follows tidy none at sound =
    let found = vote_columns_found e header none in
    let names : vote_columns row ≡ Some found.0 = ap vote_columns (sym follows.0) ∙ found.1 in
    let gives : AllZip (GivesVoter found.0 (project_ids e)) [] e.voters = subst (λ vs. AllZip (GivesVoter found.0 (project_ids e)) [] vs) (sym at.1) tt in
    rw found.1 ((at.0.0, row, [], ends_push (GivesAllButVoters at.0.0 e) section.Votes [] rows row at.0.1 follows.1, names, gives), sound)
kept (InMeta meta, e) (head section.Meta) rows row follows tidy none at sound = absurd (some≢none none)
kept (InMeta meta, e) (head section.Projects) rows row follows tidy none at sound =
    let passed = passes_head meta e none in
    let budget : passed.budget ≡ budget_of meta.budget = ap budget_of (sym passed.budget_is) in
    let limit : passed.max_length ≡ limit_of meta.max_length = ap limit_of (sym passed.limit) in
    let few : passed.budget ≤ largest_money = budget_le at.0.1 passed.budget (ap (λ (m : Meta). m.budget) (sym at.0.3) ∙ passed.budget_is) in
    let says : meta ≡ record { budget = Some (Ok (budget_of meta.budget)); approval = Some true; max_length = Ok (limit_of meta.max_length) } =
    (λ i. record { budget = passed.budget_is i; approval = passed.approval i; max_length = passed.limit i })
    ∙ (λ i. record { budget = Some (Ok (budget i)); approval = Some true; max_length = Ok (limit i) }) in (
      (ends_head (IsMeta (meta_for (opening (terms_said meta)))) section.Projects rows row (subst (λ m. IsMeta m rows) says at.0) follows, refl),
      opening_is_election (terms_said meta) (subst (λ b. b ≤ largest_money) budget few),
    )
kept (InMeta meta, e) (head section.Votes) rows row follows tidy none at sound = absurd (some≢none none)
kept (InMeta meta, e) (plain r) rows row follows tidy none at sound =
    let says : with_row meta r ≡ meta_of (at.0.1 ++ row ∷ []) = ap (with_row meta) follows.0 ∙ ap (λ m. with_row m row) at.0.3 ∙ sym (meta_of-push at.0.1 row) in
    (((at.0.0, at.0.1 ++ row ∷ [], ends_push (λ front. front ≡ []) section.Meta (at.0.0 ∷ at.0.1) rows row at.0.2 follows.1, says), at.1), sound)
kept (InProjects columns, e) (head section.Meta) rows row follows tidy none at sound = absurd (some≢none none)
kept (InProjects columns, e) (head section.Projects) rows row follows tidy none at sound = absurd (some≢none none)
kept (InProjects columns, e) (head section.Votes) rows row follows tidy none at sound =
    (((columns, ends_head (GivesAllButVoters columns e) section.Votes rows row at.0 follows), at.1), sound)
kept (InProjects columns, e) (plain r) rows row follows tidy none at sound =
    let passed : PassesProject columns row e = subst (λ x. PassesProject columns x e) follows.0 (passes_project columns r e none) in
    let gives : GivesProject columns row (project_of columns row) = record {
      whole = passed.whole;
      id = refl;
      name = refl;
      cost = passed.reads ∙ ap (λ x. Ok (amount_of x)) (sym passed.reads);
    } in
    let zip : AllZip (GivesProject columns) (at.0.1 ++ row ∷ []) (e.projects ++ project_of columns row ∷ []) = AllZip-push (GivesProject columns) at.0.1 e.projects row (project_of columns row) at.0.4 gives in
    rw follows.0 (
      ((at.0.0, at.0.1 ++ row ∷ [], ends_push (IsMeta (meta_for e)) section.Projects (at.0.0 ∷ at.0.1) rows row at.0.2 follows.1, at.0.3, zip), at.1),
      with_project_is_election columns row e sound at.1 passed,
    )
kept (InVotes columns, e) (head name) rows row follows tidy none at sound = absurd (some≢none none)
kept (InVotes columns, e) (plain r) rows row follows tidy none at sound =
    let passed : PassesVote columns row e = subst (λ x. PassesVote columns x e) follows.0 (passes_vote columns r e none) in
    let gives : GivesVoter columns (project_ids e) row (voter_of columns (project_ids e) row) = record { whole = passed.whole; id = refl; known = passed.known; ballot = refl } in
    let zip : AllZip (GivesVoter columns (project_ids e)) (at.2 ++ row ∷ []) (e.voters ++ voter_of columns (project_ids e) row ∷ []) =
    AllZip-push (GivesVoter columns (project_ids e)) at.2 e.voters row (voter_of columns (project_ids e) row) at.5 gives in
    rw follows.0 (
      (at.0, at.1, at.2 ++ row ∷ [], ends_push (GivesAllButVoters at.0 e) section.Votes (at.1 ∷ at.2) rows row at.3 follows.1, at.4, zip),
      with_voter_is_election columns row e tidy sound passed,
    )
