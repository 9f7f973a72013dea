-- Tables by their columns.
use Rattle.std.proofs.Common.{◌≡◌, ◌∙◌, ◌+◌, ◌++◌, ◌<◌, ℕ, List, [], ◌∷◌, ap, append-nil, arith, Bool, cond, decimal, drop, false, get_or, length, map, refl, subst, sym, take, true}
use Rattle.std.specs.Prelude.{◌==◌, All, codes, filter, flat_map, if◌then◌else◌, slice_index, slice_index_or}
use Rattle.std.specs.List.{join_with_byte, range_with_len}
use Rattle.pb_core.specs.Order.{position_in}
use Rattle.std.proofs.lemmas.List.FromFn.{map-range_with_len_more}
use Rattle.std.proofs.lemmas.List.{get_or-map, map-append}
use Rattle.std.proofs.lemmas.List.Elements.{filter-append}
use Rattle.pb_core.specs.Election.{ElectionView, ProjectView, VoterView}
use Rattle.pb_price.specs.Supporters.{support_in, support_of}
use Rattle.pb_reasons.proofs.WinnerSums.{cost_at-known}
use Rattle.pb_reasons.specs.CountedElection.{CountedElectionView, IsCountedElection}
use Rattle.pb_reasons.specs.Fairness.{needed, spent}
use Rattle.pb_reasons.specs.Reasons.{project_reason, voter_payments, voter_reason}
use Rattle.pb_reasons.specs.declared.payment.Payment.{Payment}
use Rattle.pb_reasons.specs.declared.voter_reason.VoterReason.{VoterReason}
use Rattle.pb_rounds.specs.MostVotes.{is_taken, votes_at}
use Rattle.pb_rounds.specs.RuleNames.{fills_up}
use Rattle.pb_rounds.specs.declared.rule.FillUp.{FillUp}
use Rattle.pb_rounds.specs.declared.rule.FillUp.TheVariants.{Nothing, MostVotes}
use Rattle.pb_rounds.specs.declared.rule.Rule.{Rule}
use Rattle.pb_rows.specs.Reading.{Fields}
use Rattle.pb_rows.specs.Tables.{Column, field_text, table_text}
use Rattle.pb_rows.specs.declared.field.Field.{Field}
use Rattle.pb_rows.specs.declared.field.Field.TheVariants.{Amount, Number}
use Rattle.pb_rows.specs.Writing.{text_of_row, text_of_rows}
use Rattle.pb_commands.proofs.ReportSums.{id_at-known}
use Rattle.pb_commands.proofs.RowsGrown.{none_grown, row_grown, rows_grown}
use Rattle.pb_commands.proofs.PaymentsInFile.{payments_known, texts_in_file}
use Rattle.pb_commands.specs.Inner.Beside.{beside_columns}
use Rattle.pb_commands.specs.Inner.Tables.{all_columns, columns_of, payments_in_file, payments_text, row_of}
use Rattle.pb_commands.specs.Report.{in_units}
use Rattle.pb_commands.specs.declared.table.Table.TheVariants.{Fairness, Projects, Voters}

module _ {X : Type 0} (columns : List (Column X)) where
  -- the names of the columns
  pub head_put : (old new : List ℕ) → new ≡ old ++ text_of_row (map (λ c. c.0) columns) → new ≡ old ++ table_text columns []
  unfolding table_text
  head_put old new put = row_grown [] (map (λ c. c.0) columns) old old new (none_grown old) put

  -- more rows after those that stand there
  pub rows_put : (xs ys : List X) (old before after : List ℕ) → before ≡ old ++ table_text columns xs
      → after ≡ before ++ text_of_rows (map (row_of columns) ys) → after ≡ old ++ table_text columns (xs ++ ys)
  unfolding table_text
  rows_put xs ys old before after so_far put =
      rows_grown (map (λ c. c.0) columns ∷ map (row_of columns) xs) (map (row_of columns) ys) old before after so_far put
      ∙ ap (λ (rows : List Fields). old ++ text_of_rows (map (λ c. c.0) columns ∷ rows)) (sym (map-append (row_of columns) xs ys))

  pub row_put : (xs : List X) (x : X) (old before after : List ℕ) → before ≡ old ++ table_text columns xs
      → after ≡ before ++ text_of_row (row_of columns x) → after ≡ old ++ table_text columns (xs ++ x ∷ [])
  unfolding table_text
  row_put xs x old before after so_far put =
      row_grown (map (λ c. c.0) columns ∷ map (row_of columns) xs) (row_of columns x) old before after so_far put
      ∙ ap (λ (rows : List Fields). old ++ text_of_rows (map (λ c. c.0) columns ∷ rows)) (sym (map-append (row_of columns) xs (x ∷ [])))

-- the row of one position more
pub place_put : (columns : List (Column ℕ)) (n : ℕ) (old before after : List ℕ) → before ≡ old ++ table_text columns (range_with_len 0 n)
    → after ≡ before ++ text_of_row (row_of columns n) → after ≡ old ++ table_text columns (range_with_len 0 (n + 1))
unfolding table_text
place_put columns n old before after so_far put =
    row_grown (map (λ c. c.0) columns ∷ map (row_of columns) (range_with_len 0 n)) (row_of columns n) old before after so_far put
    ∙ ap (λ (rows : List Fields). old ++ text_of_rows (map (λ c. c.0) columns ∷ rows)) (sym (map-range_with_len_more (row_of columns) 0 n n (omega arith)))

-- the row of one project more, as they stand in the file
pub file_place_put : (columns : List (Column ℕ)) (at : ℕ → ℕ) (n : ℕ) (old before after : List ℕ) → before ≡ old ++ table_text columns (map at (range_with_len 0 n))
    → after ≡ before ++ text_of_row (row_of columns (at n)) → after ≡ old ++ table_text columns (map at (range_with_len 0 (n + 1)))
file_place_put columns at n old before after so_far put =
    row_put columns (map at (range_with_len 0 n)) (at n) old before after so_far put
    ∙ ap (λ xs. old ++ table_text columns xs) (sym (map-range_with_len_more at 0 n n (omega arith)))

-- where it passes a test
module _ (columns : List (Column ℕ)) (test : ℕ → Bool) (at : ℕ → ℕ) (n : ℕ) (old before : List ℕ)
    (so_far : before ≡ old ++ table_text columns (filter test (map at (range_with_len 0 n)))) where
  one_more : filter test (map at (range_with_len 0 (n + 1))) ≡ filter test (map at (range_with_len 0 n)) ++ cond (test (at n)) (at n ∷ []) []
  one_more = ap (filter test) (map-range_with_len_more at 0 n n (omega arith)) ∙ filter-append test (map at (range_with_len 0 n)) (at n ∷ [])

  pub passing_put : test (at n) ≡ true → (after : List ℕ) → after ≡ before ++ text_of_row (row_of columns (at n))
      → after ≡ old ++ table_text columns (filter test (map at (range_with_len 0 (n + 1))))
  passing_put passes after put =
      row_put columns (filter test (map at (range_with_len 0 n))) (at n) old before after so_far put
      ∙ ap (λ xs. old ++ table_text columns xs) (sym (one_more ∙ ap (λ b. filter test (map at (range_with_len 0 n)) ++ cond b (at n ∷ []) []) passes))

  pub failing_kept : test (at n) ≡ false → before ≡ old ++ table_text columns (filter test (map at (range_with_len 0 (n + 1))))
  failing_kept fails =
      so_far
      ∙ ap (λ xs. old ++ table_text columns xs)
      (sym (one_more ∙ ap (λ b. filter test (map at (range_with_len 0 n)) ++ cond b (at n ∷ []) []) fails ∙ append-nil (filter test (map at (range_with_len 0 n)))))

pub name_at-known : (e : ElectionView) (place : ℕ) (p : ProjectView) → place < length e.projects → p ≡ get_or e.projects place p
    → slice_index_or (map (λ q. q.name) e.projects) place [] ≡ p.name
name_at-known e place p known is = get_or-map (λ (q : ProjectView). q.name) e.projects place p [] known ∙ ap (λ (q : ProjectView). q.name) (sym is)

-- the last column of projects is one where an outcome is filled up
pub width_is : (x : CountedElectionView) (f : FillUp) → f ≡ x.counted.fill_up → (if fills_up f then 12 else 11) ≡ length (columns_of Projects x)
width_is x MostVotes is = rw (← is) refl
width_is x Nothing is = rw (← is) refl

names_taken_by : (x : CountedElectionView) (f : FillUp) → f ≡ x.counted.fill_up → take (if fills_up f then 12 else 11) (map (λ k. k.0) (all_columns x)) ≡ map (λ k. k.0) (columns_of Projects x)
names_taken_by x MostVotes is = rw (← is) refl
names_taken_by x Nothing is = rw (← is) refl

row_taken_by : (x : CountedElectionView) (place : ℕ) (f : FillUp) → f ≡ x.counted.fill_up → take (if fills_up f then 12 else 11) (row_of (all_columns x) place) ≡ row_of (columns_of Projects x) place
row_taken_by x place MostVotes is = rw (← is) refl
row_taken_by x place Nothing is = rw (← is) refl

pub names_taken : (x : CountedElectionView) (width : ℕ) → width ≡ length (columns_of Projects x) → take width (map (λ k. k.0) (all_columns x)) ≡ map (λ k. k.0) (columns_of Projects x)
names_taken x width is = ap (λ n. take n (map (λ k. k.0) (all_columns x))) (is ∙ sym (width_is x x.counted.fill_up refl)) ∙ names_taken_by x x.counted.fill_up refl

-- the row of a project, as it is written
pub project_row_read : (x : CountedElectionView) (place : ℕ) (p : ProjectView) → place < length x.election.projects → p ≡ get_or x.election.projects place p
    → (number cost votes : Field) → number ≡ Number (slice_index x.order place) → cost ≡ Amount p.cost → votes ≡ Number (project_reason x.rule.options.grain x.election x.counted place).votes
    → (id name : List ℕ) → id ≡ p.id → name ≡ p.name → (more : Fields) → more ≡ drop 5 (row_of (all_columns x) place)
    → (width : ℕ) → width ≡ length (columns_of Projects x)
    → take width (field_text number ∷ id ∷ name ∷ field_text cost ∷ field_text votes ∷ more) ≡ row_of (columns_of Projects x) place
project_row_read x place p known is number cost votes number_is cost_is votes_is id name id_is name_is more more_is width width_is' =
    let row : field_text number ∷ id ∷ name ∷ field_text cost ∷ field_text votes ∷ more ≡ row_of (all_columns x) place =
    rw (number_is, cost_is, votes_is, id_is, name_is, more_is, ← id_at-known x.election place p known is, ← name_at-known x.election place p known is, ← cost_at-known x.election place p known is) refl in
    ap (take width) row ∙ ap (λ n. take n (row_of (all_columns x) place)) (width_is' ∙ sym (width_is x x.counted.fill_up refl)) ∙ row_taken_by x place x.counted.fill_up refl

-- the row of a project by two rules, as it is written
pub beside_row_read : (e : ElectionView) (rule other : Rule) (winners others : List ℕ) (place : ℕ) (p : ProjectView) → place < length e.projects → p ≡ get_or e.projects place p
    → (number cost wins otherwise : Field) → number ≡ Number place → cost ≡ Amount p.cost → wins ≡ Number (if is_taken winners place then 1 else 0)
    → otherwise ≡ Number (if is_taken others place then 1 else 0) → (id name : List ℕ) → id ≡ p.id → name ≡ p.name
    → (votes : ℕ) → votes ≡ votes_at (support_of e) place
    → field_text number ∷ id ∷ name ∷ field_text cost ∷ decimal votes ∷ field_text wins ∷ field_text otherwise ∷ [] ≡ row_of (beside_columns e rule other winners others) place
beside_row_read e rule other winners others place p known is number cost wins otherwise number_is cost_is wins_is otherwise_is id name id_is name_is votes votes_is =
    rw (number_is, cost_is, wins_is, otherwise_is, id_is, name_is, votes_is, ← id_at-known e place p known is, ← name_at-known e place p known is, ← cost_at-known e place p known is) refl

-- the row of a project that lost, as it is written
pub loser_row_read : (x : CountedElectionView) (place : ℕ) (p : ProjectView) → place < length x.election.projects → p ≡ get_or x.election.projects place p
    → (id : List ℕ) → id ≡ p.id → (votes : ℕ) → votes ≡ votes_at (support_of x.election) place
    → (share need most : List ℕ) → share ≡ in_units x x.counted.outcome.share 1 → need ≡ in_units x (needed (support_in x.rule.options.grain x.election) place) 1
    → most ≡ in_units x (spent x.rule.options.measure (support_in x.rule.options.grain x.election) x.counted.outcome place) 1
    → id ∷ decimal votes ∷ share ∷ need ∷ most ∷ [] ≡ row_of (columns_of Fairness x) place
loser_row_read x place p known is id id_is votes votes_is share need most share_is need_is most_is =
    rw (id_is, votes_is, share_is, need_is, most_is, ← id_at-known x.election place p known is) refl

-- the row of a voter, as it is written
pub voter_row_read : (x : CountedElectionView) (voter : ℕ) (v : VoterView) → IsCountedElection x → voter < length x.election.voters → v ≡ get_or x.election.voters voter v
    → (id : List ℕ) → id ≡ v.id → (r : VoterReason) → r ≡ voter_reason x.election x.counted voter → (payments : List Payment) → payments ≡ payments_in_file x.order (voter_payments x.election x.counted.outcome voter)
    → id ∷ decimal r.votes ∷ decimal r.elected ∷ in_units x r.paid 1 ∷ in_units x r.left 1 ∷ payments_text x payments ∷ [] ≡ row_of (columns_of Voters x) voter
voter_row_read x voter v counted known is id id_is r r_is payments payments_is =
    let own = voter_payments x.election x.counted.outcome voter in
    let below = subst (λ many. All (λ (p : Payment). p.place < many) own) (sym counted.one_each) (payments_known x.election x.counted.outcome voter counted.is_election known) in
    let texts = texts_in_file x.order counted.is_order x own below
    ∙ ap (λ many. join_with_byte 44 (map (λ (p : Payment). decimal (slice_index x.order p.place) ++ (codes ":" ++ in_units x p.amount 1))
    (flat_map (λ place. filter (λ p. p.place == place) own) (map (position_in x.order) (range_with_len 0 many))))) counted.one_each in
    ap (λ (t : List ℕ). id ∷ decimal r.votes ∷ decimal r.elected ∷ in_units x r.paid 1 ∷ in_units x r.left 1 ∷ t ∷ []) (ap (payments_text x) payments_is ∙ texts)
    ∙ rw (r_is, id_is ∙ ap (λ (u : VoterView). u.id) is ∙ sym (get_or-map (λ (u : VoterView). u.id) x.election.voters voter v [] known)) refl
