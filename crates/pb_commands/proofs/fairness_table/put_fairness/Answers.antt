use Rattle.std.proofs.Common.{◌≡◌, ◌++◌, ◌&&◌, ◌∙◌, ℕ, Bool, [], ap, arith, inl, inr, length, map, not, refl, sym}
use Rattle.std.specs.Prelude.{filter, nat_lt}
use Rattle.std.specs.List.{range_with_len}
use Rattle.std.proofs.lemmas.Bool.{cases_lt}
use Rattle.std.proofs.lemmas.List.{get_or_past}
use Rattle.std.proofs.lemmas.List.Elements.{filter_agree}
use Rattle.std.proofs.lemmas.List.FromFn.{length-map-range_with_len}
use Rattle.pb_core.specs.Election.{ElectionView}
use Rattle.pb_core.specs.Order.{position_in}
use Rattle.pb_price.specs.Supporters.{support_of, supporters_of}
use Rattle.pb_reasons.specs.Counted.{CountedView, winners_of}
use Rattle.pb_reasons.specs.CountedElection.{in_file}
use Rattle.pb_reasons.specs.Fairness.{losers}
use Rattle.pb_reasons.proofs.Sorted.{kept_in_range, kept_past}
use Rattle.pb_rounds.specs.MostVotes.{is_taken, votes_at}
use Rattle.pb_rows.specs.Tables.{table_text}
use Rattle.pb_rows.specs.Writing.{text_of_row}
use Rattle.pb_commands.proofs.TableColumns.{failing_kept, head_put, passing_put}
use Rattle.pb_commands.specs.Inner.Tables.{columns_of, row_of}
use Rattle.pb_commands.specs.Tables.{table_of}
use Rattle.pb_commands.specs.declared.table.Table.TheVariants.{Fairness}
use Rattle.pb_commands.proofs.fairness_table.put_fairness.Goals.{then-has_lost+in_ok-put_loser, else-has_lost}
use Rattle.pb_commands.proofs.fairness_table.put_fairness.Goals as goal

abbrev has_lost : ElectionView → CountedView → ℕ → Bool
has_lost e c place = nat_lt 0 (votes_at (support_of e) place) && not (is_taken (winners_of c) place)

-- a place past the last has no votes
losers_are : (e : ElectionView) (c : CountedView) (place : ℕ) → is_taken (losers e c) place ≡ has_lost e c place
losers_are e c place = elim (cases_lt place (length e.projects)) [
  | inl below ↦ kept_in_range (has_lost e c) (length e.projects) place below
  | inr past ↦
      let n = length e.projects in
      kept_past (has_lost e c) n place past
      ∙ sym (rw (get_or_past (map (supporters_of e) (range_with_len 0 n)) place [] (omega (arith, past, length-map-range_with_len (supporters_of e) 0 n))) refl)
]

pub loop-position-init : goal.loop-position-init
loop-position-init c =
    head_put (columns_of Fairness c.args.count.now) c.args.rows.now.text c.put_row.new.self.text c.in_ok-put_row.ensures.text

pub loop-position-preserved : goal.loop-position-preserved
loop-position-preserved c =
    let k = c.args.count.now in
    let test : ℕ → Bool = has_lost k.election k.counted in
    let at : ℕ → ℕ = position_in k.order in
    let position = c.loop-position.position in
    let place = c.position-place.ensures.position in
    elim c.if-has_lost.branch [
      | then-has_lost+in_ok-put_loser w ↦
          rw w.rows-is (passing_put (columns_of Fairness k) test at position c.args.rows.now.text c.loop-position.rows.text c.loop-position.invariant
          (ap test (sym place) ∙ sym c.has_lost.ensures ∙ w.if-has_lost.true) _
          (w.in_ok-put_loser.ensures ∙ ap (λ p. c.loop-position.rows.text ++ text_of_row (row_of (columns_of Fairness k) p)) place))
      | else-has_lost w ↦
          rw w.rows-is (failing_kept (columns_of Fairness k) test at position c.args.rows.now.text c.loop-position.rows.text c.loop-position.invariant
          (ap test (sym place) ∙ sym c.has_lost.ensures ∙ w.if-has_lost.false))
    ]

pub returns : goal.returns
unfolding table_of
returns c =
    let k = c.args.count.now in
    let test : ℕ → Bool = has_lost k.election k.counted in
    let projects = ap length (c.projects-position-end.ensures.projects ∙ ap (λ e. e.projects) c.election.ensures.election) in
    let all : c.loop-position.position ≡ length k.election.projects = omega (arith, projects, c.loop-position.auto.position-end, c.loop-position-test.false) in
    c.loop-position.invariant
    ∙ ap (λ n. c.args.rows.now.text ++ table_text (columns_of Fairness k) (filter test (map (position_in k.order) (range_with_len 0 n)))) all
    ∙ ap (λ xs. c.args.rows.now.text ++ table_text (columns_of Fairness k) xs)
    (sym (filter_agree (is_taken (losers k.election k.counted)) test (losers_are k.election k.counted) (in_file k)))
