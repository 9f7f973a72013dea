-- All pairs of equal projects that a rule for ties separated, in each run of a count; and what it changes to exchange just
-- the two.
use Rattle.std.specs.Prelude.{◌≡◌, ◌⊎◌, ◌↔◌, ℕ, ◌+◌, ◌&&◌, ◌==◌, Bool, true, false, List, [], ◌∷◌, ◌++◌, All, IfSome}
use Rattle.std.specs.Prelude.{filter, flat_map, if◌then◌else◌, is_some, length, map, not, slice_index, swap, take}
use Rattle.std.specs.List.{list_any, range_with_len}
use Rattle.pb_core.specs.Ballot.{HasSameMembers}
use Rattle.pb_core.specs.Order.{in_order}
use Rattle.pb_price.specs.Supporters.{support_in, support_of}
use Rattle.pb_reasons.specs.Counted.{CountedView, IsCountBy, winners_of}
use Rattle.pb_reasons.specs.CountedElection.{CountedElectionView, in_file}
use Rattle.pb_reasons.specs.Ties.{ties_in, ties_with_added}
use Rattle.pb_reasons.specs.declared.tie.Tie.{Tie}
use Rattle.pb_reasons.specs.declared.told_tie.TieRow.{TieRow}
use Rattle.pb_reasons.specs.declared.told_tie.ToldTie.{ToldTie}
use Rattle.pb_rounds.specs.Count.{count_of, share_by, step_of}
use Rattle.pb_rounds.specs.Counted.{IsCountFault}
use Rattle.pb_rounds.specs.Run.{outcome_of}
use Rattle.pb_rounds.specs.declared.count_fault.CountFault.TheVariants.{RaisesSpent}

-- how many runs a count rests on: one of each raise up to the answered one, and one beyond it where the count would be
-- refused without that
abbrev pub runs_of : CountedElectionView → ℕ
runs_of x = let raised = x.counted.outcome.raised in
    raised + (if is_some (count_of x.election (record x.rule.options { max_raises = raised })) then 1 else 2)

-- these ties of a run, with this number, in the order in which the other projects stand in the file
abbrev pub told_as : CountedElectionView → (run number : ℕ) → List Tie → List ToldTie
told_as x run number ties = map (λ t. record { run = run; number = number; tie = t })
    (flat_map (λ place. filter (λ t. t.other == place) ties) (in_file x))

-- the ties of each round of a run
abbrev pub run_ties : CountedElectionView → ℕ → List ToldTie
run_ties x run = let options = x.rule.options in let share = share_by options.completion options.grain x.election (step_of x.election options) run in
    let elected = (outcome_of options.measure options.grain x.election share).elected in
    flat_map (λ round. told_as x run (round + 1)
    (ties_in options.measure (support_in options.grain x.election) share elected round)) (range_with_len 0 (length elected))

-- the ties of each added project, as if it were the last
abbrev pub added_ties : CountedElectionView → List ToldTie
added_ties x = let c = x.counted in flat_map (λ number. told_as x c.outcome.raised (number + 1) (ties_with_added
    (support_of x.election) (record c { added = take (number + 1) c.added }) (slice_index c.added number)))
    (range_with_len 0 (length c.added))

unfoldable pub all_ties : CountedElectionView → List ToldTie
all_ties x = flat_map (run_ties x) (range_with_len 0 (runs_of x)) ++ added_ties x

-- the first hundred of those of the answered run, the added ones too
unfoldable pub answered_ties : CountedElectionView → List ToldTie
answered_ties x = take 100 (filter (λ t. t.run == x.counted.outcome.raised) (all_ties x))

-- with just the two projects of a tie exchanged others win, or the count is refused; or the same win
unfoldable pub Changes : CountedElectionView → Tie → Bool → Type 0
Changes x t changes = let order = swap (range_with_len 0 (length x.order)) t.winner t.other in let e = in_order order x.election in
    ((changes ≡ true) × IsCountFault e x.rule.options RaisesSpent) ⊎ ((c : CountedView) × IsCountBy x.rule e c
    × ((changes ≡ false) ↔ HasSameMembers (map (slice_index order) (winners_of c)) (winners_of x.counted)))

-- ties of the same two projects, of which the chosen one comes first in the order of ties; the first of each two
abbrev pub is_same_pair : Tie → Tie → Bool
is_same_pair t u = (t.winner == u.winner) && (t.other == u.other)

unfoldable pub different : List Tie → List Tie
different [] = []
different (t ∷ ties) = t ∷ filter (λ u. not (is_same_pair t u)) (different ties)

-- the first so many ties; each says what it changes to exchange the two, if it is one of the first hundred different pairs
abbrev pub AreTieRows : CountedElectionView → (most : ℕ) → List TieRow → Type 0
AreTieRows x most rows = let recounted = take 100 (different (map (λ r. r.told.tie) rows)) in
    (map (λ r. r.told) rows ≡ take most (all_ties x)) × All (λ (r : TieRow).
    (is_some r.changes ≡ list_any (is_same_pair r.told.tie) recounted) × IfSome r.changes (Changes x r.told.tie)) rows
