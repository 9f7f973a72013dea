-- The count of an election of which two projects are exchanged, beside the one before.
use Rattle.std.proofs.Common.{◌≡◌, ◌≢◌, ◌∙◌, ◌<◌, ◌+◌, ◌++◌, ℕ, Bool, true, false, List, [], ◌∷◌, ap, arith, get_or, inl, inr, length, map, refl, subst, sym, take}
use Rattle.std.specs.Prelude.{◌↔◌, All, AllPairs, Any, Contains, IfSome, None, Option, Some, is_some, slice_index, slice_index_or, swap}
use Rattle.std.specs.List.{list_any, range_with_len}
use Rattle.std.proofs.lemmas.Bool.{true≢false}
use Rattle.std.proofs.lemmas.List.{get_or-map, get_or_read, length-map, map_push, take_more}
use Rattle.std.proofs.lemmas.List.Elements.{All-append, All-map, All-push}
use Rattle.std.proofs.lemmas.List.Folds.{list_any_at}
use Rattle.pb_core.specs.Ballot.{HasSameMembers}
use Rattle.pb_core.specs.Election.{ElectionView, IsElection, ProjectView}
use Rattle.pb_core.specs.Order.{IsOrder, in_order}
use Rattle.pb_core.proofs.InOrder.{IsElection-in_order, same_number}
use Rattle.pb_core.proofs.Orders.{order_known}
use Rattle.pb_reasons.specs.AllTies.{Changes, different, is_same_pair}
use Rattle.pb_reasons.specs.Counted.{CountedView, IsCountBy, winners_of}
use Rattle.pb_reasons.specs.CountedElection.{CountedElectionView}
use Rattle.pb_reasons.specs.Inner.AllTies.{AreBefore, AreRecounted, AreRowsOf, IsRecounted, IsTieOf}
use Rattle.pb_reasons.specs.declared.exchange.Recounted.{Recounted}
use Rattle.pb_reasons.specs.declared.tie.Tie.{Tie}
use Rattle.pb_reasons.specs.declared.told_tie.TieRow.{TieRow}
use Rattle.pb_reasons.specs.declared.told_tie.ToldTie.{ToldTie}
use Rattle.pb_reasons.proofs.AllWinners.{winners_differ}
use Rattle.pb_reasons.proofs.Exchanges.{all_there, as_long, as_many, exchanged_is_order, exchanged_twice, moved_differ, taken_from, to_taken}
use Rattle.pb_reasons.proofs.Pairs.{from_two, full, known_before, room, same_two, stays}
use Rattle.pb_reasons.proofs.Results.{counted_is_result, result_is_added, result_of}
use Rattle.pb_reasons.proofs.Tellable.{count_can_be_told}
use Rattle.pb_rounds.specs.Counted.{IsCountFault}
use Rattle.pb_rounds.specs.MostVotes.{is_taken}
use Rattle.pb_rounds.specs.Run.{ElectedView}
use Rattle.pb_rounds.specs.declared.count_fault.CountFault.TheVariants.{RaisesSpent}
use Rattle.pb_rounds.specs.declared.rule.Rule.{Rule}

-- ---- the winners of a count

module _ (rule : Rule) (e : ElectionView) (election : IsElection e) (c : CountedView) (count : IsCountBy rule e c) where
  pub winners_apart : AllPairs (λ w v. w ≢ v) (winners_of c)
  winners_apart = winners_differ e election c (result_of rule e c count)

  pub winners_within : All (λ w. w < length e.projects) (winners_of c)
  winners_within =
      let result = result_of rule e c count in
      All-append (λ w. w < length e.projects) (map (λ (w : ElectedView). w.place) c.outcome.elected) c.added
      (All-map (λ w. w < length e.projects) (λ (w : ElectedView). w.place) c.outcome.elected (count_can_be_told e result.0 c.outcome election result.1).known)
      (result_is_added e c election result).known

-- ---- whether others win

module _ (places winners : List ℕ) (is : IsOrder places) (known : All (λ w. w < length places) winners) (apart : AllPairs (λ w v. w ≢ v) winners)
    (has_won : List Bool) (one_each : length has_won ≡ length places) (many : ℕ)
    (x : CountedElectionView) (rule : Rule) (e : ElectionView) (before : AreBefore rule e has_won many x) where
  abbrev these : List ℕ
  these = map (slice_index places) winners

  abbrev those : List ℕ
  those = winners_of x.counted

  these_apart : AllPairs (λ w v. w ≢ v) these
  these_apart = moved_differ places winners is known apart

  those_apart : AllPairs (λ w v. w ≢ v) those
  those_apart = winners_differ x.election before.is_counted.is_election x.counted (counted_is_result x before.is_counted)

  flag_of : (i : ℕ) → i < length winners → slice_index_or has_won (get_or places (get_or winners i 0) 0) false ≡ is_taken those (get_or places (get_or winners i 0) 0)
  flag_of i below =
      before.flags.flagged (get_or places (get_or winners i 0) 0)
      (omega (arith, order_known places is (get_or winners i 0) 0 (known i 0 below), one_each, before.flags.one_each))

  pub not_as_many : length winners ≢ many → (true ≡ false) ↔ HasSameMembers these those
  not_as_many other = (
    λ wrong. absurd (true≢false wrong),
    λ same. absurd (other (sym (length-map winners (slice_index places)) ∙ as_many these those these_apart those_apart same ∙ sym before.many)),
  )

  pub one_other : (i : ℕ) → i < length winners → slice_index_or has_won (get_or places (get_or winners i 0) 0) false ≡ false
      → (true ≡ false) ↔ HasSameMembers these those
  one_other i below none = (
    λ wrong. absurd (true≢false wrong),
    λ same.
        let place = get_or places (get_or winners i 0) 0 in
        let among : Contains these place = (i, omega (arith, below, length-map winners (slice_index places)), get_or-map (slice_index places) winners i 0 place below) in
        absurd (true≢false (sym (to_taken those place ((same place).0 among)) ∙ sym (flag_of i below) ∙ none)),
  )

  pub all_won : length winners ≡ many → ((i : ℕ) → i < length winners → slice_index_or has_won (get_or places (get_or winners i 0) 0) false ≡ true)
      → (false ≡ false) ↔ HasSameMembers these those
  all_won many_are won =
      let each : (q : ℕ) → Contains these q → Contains those q = λ q among. one_of q among in
      let as_long : length these ≡ length those = length-map winners (slice_index places) ∙ many_are ∙ before.many in
      (λ so q. (each q, all_there these those these_apart as_long each q), λ same. refl)
    where
      one_of : (q : ℕ) → Contains these q → Contains those q
      one_of q (i, below, here) =
          let within : i < length winners = omega (arith, below, length-map winners (slice_index places)) in
          let place : get_or places (get_or winners i 0) 0 ≡ q = sym (get_or-map (slice_index places) winners i 0 q within) ∙ here in
          subst (Contains those) place (taken_from those (get_or places (get_or winners i 0) 0) (sym (flag_of i within) ∙ won i within))

pub the_flag : (has_won : List Bool) (place : ℕ) (flag b : Bool) → place < length has_won → flag ≡ get_or has_won place flag → flag ≡ b
    → slice_index_or has_won place false ≡ b
the_flag has_won place flag b below read so = sym (get_or_read has_won place flag below read false) ∙ so

-- ---- what an exchange changes

module _ (rule : Rule) (e : ElectionView) (t : Tie) (has_won : List Bool) (many : ℕ) (x : CountedElectionView) (before : AreBefore rule e has_won many x) where
  abbrev order : List ℕ
  order = swap (range_with_len 0 (length e.projects)) t.winner t.other

  own_length : length x.order ≡ length e.projects
  own_length = before.is_counted.one_each ∙ ap (λ (f : ElectionView). length f.projects) before.of_election

  pub others_win : (changes : Bool) (c : CountedView) → IsCountBy rule (in_order order e) c
      → ((changes ≡ false) ↔ HasSameMembers (map (slice_index order) (winners_of c)) (winners_of x.counted)) → Changes x t changes
  unfolding Changes
  others_win changes c count same = rw (own_length, before.of_rule, before.of_election) (inr (c, count, same))

  pub refused : IsCountFault (in_order order e) rule.options RaisesSpent → Changes x t true
  unfolding Changes
  refused fault = rw (own_length, before.of_rule, before.of_election) (inl (refl, fault))

module _ (e : ElectionView) (election : IsElection e) (t : Tie) (known : IsTieOf e t) (projects : List ProjectView) (order : List ℕ)
    (same : projects ≡ e.projects) (is : order ≡ swap (range_with_len 0 (length projects)) t.winner t.other) where
  order_is : order ≡ swap (range_with_len 0 (length e.projects)) t.winner t.other
  order_is = is ∙ ap (λ (ps : List ProjectView). swap (range_with_len 0 (length ps)) t.winner t.other) same

  pub order_long : length order ≡ length e.projects
  order_long = ap length order_is ∙ as_long (length e.projects) t.winner t.other known.0 known.1

  pub order_is_one : IsOrder order
  order_is_one = subst IsOrder (sym order_is) (exchanged_is_order (length e.projects) t.winner t.other known.0 known.1)

  module _ (moved : ElectionView) (put : moved ≡ in_order order e) where
    moved_election : IsElection moved
    moved_election = subst IsElection (sym put) (IsElection-in_order order e order_is_one order_long election)

    pub moved_long : length order ≡ length moved.projects
    moved_long = order_long ∙ sym (same_number order e order_is_one order_long election) ∙ ap (λ (f : ElectionView). length f.projects) (sym put)

    pub put_back : (back : ElectionView) → back ≡ in_order order moved → back ≡ e
    put_back back again =
        again ∙ ap (in_order order) put ∙ ap (λ o. in_order o (in_order o e)) order_is
        ∙ exchanged_twice (length e.projects) t.winner t.other known.0 known.1 e election refl

    module _ (rule : Rule) (found : List ℕ) (won : (c : CountedView) × IsCountBy rule moved c × (found ≡ winners_of c)) where
      pub found_known : All (λ w. w < length order) found
      found_known =
          subst (All (λ w. w < length order)) (sym won.2) (subst (λ n. All (λ w. w < n) (winners_of won.0)) (sym moved_long) (winners_within rule moved moved_election won.0 won.1))

      pub found_apart : AllPairs (λ w v. w ≢ v) found
      found_apart = subst (AllPairs (λ w v. w ≢ v)) (sym won.2) (winners_apart rule moved moved_election won.0 won.1)

    module _ (rule : Rule) (has_won : List Bool) (many : ℕ) (x : CountedElectionView) (before : AreBefore rule e has_won many x) where
      moved_is : moved ≡ in_order (swap (range_with_len 0 (length e.projects)) t.winner t.other) e
      moved_is = put ∙ ap (λ o. in_order o e) order_is

      pub answered : (found places winners : List ℕ) → (won : (c : CountedView) × IsCountBy rule moved c × (found ≡ winners_of c)) → places ≡ order → winners ≡ found
          → (changes : Bool) → ((changes ≡ false) ↔ HasSameMembers (map (slice_index places) winners) (winners_of x.counted)) → Changes x t changes
      answered found places winners won places_are winners_are changes iff =
          let these_are : map (slice_index places) winners ≡ map (slice_index (swap (range_with_len 0 (length e.projects)) t.winner t.other)) (winners_of won.0) =
          ap (λ o. map (slice_index o) winners) (places_are ∙ order_is) ∙ ap (map (slice_index (swap (range_with_len 0 (length e.projects)) t.winner t.other))) (winners_are ∙ won.2) in
          others_win rule e t has_won many x before changes won.0 (subst (λ (f : ElectionView). IsCountBy rule f won.0) moved_is won.1)
          (subst (λ (l : List ℕ). (changes ≡ false) ↔ HasSameMembers l (winners_of x.counted)) these_are iff)

      pub none_answered : IsCountFault moved rule.options RaisesSpent → Changes x t true
      none_answered fault = refused rule e t has_won many x before (subst (λ (f : ElectionView). IsCountFault f rule.options RaisesSpent) moved_is fault)

-- it is the same of ties of the same two
pub changes_as : (x : CountedElectionView) (t u : Tie) (b c : Bool) → is_same_pair t u ≡ true → b ≡ c → Changes x t b → Changes x u c
unfolding Changes
changes_as x t u b c same is changes =
    let two = same_two t u same in
    let by : (winner other : ℕ) → Tie = λ winner other. record { round = None; winner = winner; other = other } in
    subst (λ winner. Changes x (by winner u.other) c) two.0 (subst (λ other. Changes x (by t.winner other) c) two.1 (subst (Changes x t) is changes))

-- ---- one tie more

module _ (x : CountedElectionView) (ties : List Tie) (tie : Tie) (known : List Recounted) (are : AreRecounted x ties known) where
  pub recounted_before : (changes : Bool) → Any (λ (k : Recounted). (is_same_pair k.tie tie ≡ true) × (k.changes ≡ changes)) known
      → IsRecounted x ties tie (Some changes) known
  recounted_before changes among =
      let at = known_before ties tie known are.0 changes among in
      record {
        all = (are.0 ∙ ap (take 100) (sym at.1), are.1);
        told = sym (ap (λ (ts : List Tie). list_any (is_same_pair tie) (take 100 ts)) at.1 ∙ at.0);
        so = so among;
      }
    where
      so : Any (λ (k : Recounted). (is_same_pair k.tie tie ≡ true) × (k.changes ≡ changes)) known → Changes x tie changes
      so (i, k, below, here, (same, is)) = changes_as x k.tie tie k.changes changes same is (subst (λ (r : Recounted). Changes x r.tie r.changes) here (are.1 i k below))

  module _ (none : All (λ (k : Recounted). is_same_pair k.tie tie ≡ false) known) where
    pub no_more : length known ≡ 100 → IsRecounted x ties tie None known
    no_more many =
        let at = full ties tie known are.0 none many in
        record { all = (are.0 ∙ sym at.0, are.1); told = sym at.1; so = tt }

    pub one_recounted : (changes : Bool) → length known ≢ 100 → Changes x tie changes
        → IsRecounted x ties tie (Some changes) (known ++ record { tie = tie; changes = changes } ∷ [])
    one_recounted changes other so =
        let at = room ties tie known are.0 none changes other in
        record {
          all = (at.0, All-push (λ (k : Recounted). Changes x k.tie k.changes) known (record { tie = tie; changes = changes }) are.1 so);
          told = sym at.1;
          so = so;
        }

-- ---- one row more

-- none
pub none_yet : (x : CountedElectionView) (known : List Recounted) (rows : List TieRow) → known ≡ [] → rows ≡ []
    → AreRecounted x [] known × AreRowsOf x [] rows
unfolding different
none_yet x known rows no_known no_rows =
    rw (no_known, no_rows) ((refl, λ k d below. absurd (omega (arith, below))), (refl, λ k d below. absurd (omega (arith, below))))

abbrev tie_of : ToldTie → Tie
tie_of t = t.tie

module _ (x : CountedElectionView) (told : List ToldTie) (rows : List TieRow) (are : AreRowsOf x told rows) (one : ToldTie) (changes : Option Bool) (known : List Recounted)
    (more : IsRecounted x (map tie_of told) one.tie changes known) where
  ties_more : map tie_of (told ++ one ∷ []) ≡ map tie_of told ++ one.tie ∷ []
  ties_more = map_push tie_of told one

  pub recounted_more : AreRecounted x (map tie_of (told ++ one ∷ [])) known
  recounted_more = subst (λ (ts : List Tie). AreRecounted x ts known) (sym ties_more) more.all

  earlier : (k : ℕ) (d : TieRow) → k < length rows → list_any (is_same_pair (get_or rows k d).told.tie) (map tie_of told) ≡ true
  earlier k d below =
      let r = get_or rows k d in
      let within : k < length told = omega (arith, below, ap length are.0, length-map rows (λ (r : TieRow). r.told)) in
      let at : get_or (map tie_of told) k r.told.tie ≡ r.told.tie =
      get_or-map tie_of told k r.told r.told.tie within
      ∙ ap (λ (ts : List ToldTie). tie_of (get_or ts k r.told)) (sym are.0) ∙ ap tie_of (get_or-map (λ (r : TieRow). r.told) rows k d r.told below) in
      list_any_at (is_same_pair r.told.tie) (map tie_of told) k r.told.tie (omega (arith, within, length-map told tie_of))
      (from_two r.told.tie (get_or (map tie_of told) k r.told.tie) (ap (λ (t : Tie). t.winner) (sym at)) (ap (λ (t : Tie). t.other) (sym at)))

  abbrev IsRow : List Tie → TieRow → Type 0
  IsRow ties r = (is_some r.changes ≡ list_any (is_same_pair r.told.tie) (take 100 (different ties))) × IfSome r.changes (Changes x r.told.tie)

  pub rows_more : AreRowsOf x (told ++ one ∷ []) (rows ++ record { told = one; changes = changes } ∷ [])
  rows_more =
      let row : TieRow = record { told = one; changes = changes } in (
        map_push (λ (r : TieRow). r.told) rows row ∙ ap (λ (ts : List ToldTie). ts ++ one ∷ []) are.0,
        subst (λ (ts : List Tie). All (IsRow ts) (rows ++ row ∷ [])) (sym ties_more)
            (All-push (IsRow (map tie_of told ++ one.tie ∷ [])) rows row
            (λ k d below. let was = are.1 k d below in
            (was.0 ∙ sym (stays (map tie_of told) one.tie (get_or rows k d).told.tie (earlier k d below)), was.1))
            (more.told, more.so)),
      )

-- the next row
pub next_row : (x : CountedElectionView) (told : List ToldTie) (i : ℕ) (d : ToldTie) → i < length told → (rows new : List TieRow) → AreRowsOf x (take i told) rows
    → (changes : Option Bool) (known : List Recounted) → IsRecounted x (map tie_of (take i told)) (get_or told i d).tie changes known
    → new ≡ rows ++ record { told = get_or told i d; changes = changes } ∷ []
    → AreRecounted x (map tie_of (take (i + 1) told)) known × AreRowsOf x (take (i + 1) told) new
next_row x told i d below rows new are changes known more put =
    rw (put, take_more told i d below)
    (recounted_more x (take i told) rows are (get_or told i d) changes known more, rows_more x (take i told) rows are (get_or told i d) changes known more)
