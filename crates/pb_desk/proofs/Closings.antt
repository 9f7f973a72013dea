-- The voters whose ballots stand, taken out of the places where they stand.
use Rattle.std.proofs.Common.{◌≡◌, ◌≢◌, ℕ, zero, suc, ◌-◌, ◌<◌, ◌≤◌, List, [], ◌∷◌, ◌++◌, length, map, reverse, take, get_or, slice_get, slice_set, All, Option, Some, None, refl, sym, ap, subst, ◌∙◌, arith, length-append}
use Rattle.std.specs.Map.{values_of}
use Rattle.std.specs.Option.{option_and_then, option_map}
use Rattle.std.specs.Str.{bytes_eq}
use Rattle.std.proofs.lemmas.List.{append-nil, append_assoc, get_or-reverse, length-map, length-reverse, length-take}
use Rattle.std.proofs.lemmas.List.Elements.{All-cons, All-head, All-nil, All-push, All-tail}
use Rattle.std.proofs.lemmas.List.Kept.{AllPairs-cons}
use Rattle.std.proofs.lemmas.Map.{NonePasses}
use Rattle.std.proofs.lemmas.Option.{none-some, get_or_from_slice_get, same_Some, slice_get-get_or, slice_get_within}
use Rattle.std.proofs.lemmas.Bool.{false≢true}
use Rattle.std.proofs.lemmas.Slice.Eq.{bytes_eq-Decides}
use Rattle.pb_core.specs.Inner.Ids.{AreDistinct}
use Rattle.pb_core.specs.Election.{ElectionView, VoterView, IsVoter}
use Rattle.pb_core.specs.Request.{EntryView}
use Rattle.pb_desk.specs.Inner.Desk.{AreKnown}
use Rattle.pb_desk.specs.Inner.Legal.{voters_of}
use Rattle.pb_desk.specs.Inner.Sources.{ballot_at, ballots_at, emptied, found_at, AreFound, IsInOrder, IsOwnVoter}
use Rattle.pb_desk.specs.Step.{brought}
use Rattle.pb_desk.specs.declared.source.Source.{Source}
use Rattle.pb_desk.specs.declared.source.Source.TheVariants.{Opening, Entry}
use Rattle.pb_desk.proofs.Slots.{NoneTwice}
use Rattle.pb_desk.proofs.Places.{get-take}
use Rattle.pb_desk.proofs.Sources.{AreFound-emptied}

-- the voters that are left in turned order, from this place of the opening on
abbrev pub turned_from : List VoterView → ℕ → List VoterView
turned_from opening place = take (length opening - place) (reverse opening)

take_twice : {X : Type 0} (n m : ℕ) (xs : List X) → n ≤ m → take n (take m xs) ≡ take n xs
take_twice zero m xs below = refl
take_twice (suc n) zero xs below = absurd (omega (arith, below))
take_twice (suc n) (suc m) [] below = refl
take_twice (suc n) (suc m) (x ∷ xs) below = ap (λ rest. x ∷ rest) (take_twice n m xs (omega (arith, below)))

pub take_none : {X : Type 0} (xs : List X) → take (length xs) xs ≡ xs
take_none [] = refl
take_none (x ∷ xs) = ap (λ rest. x ∷ rest) (take_none xs)

-- the opening in turned order
module _ (opening : List VoterView) (least place : ℕ) (v : VoterView) (after : least ≤ place) (at : slice_get opening place ≡ Some v) where
  within : place < length opening
  within = slice_get_within opening place v at

  pub still_left : length opening - 1 - place < length (turned_from opening least)
  still_left = let below = within in omega (arith, length-take (length opening - least) (reverse opening), length-reverse opening, below, after)

  pub turned_at : slice_get (turned_from opening least) (length opening - 1 - place) ≡ Some v
  turned_at =
      let below = within in
      let index = length opening - 1 - place in
      let turned : index < length (reverse opening) = omega (arith, length-reverse opening, below) in
      let back : length opening - 1 - index ≡ place = omega (arith, below) in
      get-take (length opening - least) (reverse opening) index (omega (arith, below, after))
      ∙ slice_get-get_or (reverse opening) index v turned
      ∙ ap Some (get_or-reverse opening index v (omega (arith, below)) ∙ ap (λ k. get_or opening k v) back)
      ∙ sym (slice_get-get_or opening place v below) ∙ at

  pub turned_next : take (length opening - 1 - place) (turned_from opening least) ≡ turned_from opening (suc place)
  turned_next =
      let next : length opening - 1 - place ≡ length opening - suc place = omega arith in
      take_twice (length opening - 1 - place) (length opening - least) (reverse opening) (omega (arith, after))
      ∙ ap (λ n. take n (reverse opening)) next

-- what is still to be taken
pub record IsLeft (opening turned : List VoterView) (journal : List EntryView) (sources : List (List ℕ × Source)) : Type 0 where
  pub least : ℕ
  pub turned_is : turned ≡ turned_from opening least
  pub in_order : IsInOrder least sources
  pub found : AreFound opening journal sources

-- what was taken, and what is still to be taken, are all
abbrev pub IsTaken : (all done opening : List VoterView) (journal : List EntryView) (sources : List (List ℕ × Source)) → Type 0
IsTaken all done opening journal sources = all ≡ done ++ voters_of (ballots_at opening journal sources)

-- what is so after some of the voters were taken
pub record IsSoFar (opening all turned : List VoterView) (journal : List EntryView) (done : List VoterView) (sources : List (List ℕ × Source)) : Type 0 where
  pub left : IsLeft opening turned journal sources
  pub taken : IsTaken all done opening journal sources
  pub own : All IsOwnVoter done

abbrev pub pair_of : VoterView → List ℕ × List ℕ
pair_of v = (v.id, v.ballot)

voter_from_pair : (o : Option VoterView) (id ballot : List ℕ) → option_map pair_of o ≡ Some (id, ballot) → o ≡ Some (record { id = id; ballot = ballot })
voter_from_pair None id ballot is = absurd (none-some (id, ballot) is)
voter_from_pair (Some v) id ballot is = let same = same_Some (v.id, v.ballot) (id, ballot) is in λ j. Some (record { id = (same j).0; ballot = (same j).1 })

own_at : (voters : List VoterView) (k : ℕ) (v : VoterView) → All IsOwnVoter voters → slice_get voters k ≡ Some v → IsOwnVoter v
own_at voters k v own at =
    let P : VoterView → Type 0 = IsOwnVoter in
    subst P (get_or_from_slice_get voters k v v at) (own k v (slice_get_within voters k v at))

-- the next voter is one of the opening, or stands in an entry
module _ (opening all turned : List VoterView) (journal : List EntryView) (done : List VoterView) (id : List ℕ) (rest : List (List ℕ × Source)) where
  at_opening : (place : ℕ) → IsLeft opening turned journal ((id, Opening place) ∷ rest) →
      slice_get opening place ≡ Some (record { id = id; ballot = ballot_at opening journal (Opening place) })
  at_opening place left = voter_from_pair (slice_get opening place) id (ballot_at opening journal (Opening place)) left.found.0

  pub within_opening : (place : ℕ) → IsLeft opening turned journal ((id, Opening place) ∷ rest) → place < length opening
  within_opening place left = slice_get_within opening place (record { id = id; ballot = ballot_at opening journal (Opening place) }) (at_opening place left)

  pub within_turned : (place count : ℕ) → count ≡ length opening → IsLeft opening turned journal ((id, Opening place) ∷ rest) → count - 1 - place < length turned
  within_turned place count long left =
      let below = still_left opening left.least place (record { id = id; ballot = ballot_at opening journal (Opening place) }) left.in_order.0 (at_opening place left) in
      rw (long, left.turned_is) below

  pub opening_taken : (place count : ℕ) → count ≡ length opening → IsLeft opening turned journal ((id, Opening place) ∷ rest) →
      slice_get turned (count - 1 - place) ≡ Some (record { id = id; ballot = ballot_at opening journal (Opening place) })
  opening_taken place count long left =
      let taken = turned_at opening left.least place (record { id = id; ballot = ballot_at opening journal (Opening place) }) left.in_order.0 (at_opening place left) in
      rw (long, left.turned_is) taken

  pub within_journal : (index : ℕ) → IsLeft opening turned journal ((id, Entry index) ∷ rest) → index < length journal
  within_journal index left = by (slice_get journal index) refl left.found.0
    where
      by : (found : Option EntryView) → slice_get journal index ≡ found → option_and_then (λ (x : EntryView). brought x.request) found ≡ Some (id, ballot_at opening journal (Entry index)) → index < length journal
      by None is none = absurd (none-some (id, ballot_at opening journal (Entry index)) none)
      by (Some x) is some = slice_get_within journal index x is

  pub entry_taken : (index : ℕ) (o : Option VoterView) → IsLeft opening turned journal ((id, Entry index) ∷ rest) →
      option_map pair_of o ≡ found_at opening journal (Entry index) → o ≡ Some (record { id = id; ballot = ballot_at opening journal (Entry index) })
  entry_taken index o left is = voter_from_pair o id (ballot_at opening journal (Entry index)) (is ∙ left.found.0)

  one_more : (source : Source) (now : List EntryView) → ballots_at opening now rest ≡ ballots_at opening journal rest → IsTaken all done opening journal ((id, source) ∷ rest) →
      IsTaken all (done ++ record { id = id; ballot = ballot_at opening journal source } ∷ []) opening now rest
  one_more source now same taken =
      let voter : VoterView = record { id = id; ballot = ballot_at opening journal source } in
      taken ∙ sym (append_assoc done (voter ∷ []) (voters_of (ballots_at opening journal rest)))
      ∙ ap (λ bs. (done ++ voter ∷ []) ++ voters_of bs) (sym same)

  pub after_opening : (place count : ℕ) (v : VoterView) (turned_now : List VoterView) (journal_now : List EntryView) (done_now : List VoterView) (left_now : List (List ℕ × Source)) →
      All IsOwnVoter opening → IsSoFar opening all turned journal done ((id, Opening place) ∷ rest) → count ≡ length opening →
      slice_get turned (count - 1 - place) ≡ Some v → turned_now ≡ take (count - 1 - place) turned → journal_now ≡ journal → done_now ≡ done ++ v ∷ [] → left_now ≡ rest →
      IsSoFar opening all turned_now journal_now done_now left_now
  after_opening place count v turned_now journal_now done_now left_now own so_far long at turned_is journal_is done_is rest_is =
      let left = so_far.left in
      let voter : VoterView = record { id = id; ballot = ballot_at opening journal (Opening place) } in
      let here = at_opening place left in
      let is : v ≡ voter = same_Some v voter (sym at ∙ opening_taken place count long left) in
      rw (turned_is, journal_is, done_is, rest_is, is)
      (record {
        left = record {
          least = suc place;
          turned_is =
              (λ j. take (long j - 1 - place) (left.turned_is j)) ∙ turned_next opening left.least place voter left.in_order.0 here;
          in_order = left.in_order.1;
          found = left.found.1;
        };
        taken = one_more (Opening place) journal refl so_far.taken;
        own = All-push IsOwnVoter done voter so_far.own (own_at opening place voter own here);
      })

  pub after_entry : (index : ℕ) (v : VoterView) (turned_now : List VoterView) (journal_now : List EntryView) (done_now : List VoterView) (left_now : List (List ℕ × Source)) →
      NonePasses (bytes_eq id) rest → IsSoFar opening all turned journal done ((id, Entry index) ∷ rest) →
      option_map pair_of (Some v) ≡ found_at opening journal (Entry index) → IsOwnVoter v →
      turned_now ≡ turned → journal_now ≡ slice_set journal index emptied → done_now ≡ done ++ v ∷ [] → left_now ≡ rest →
      IsSoFar opening all turned_now journal_now done_now left_now
  after_entry index v turned_now journal_now done_now left_now none so_far at own turned_is journal_is done_is rest_is =
      let left = so_far.left in
      let voter : VoterView = record { id = id; ballot = ballot_at opening journal (Entry index) } in
      let is : v ≡ voter = same_Some v voter (entry_taken index (Some v) left at) in
      let kept = AreFound-emptied opening journal index id (ballot_at opening journal (Entry index)) rest none left.found.0 left.found.1 in
      rw (turned_is, journal_is, done_is, rest_is, is)
      (record {
        left = record { least = left.least; turned_is = left.turned_is; in_order = left.in_order; found = kept.0 };
        taken = one_more (Entry index) (slice_set journal index emptied) kept.1 so_far.taken;
        own = All-push IsOwnVoter done voter so_far.own (let P : VoterView → Type 0 = IsOwnVoter in subst P is own);
      })

-- there is room for one voter more than were taken
pub room_left : (opening : List VoterView) (before journal : List EntryView) (all : List (List ℕ × Source)) (done : List VoterView) (s : List ℕ × Source) (rest : List (List ℕ × Source)) →
    IsTaken (voters_of (ballots_at opening before all)) done opening journal (s ∷ rest) → length done < length all
room_left opening before journal all done s rest taken =
    let voter_of : List ℕ × List ℕ → VoterView = λ b. record { id = b.0; ballot = b.1 } in
    let ballot_of : List ℕ × Source → List ℕ × List ℕ = λ t. (t.0, ballot_at opening before t.1) in
    let long = ap length taken in
    let count = length-map (ballots_at opening before all) voter_of ∙ length-map all ballot_of in
    omega (arith, long, count, length-append done (voters_of (ballots_at opening journal (s ∷ rest))))

-- before any voter is taken, and after all are
pub IsSoFar-start : (opening turned : List VoterView) (journal : List EntryView) (done : List VoterView) (sources : List (List ℕ × Source)) →
    AreFound opening journal sources → IsInOrder 0 sources → turned ≡ reverse opening → done ≡ [] →
    IsSoFar opening (voters_of (ballots_at opening journal sources)) turned journal done sources
IsSoFar-start opening turned journal done sources found in_order turned_is none =
    let count : length opening - 0 ≡ length (reverse opening) = omega (arith, length-reverse opening) in
    rw none
    (record {
      left = record {
        least = 0;
        turned_is = turned_is ∙ sym (ap (λ n. take n (reverse opening)) count ∙ take_none (reverse opening));
        in_order = in_order;
        found = found;
      };
      taken = refl;
      own = All-nil IsOwnVoter;
    })

pub taken_all : (all done opening : List VoterView) (journal : List EntryView) (sources : List (List ℕ × Source)) → IsTaken all done opening journal sources → sources ≡ [] → done ≡ all
taken_all all done opening journal sources taken none = sym (taken ∙ ap (λ ss. done ++ voters_of (ballots_at opening journal ss)) none ∙ append-nil done)

-- the ids of voters with ballots
ids_differ : (opening : List VoterView) (journal : List EntryView) (id : List ℕ) (sources : List (List ℕ × Source)) → NonePasses (bytes_eq id) sources →
    All (λ other. id ≢ other) (map (λ (v : VoterView). v.id) (voters_of (ballots_at opening journal sources)))
ids_differ opening journal id [] none = All-nil (λ (other : List ℕ). id ≢ other)
ids_differ opening journal id (s ∷ sources) none =
    All-cons (λ (other : List ℕ). id ≢ other) s.0 (map (λ (v : VoterView). v.id) (voters_of (ballots_at opening journal sources)))
    (λ same. false≢true (sym none.0 ∙ (bytes_eq-Decides id s.0).1 same)) (ids_differ opening journal id sources none.1)

pub AreDistinct-sources : (opening : List VoterView) (journal : List EntryView) (sources : List (List ℕ × Source)) → NoneTwice sources →
    AreDistinct (map (λ (v : VoterView). v.id) (voters_of (ballots_at opening journal sources)))
AreDistinct-sources opening journal [] none = λ i j d before within. absurd (omega (arith, within))
AreDistinct-sources opening journal (s ∷ sources) none =
    AllPairs-cons (λ (a b : List ℕ). a ≢ b) s.0 (map (λ (v : VoterView). v.id) (voters_of (ballots_at opening journal sources)))
    (ids_differ opening journal s.0 sources none.0) (AreDistinct-sources opening journal sources none.1)

-- voters with known ballots are those of an election
pub are_voters : (e : ElectionView) (ballots : List (List ℕ × List ℕ)) → All (AreKnown e) (values_of ballots) → All IsOwnVoter (voters_of ballots) →
    All (IsVoter (length e.projects)) (voters_of ballots)
are_voters e [] known own = All-nil (IsVoter (length e.projects))
are_voters e (b ∷ bs) known own =
    let voter : VoterView = record { id = b.0; ballot = b.1 } in
    let is : IsOwnVoter voter = All-head IsOwnVoter voter (voters_of bs) own in
    All-cons (IsVoter (length e.projects)) voter (voters_of bs)
    (record { has_id = is.0; ballot_rises = is.1; ballot_known = All-head (AreKnown e) b.1 (values_of bs) known })
    (are_voters e bs (All-tail (AreKnown e) b.1 (values_of bs) known) (All-tail IsOwnVoter voter (voters_of bs) own))

pub own_voters : (projects : ℕ) (voters : List VoterView) → All (IsVoter projects) voters → All IsOwnVoter voters
own_voters projects voters are = λ k d below. let voter = are k d below in (voter.has_id, voter.ballot_rises)
