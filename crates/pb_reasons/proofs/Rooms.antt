-- Whether winners leave room for a project that somebody supports.
use Rattle.std.proofs.Common.{◌≡◌, ◌≢◌, ℕ, zero, suc, ◌-◌, ◌<◌, ◌≤◌, ◌&&◌, Bool, true, false, not, cond, List, [], ◌∷◌, length, map, get_or, subst, sym, ◌∙◌, ap, inl, inr, arith}
use Rattle.std.specs.Prelude.{◌==◌, All, filter}
use Rattle.std.specs.List.{list_any, range_with_len}
use Rattle.std.proofs.lemmas.Bool.{true≢false, not-true, not_from_false, and_parts, and_from, and_cases, cases_Bool, false_from_ne_true, leb-true, leb-false, eq-eqb, eqb-true, ne_eqb}
use Rattle.std.proofs.lemmas.List.{get_or-map, length-map}
use Rattle.std.proofs.lemmas.List.Elements.{filter_passes}
use Rattle.std.proofs.lemmas.List.Folds.{Any-from_list_any, list_any_at, list_any_none}
use Rattle.std.proofs.lemmas.List.FromFn.{get_or-map-range_with_len, get_or-range_with_len, length-range_with_len}
use Rattle.pb_core.specs.Inner.Approved.{approves}
use Rattle.pb_core.specs.Election.{ElectionView, IsElection, VoterView}
use Rattle.pb_rounds.specs.MostVotes.{is_taken}
use Rattle.pb_price.proofs.SupporterLists.{supporters_of_known}
use Rattle.pb_price.specs.Supporters.{ballot_at, cost_at, support_of, supporters_at, supporters_of}
use Rattle.pb_rounds.specs.Completed.{IsExhausted}
use Rattle.pb_rounds.specs.Count.{spent_on}
use Rattle.pb_rounds.specs.Outcome.{OutcomeView}
use Rattle.pb_rounds.specs.Run.{ElectedView}
use Rattle.pb_reasons.specs.Inner.Raises.{TellsExhausted, leave_room_for}
use Rattle.pb_reasons.proofs.AllWinners.{elected_are_taken}

-- none of the first so many of a list passes, and these are all
pub none_passes : {X : Type 0} (p : X → Bool) (xs : List X) (n : ℕ) → length xs ≤ n
    → ((k : ℕ) (d : X) → k < n → p (get_or xs k d) ≡ false) → false ≡ list_any p xs
none_passes p xs n all none = sym (list_any_none p xs (λ k d below. none k d (omega (arith, all, below))))

module _ (p : ℕ → Bool) (n : ℕ) where
  number_at : (k d : ℕ) → k < n → get_or (range_with_len 0 n) k d ≡ k
  number_at k d below = get_or-range_with_len 0 n k d below ∙ omega arith

  pub one_number_passes : (k : ℕ) → k < n → p k ≡ true → true ≡ list_any p (range_with_len 0 n)
  one_number_passes k below passes =
      sym (list_any_at p (range_with_len 0 n) k 0 (rw (length-range_with_len 0 n) below) (ap p (number_at k 0 below) ∙ passes))

  pub no_number_passes : (m : ℕ) → n ≤ m → ((k : ℕ) → k < m → p k ≡ false) → false ≡ list_any p (range_with_len 0 n)
  no_number_passes m all none = sym (list_any_none p (range_with_len 0 n) (λ k d below.
      let known : k < n = rw (sym (length-range_with_len 0 n)) below in
      ap p (number_at k d known) ∙ none k (omega (arith, all, known))))

-- a number of a list that passes is kept
some_kept : (p : ℕ → Bool) (xs : List ℕ) (k d : ℕ) → k < length xs → p (get_or xs k d) ≡ true → 0 < length (filter p xs)
some_kept p [] k d below passes = absurd (omega (arith, below))
some_kept p (x ∷ xs) zero d below passes =
    omega (arith, ap (λ b. length (cond b (x ∷ filter p xs) (filter p xs))) passes)
some_kept p (x ∷ xs) (suc k) d below passes = elim (cases_Bool (p x)) [
  | inl kept ↦ omega (arith, ap (λ b. length (cond b (x ∷ filter p xs) (filter p xs))) kept)
  | inr out ↦
      omega (arith, ap (λ b. length (cond b (x ∷ filter p xs) (filter p xs))) out, some_kept p xs k d (omega (arith, below)) passes)
]

module _ (e : ElectionView) (place : ℕ) (known : place < length e.projects) where
  listed : supporters_at (support_of e) place ≡ supporters_of e place
  listed = get_or-map-range_with_len (supporters_of e) 0 (length e.projects) place place [] known (omega arith)

  -- who approves a project supports it
  approved_is_supported : (voter : ℕ) → voter < length e.voters → approves (ballot_at e voter) place ≡ true
      → 0 < length (supporters_at (support_of e) place)
  unfolding supporters_of
  approved_is_supported voter is_voter approved =
      let p : ℕ → Bool = λ v. approves (ballot_at e v) place in
      let kept = some_kept p (range_with_len 0 (length e.voters)) voter 0 (rw (length-range_with_len 0 (length e.voters)) is_voter)
      (ap p (number_at p (length e.voters) voter 0 is_voter) ∙ approved) in
      omega (arith, kept, ap length listed)

  -- a project that has a supporter is approved by a voter
  supported_is_approved : 0 < length (supporters_at (support_of e) place)
      → (voter : ℕ) × (voter < length e.voters) × (approves (ballot_at e voter) place ≡ true)
  unfolding supporters_of
  supported_is_approved some =
      let below : 0 < length (supporters_of e place) = omega (arith, some, ap length listed) in
      let p : ℕ → Bool = λ v. approves (ballot_at e v) place in (
        get_or (supporters_of e place) 0 0,
        supporters_of_known e place 0 0 below,
        filter_passes p (range_with_len 0 (length e.voters)) 0 0 below,
      )

-- what a ballot approves, and passes, is found on it
found_on_ballot : (p : ℕ → Bool) (ballot : List ℕ) (place : ℕ) → approves ballot place ≡ true → p place ≡ true → list_any p ballot ≡ true
found_on_ballot p ballot place approved passes =
    let (k, x, below, is, same) = Any-from_list_any (λ q. q == place) ballot approved in
    list_any_at p ballot k x below (ap p (is ∙ eqb-true _ _ same) ∙ passes)

others_are_free : (elected : List ElectedView) (place : ℕ) → All (λ w. w.place ≢ place) elected → is_taken (map (λ w. w.place) elected) place ≡ false
others_are_free elected place h =
    sym (elected_are_taken elected place) ∙ list_any_none (λ w. w.place == place) elected (λ k d below. ne_eqb _ _ (h k d below))

free_are_others : (elected : List ElectedView) (place : ℕ) → is_taken (map (λ w. w.place) elected) place ≡ false → All (λ w. w.place ≢ place) elected
free_are_others elected place e k d below same =
    true≢false (sym (list_any_at (λ w. w.place == place) elected k d below (eq-eqb _ _ same)) ∙ elected_are_taken elected place ∙ e)

module _ (e : ElectionView) (o : OutcomeView) (h : IsElection e) (within : spent_on (support_of e) o.elected ≤ e.budget) where
  abbrev pub taken : List ℕ
  taken = map (λ w. w.place) o.elected

  abbrev pub left : ℕ
  left = e.budget - spent_on (support_of e) o.elected

  abbrev pub passes : ℕ → Bool
  passes = leave_room_for (e, taken) left

  abbrev pub ballot_passes : VoterView → Bool
  ballot_passes v = list_any passes v.ballot

  -- a ballot that passes approves a project that could be added
  room_is_no_end : list_any ballot_passes e.voters ≡ true → ¬ IsExhausted (support_of e) e.budget o.elected
  room_is_no_end found exhausted =
      let (k, v, is_voter, here, on_ballot) = Any-from_list_any ballot_passes e.voters found in
      let (j, place, below, is, passing) = Any-from_list_any passes v.ballot on_ballot in
      let ballot : ballot_at e k ≡ v.ballot = get_or-map (λ (u : VoterView). u.ballot) e.voters k v [] is_voter ∙ ap (λ (u : VoterView). u.ballot) here in
      let all_known : All (λ q. q < length e.projects) v.ballot = subst (λ (u : VoterView). All (λ q. q < length e.projects) u.ballot) here (h.are_voters k v is_voter).ballot_known in
      let known : place < length e.projects = subst (λ (q : ℕ). q < length e.projects) is (all_known j place below) in
      let approved = ap (λ (l : List ℕ). approves l place) ballot ∙ list_any_at (λ q. q == place) v.ballot j place below (eq-eqb _ _ is) in
      let parts = and_parts _ _ passing in
      let free = free_are_others o.elected place (not-true _ parts.0) in
      let room = exhausted.no_room place (rw (length-map e.projects (λ p. p.cost)) known, free) (approved_is_supported e place known k is_voter approved) in
      omega (arith, room, leb-true _ _ parts.1, within)

  -- where no ballot passes, or no project, nothing could be added
  no_room_is_end : (list_any passes (range_with_len 0 (length e.projects)) && list_any ballot_passes e.voters) ≡ false
      → IsExhausted (support_of e) e.budget o.elected
  no_room_is_end none = record {
    within = within;
    no_room = λ place is_left supported.
        let known : place < length e.projects = rw (sym (length-map e.projects (λ p. p.cost))) is_left.0 in
        let out = false_from_ne_true (passes place) (λ passing. true≢false (sym (found place known supported passing) ∙ none)) in
        elim (and_cases _ _ out) [
          | inl is_taken_too ↦ absurd (true≢false (sym (not_from_false _ (others_are_free o.elected place is_left.1)) ∙ is_taken_too))
          | inr dear ↦ omega (arith, leb-false (cost_at (support_of e) place) left dear, within)
        ];
  }
    where
      found : (place : ℕ) → place < length e.projects → 0 < length (supporters_at (support_of e) place) → passes place ≡ true
          → (list_any passes (range_with_len 0 (length e.projects)) && list_any ballot_passes e.voters) ≡ true
      found place known supported passing =
          let (voter, is_voter, approved) = supported_is_approved e place known supported in
          let nobody : VoterView = record { id = []; ballot = [] } in
          let ballot : ballot_at e voter ≡ (get_or e.voters voter nobody).ballot = get_or-map (λ (u : VoterView). u.ballot) e.voters voter nobody [] is_voter in
          and_from _ _ (sym (one_number_passes passes (length e.projects) place known passing))
          (list_any_at ballot_passes e.voters voter nobody is_voter
          (found_on_ballot passes (get_or e.voters voter nobody).ballot place (ap (λ (l : List ℕ). approves l place) (sym ballot) ∙ approved) passing))

  -- whether there is room tells whether the outcome is exhausted, as the code finds it
  pub room_tells : (winners : ElectionView × List ℕ) (rest projects : ℕ) → winners ≡ (e, taken) → rest ≡ left → projects ≡ length e.projects
      → (room : Bool)
      → room ≡ (list_any (leave_room_for winners rest) (range_with_len 0 projects)
      && list_any (λ (v : VoterView). list_any (leave_room_for winners rest) v.ballot) e.voters)
      → TellsExhausted e o (not room)
  room_tells winners rest projects winners_are rest_is all room is = by_room room
      (is ∙ ap (λ (w : ElectionView × List ℕ). list_any (leave_room_for w rest) (range_with_len 0 projects) && list_any (λ (v : VoterView). list_any (leave_room_for w rest) v.ballot) e.voters) winners_are
      ∙ ap (λ (n : ℕ). list_any (leave_room_for (e, taken) n) (range_with_len 0 projects) && list_any (λ (v : VoterView). list_any (leave_room_for (e, taken) n) v.ballot) e.voters) rest_is
      ∙ ap (λ (n : ℕ). list_any passes (range_with_len 0 n) && list_any ballot_passes e.voters) all)
    where
      by_room : (room : Bool) → room ≡ (list_any passes (range_with_len 0 (length e.projects)) && list_any ballot_passes e.voters)
          → TellsExhausted e o (not room)
      by_room true is = room_is_no_end (and_parts _ _ (sym is)).1
      by_room false is = no_room_is_end (sym is)
