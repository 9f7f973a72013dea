-- The rounds that elected what a ballot approves.
use Rattle.std.proofs.Common.{◌≡◌, ℕ, ◌<◌, Bool, true, List, [], ◌∷◌, length, get_or, map, refl, sym, ◌∙◌, ap, subst, inl, inr, arith}
use Rattle.std.specs.Prelude.{◌==◌, All, AllPairs, Contains, filter, nat_lt, slice_index}
use Rattle.std.specs.List.Sorted.{IsStrictlyIncreasing}
use Rattle.std.proofs.lemmas.Bool.{cases_Bool, eq-eqb, eqb-true, false_from_ne_true, lt-ltb, ltb-true, ne_eqb, or_cases, or_left, or_right, true≢false}
use Rattle.std.proofs.lemmas.List.{get_or_default}
use Rattle.std.proofs.lemmas.List.Elements.{All-contains, All-filter, All-map, Contains-get_or, filter_passes}
use Rattle.std.proofs.lemmas.List.Sums.{position_or_len_is}
use Rattle.pb_core.specs.Ballot.{HasSameMembers}
use Rattle.pb_core.specs.Inner.Approved.{approves}
use Rattle.pb_rounds.specs.Inner.Listed.{is_listed}
use Rattle.pb_rounds.specs.Run.{ElectedView}
use Rattle.pb_rounds.proofs.Listed.{contains_from_listed, listed_from_contains}
use Rattle.pb_reasons.specs.Reasons.{round_of}
use Rattle.pb_reasons.specs.Inner.Kept.{AreRounds}
use Rattle.pb_reasons.specs.Inner.Told.{AreApart}
use Rattle.pb_reasons.specs.Inner.Turns.{AreDue, ArePaid, HasPaid, paid_alone}
use Rattle.pb_reasons.proofs.Told.{round_elects}

pub listed_in_filter : (p : ℕ → Bool) (xs : List ℕ) (x : ℕ) → is_listed xs x ≡ true → p x ≡ true → is_listed (filter p xs) x ≡ true
listed_in_filter p [] x listed passes = absurd (true≢false (sym listed))
listed_in_filter p (y ∷ ys) x listed passes = elim (or_cases (y == x) (is_listed ys x) listed) [
  | inl same ↦ let e : y ≡ x = eqb-true y x same in rw (e, passes) (or_left (x == x) _ (eq-eqb x x refl))
  | inr later ↦ elim (cases_Bool (p y)) [
    | inl t ↦ rw t (or_right (y == x) _ (listed_in_filter p ys x later passes))
    | inr f ↦ rw f (listed_in_filter p ys x later passes)
  ]
]

listed_in_map : (f : ℕ → ℕ) (xs : List ℕ) (x : ℕ) → is_listed xs x ≡ true → is_listed (map f xs) (f x) ≡ true
listed_in_map f [] x listed = absurd (true≢false (sym listed))
listed_in_map f (y ∷ ys) x listed = elim (or_cases (y == x) (is_listed ys x) listed) [
  | inl same ↦ or_left (f y == f x) _ (eq-eqb (f y) (f x) (ap f (eqb-true y x same)))
  | inr later ↦ or_right (f y == f x) _ (listed_in_map f ys x later)
]

-- the round of an elected project is the one that elected it, since no two of them are the same project
pub round_is : (elected : List ElectedView) → AllPairs AreApart elected → (round : ℕ) (w : ElectedView) → round < length elected → get_or elected round w ≡ w → round_of elected w.place ≡ round
round_is elected apart round w below here =
    position_or_len_is (λ (u : ElectedView). u.place == w.place) elected round w (omega arith)
    (λ k before. ne_eqb _ _ (λ same. apart k round w before below (same ∙ ap (λ (u : ElectedView). u.place) (sym here))))
    (λ _. eq-eqb _ _ (ap (λ (u : ElectedView). u.place) here))

module _ (elected : List ElectedView) (rounds ballot due : List ℕ) (numbered : AreRounds (length rounds) elected rounds) (apart : AllPairs AreApart elected)
    (known : All (λ place. place < length rounds) ballot) (rise : IsStrictlyIncreasing due)
    (members : HasSameMembers (filter (λ round. nat_lt round (length elected)) (map (λ place. slice_index rounds place) ballot)) due) where
  -- a due round elected a project that the ballot approves
  from_due : (round : ℕ) → Contains due round → (round < length elected) × (place : ℕ) × (approves ballot place ≡ true) × (round_of elected place ≡ round)
  from_due round among =
      let test : ℕ → Bool = λ r. nat_lt r (length elected) in
      let all = map (λ place. slice_index rounds place) ballot in
      let in_filter : Contains (filter test all) round = (members round).1 among in
      let IsOf : ℕ → Type 0 = λ r. (place : ℕ) × (approves ballot place ≡ true) × (round_of elected place ≡ r) in
      let each : All (λ place. IsOf (slice_index rounds place)) ballot = λ k d below. (
        get_or ballot k d,
        listed_from_contains ballot (get_or ballot k d) (Contains-get_or ballot k d below),
        sym (numbered.numbered (get_or ballot k d) (known k d below)),
      ) in
      let found = All-contains IsOf (filter test all) round (All-filter test IsOf all (All-map IsOf (λ place. slice_index rounds place) ballot each)) in_filter in (
        ltb-true _ _ (All-contains (λ r. test r ≡ true) (filter test all) round (filter_passes test all) in_filter),
        found.0,
        found.1,
        found.2,
      )

  pub into_due : (place : ℕ) → approves ballot place ≡ true → round_of elected place < length elected → Contains due (round_of elected place)
  into_due place approved below =
      let at = contains_from_listed ballot place approved in
      let inside : place < length rounds = rw at.2 at (known at.0 place at.1) in
      let round : slice_index rounds place ≡ round_of elected place = numbered.numbered place inside in
      let among = listed_in_map (λ p. slice_index rounds p) ballot place approved in
      let passes : nat_lt (slice_index rounds place) (length elected) ≡ true = rw round (lt-ltb _ _ below) in
      let kept = listed_in_filter (λ r. nat_lt r (length elected)) (map (λ p. slice_index rounds p) ballot) (slice_index rounds place) among passes in
      subst (Contains due) round ((members (slice_index rounds place)).0 (contains_from_listed _ _ kept))

  pub are_due : AreDue elected ballot due
  are_due = record {
    rise = rise;
    known = λ k d below. (from_due (get_or due k d) (Contains-get_or due k d below)).0;
    each = λ round d below.
        let w = get_or elected round d in
        let here : get_or elected round w ≡ w = get_or_default elected round w d below in
        let number : round_of elected w.place ≡ round = round_is elected apart round w below here in
        elim (cases_Bool (approves ballot w.place)) [
          | inl yes_ ↦ listed_from_contains due round (subst (Contains due) number (into_due w.place yes_ (rw number below))) ∙ sym yes_
          | inr not_ ↦ false_from_ne_true _ (λ listed.
              let from = from_due round (contains_from_listed due round listed) in
              let same : w.place ≡ from.1 =
              ap (λ r. (get_or elected r d).place) (sym from.3) ∙ round_elects elected from.1 d (rw from.3 below) in
              true≢false (sym from.2 ∙ ap (approves ballot) (sym same) ∙ not_)) ∙ sym not_
        ];
  }

  pub has_paid : (share : ℕ) (amounts : List ℕ) → ArePaid elected ballot share due amounts → HasPaid elected ballot share amounts
  has_paid share amounts paid = λ place approved below.
      All-contains (λ round. slice_index amounts round ≡ slice_index (paid_alone ballot share elected) round) due _ paid (into_due place approved below)
