-- The payments of a voter in the order of the file.
use Rattle.std.proofs.Common.{◌≡◌, ◌∙◌, ◌+◌, ◌++◌, ◌<◌, ◌≤◌, ℕ, suc, zero, Bool, List, [], ◌∷◌, ap, append-nil, arith, codes, cond, decimal, get_or, inl, inr, length, map, refl, subst, sym}
use Rattle.std.specs.Prelude.{◌==◌, All, filter, flat_map, nat_lt, slice_index}
use Rattle.std.specs.List.{join_with_byte, range_with_len}
use Rattle.std.specs.List.Sorted.{IsNonDecreasingBy, IsStableByKey, ties}
use Rattle.std.specs.Ordering.{is_lt, nat_cmp}
use Rattle.std.proofs.lemmas.Bool.{cases_Bool, cases_eq, cases_lt, eq-eqb, eqb-true, le-ltb, lt-ltb, ne_eqb}
use Rattle.std.proofs.lemmas.Grind.{flat_map-append}
use Rattle.std.proofs.lemmas.List.Elements.{All-filter, filter_agree}
use Rattle.std.proofs.lemmas.List.FromFn.{map-range_with_len_more}
use Rattle.std.proofs.lemmas.List.{get_or-map, length-map, map-append, map-id}
use Rattle.pb_core.specs.Election.{ElectionView, IsElection}
use Rattle.pb_core.specs.Order.{IsOrder}
use Rattle.pb_core.proofs.Orders.{order_known}
use Rattle.pb_price.proofs.BuiltLists.{ballot_known}
use Rattle.pb_price.specs.Supporters.{ballot_at}
use Rattle.pb_reasons.specs.Reasons.{paid_for, voter_payments}
use Rattle.pb_reasons.specs.declared.payment.Payment.{Payment}
use Rattle.pb_rounds.specs.Outcome.{OutcomeView}
use Rattle.pb_core.proofs.Members.{range_below}
use Rattle.pb_reasons.specs.CountedElection.{CountedElectionView}
use Rattle.pb_core.specs.Order.{position_in}
use Rattle.pb_reasons.proofs.Sorted.{place_back, position_known}
use Rattle.pb_commands.specs.Inner.Tables.{in_file_place, payments_in_file, payments_text}
use Rattle.pb_commands.specs.Report.{in_units}

-- a rising list is what stands in it at each key, one after another
module _ {X : Type 0} (key : X → ℕ) where
  abbrev at : ℕ → List X → List X
  at k xs = filter (λ x. key x == k) xs

  abbrev below : ℕ → List X → List X
  below n xs = filter (λ x. nat_lt (key x) n) xs

  later : (x : X) (xs : List X) → IsNonDecreasingBy key (x ∷ xs) → IsNonDecreasingBy key xs
  later x xs rises i j d le within = rises (suc i) (suc j) d (omega (arith, le)) (omega (arith, within))

  none_below : (n : ℕ) (xs : List X) → All (λ x. n ≤ key x) xs → below n xs ≡ []
  none_below n [] all = refl
  none_below n (x ∷ xs) all =
      rw (le-ltb (key x) n (all 0 x (omega arith))) (none_below n xs (λ k d within. all (suc k) d (omega (arith, within))))

  one_key_more : (n : ℕ) (xs : List X) → IsNonDecreasingBy key xs → below (n + 1) xs ≡ below n xs ++ at n xs
  one_key_more n [] rises = refl
  one_key_more n (x ∷ xs) rises =
      let rest = one_key_more n xs (later x xs rises) in
      elim (cases_lt (key x) n) [
        | inl less ↦
            rw (lt-ltb (key x) (n + 1) (omega (arith, less)), lt-ltb (key x) n less, ne_eqb (key x) n (λ same. omega (arith, same, less)))
            (ap (λ ys. x ∷ ys) rest)
        | inr from ↦ elim (cases_eq (key x) n) [
          | inl same ↦
              let none : below n xs ≡ [] = none_below n xs (λ k d within. omega (arith, from, rises 0 (suc k) d (omega arith) (omega (arith, within)))) in
              rw (lt-ltb (key x) (n + 1) (omega (arith, same)), le-ltb (key x) n from, eq-eqb (key x) n same, none)
              (ap (λ ys. x ∷ ys) (rest ∙ ap (λ ys. ys ++ at n xs) none))
          | inr other ↦
              rw (le-ltb (key x) (n + 1) (omega (arith, from, other)), le-ltb (key x) n from, ne_eqb (key x) n other) rest
        ]
      ]

  gathered_below : (xs : List X) → IsNonDecreasingBy key xs → (n : ℕ) → flat_map (λ k. at k xs) (range_with_len 0 n) ≡ below n xs
  gathered_below xs rises zero = sym (none_below 0 xs (λ k d within. omega arith))
  gathered_below xs rises (suc n) =
      let more : range_with_len 0 (n + 1) ≡ range_with_len 0 n ++ n ∷ [] =
      sym (map-id (range_with_len 0 (n + 1))) ∙ map-range_with_len_more (λ k. k) 0 n n (omega arith) ∙ ap (λ ks. ks ++ n ∷ []) (map-id (range_with_len 0 n)) in
      let next : flat_map (λ k. at k xs) (range_with_len 0 (n + 1)) ≡ below (n + 1) xs =
      ap (flat_map (λ k. at k xs)) more ∙ flat_map-append (λ k. at k xs) (range_with_len 0 n) (n ∷ [])
      ∙ ap (λ ys. ys ++ flat_map (λ k. at k xs) (n ∷ [])) (gathered_below xs rises n)
      ∙ ap (λ ys. below n xs ++ ys) (append-nil (at n xs)) ∙ sym (one_key_more n xs rises) in
      subst (λ m. flat_map (λ k. at k xs) (range_with_len 0 m) ≡ below m xs) (omega arith) next

  all_below : (n : ℕ) (xs : List X) → All (λ x. key x < n) xs → below n xs ≡ xs
  all_below n [] all = refl
  all_below n (x ∷ xs) all =
      rw (lt-ltb (key x) n (all 0 x (omega arith))) (ap (λ ys. x ∷ ys) (all_below n xs (λ k d within. all (suc k) d (omega (arith, within)))))

  pub gathered : (xs : List X) → IsNonDecreasingBy key xs → (n : ℕ) → All (λ x. key x < n) xs → flat_map (λ k. at k xs) (range_with_len 0 n) ≡ xs
  gathered xs rises n all = gathered_below xs rises n ∙ all_below n xs all

  -- elements that tie by their keys have the same
  tie_is : (x y : X) → ties (λ a b. is_lt (nat_cmp (key a) (key b))) x y ≡ (key y == key x)
  tie_is x y = elim (cases_lt (key x) (key y)) [
    | inl less ↦ rw (lt-ltb (key x) (key y) less, ne_eqb (key y) (key x) (λ same. omega (arith, same, less))) refl
    | inr from ↦ elim (cases_lt (key y) (key x)) [
      | inl less ↦ rw (le-ltb (key x) (key y) from, lt-ltb (key y) (key x) less, ne_eqb (key y) (key x) (λ same. omega (arith, same, less)), ne_eqb (key x) (key y) (λ same. omega (arith, same, less))) refl
      | inr same ↦
          let one : key y ≡ key x = omega (arith, from, same) in
          rw (le-ltb (key x) (key y) from, le-ltb (key y) (key x) same, eq-eqb (key y) (key x) one, eq-eqb (key x) (key y) (sym one)) refl
    ]
  ]

  -- a stable sort keeps what stands at each key
  pub kept_at : (xs ys : List X) → IsStableByKey key nat_cmp xs ys → (x : X) → at (key x) ys ≡ at (key x) xs
  kept_at xs ys stable x =
      let tied : X → Bool = ties (λ a b. is_lt (nat_cmp (key a) (key b))) x in
      sym (filter_agree tied (λ y. key y == key x) (tie_is x) ys) ∙ stable x ∙ filter_agree tied (λ y. key y == key x) (tie_is x) xs

flat_map_agree : {X Y : Type 0} (f g : X → List Y) → ((x : X) → f x ≡ g x) → (xs : List X) → flat_map f xs ≡ flat_map g xs
flat_map_agree f g agree [] = refl
flat_map_agree f g agree (x ∷ xs) = rw (agree x) (ap (λ ys. g x ++ ys) (flat_map_agree f g agree xs))

-- payments by the places of the file
module _ (order : List ℕ) where
  abbrev here : ℕ → List Payment → List Payment
  here place = filter (λ (p : Payment). p.place == place)

  abbrev renamed : ℕ → Payment → Payment
  renamed place p = record p { place = place }

  those_here : (place : ℕ) (payments : List Payment)
      → map (renamed place) (filter (λ p. slice_index order p.place == place) payments) ≡ here place (map (in_file_place order) payments)
  those_here place [] = refl
  those_here place (p ∷ payments) = elim (cases_Bool (slice_index order p.place == place)) [
    | inl passes ↦
        rw passes (ap (λ (q : Payment). q ∷ map (renamed place) (filter (λ p. slice_index order p.place == place) payments)) (ap (λ k. renamed k p) (sym (eqb-true (slice_index order p.place) place passes)))
        ∙ ap (λ (qs : List Payment). in_file_place order p ∷ qs) (those_here place payments))
    | inr fails ↦ rw fails (those_here place payments)
  ]

  pub renamed_known : IsOrder order → (payments : List Payment) → All (λ (p : Payment). p.place < length order) payments
      → All (λ (p : Payment). p.place < length order) (map (in_file_place order) payments)
  renamed_known is payments known k d below =
      let within : k < length payments = omega (arith, below, length-map payments (in_file_place order)) in
      subst (λ (p : Payment). p.place < length order) (sym (get_or-map (in_file_place order) payments k d d within)) (order_known order is (get_or payments k d).place 0 (known k d within))

  pub sorted_in_file : (old new : List Payment) → IsNonDecreasingBy (λ (p : Payment). p.place) new
      → IsStableByKey (λ (p : Payment). p.place) nat_cmp (map (in_file_place order) old) new
      → All (λ (p : Payment). p.place < length order) new → new ≡ payments_in_file order old
  sorted_in_file old new rises stable known =
      let place : Payment → ℕ = λ p. p.place in
      sym (gathered place new rises (length order) known)
      ∙ flat_map_agree (λ k. here k new) (λ k. map (renamed k) (filter (λ p. slice_index order p.place == k) old))
      (λ k. kept_at place (map (in_file_place order) old) new stable (record { place = k; amount = 0 }) ∙ sym (those_here k old)) (range_with_len 0 (length order))

  abbrev text_in_file : CountedElectionView → Payment → List ℕ
  text_in_file x p = decimal (slice_index order p.place) ++ (codes ":" ++ in_units x p.amount 1)

  abbrev text_of : CountedElectionView → Payment → List ℕ
  text_of x p = decimal p.place ++ (codes ":" ++ in_units x p.amount 1)

  abbrev those_of : List Payment → ℕ → List Payment
  those_of payments place = filter (λ p. slice_index order p.place == place) payments

  texts_here : (x : CountedElectionView) (place : ℕ) (payments : List Payment)
      → map (text_of x) (map (renamed place) (those_of payments place)) ≡ map (text_in_file x) (those_of payments place)
  texts_here x place [] = refl
  texts_here x place (p ∷ payments) = elim (cases_Bool (slice_index order p.place == place)) [
    | inl passes ↦
        rw passes (ap (λ (t : List ℕ). t ∷ map (text_of x) (map (renamed place) (those_of payments place)))
        (ap (λ k. decimal k ++ (codes ":" ++ in_units x p.amount 1)) (sym (eqb-true (slice_index order p.place) place passes)))
        ∙ ap (λ (ts : List (List ℕ)). text_in_file x p ∷ ts) (texts_here x place payments))
    | inr fails ↦ rw fails (texts_here x place payments)
  ]

  module _ (is : IsOrder order) where
    -- a payment is for the project at a place of the file just where it is for that at its position
    one_test : (place : ℕ) (p : Payment) → place < length order → p.place < length order → (slice_index order p.place == place) ≡ (p.place == position_in order place)
    one_test place p below known = elim (cases_eq (slice_index order p.place) place) [
      | inl same ↦
          let at : p.place ≡ position_in order place = sym (place_back order is p.place known) ∙ ap (position_in order) same in
          eq-eqb (slice_index order p.place) place same ∙ sym (eq-eqb p.place (position_in order place) at)
      | inr other ↦
          ne_eqb (slice_index order p.place) place other
          ∙ sym (ne_eqb p.place (position_in order place) (λ same. other (ap (slice_index order) same ∙ (position_known order is place below).1)))
    ]

    at_position : (place : ℕ) (payments : List Payment) → place < length order → All (λ (p : Payment). p.place < length order) payments
        → those_of payments place ≡ filter (λ p. p.place == position_in order place) payments
    at_position place [] below known = refl
    at_position place (p ∷ payments) below known =
        let test = one_test place p below (known 0 p (omega arith)) in
        let rest = at_position place payments below (λ k d within. known (suc k) d (omega (arith, within))) in
        λ i. cond (test i) (p ∷ rest i) (rest i)

    texts_at : (x : CountedElectionView) (payments : List Payment) (places : List ℕ) → All (λ place. place < length order) places → All (λ (p : Payment). p.place < length order) payments
        → map (text_of x) (flat_map (λ place. map (renamed place) (those_of payments place)) places)
        ≡ map (text_in_file x) (flat_map (λ place. filter (λ p. p.place == place) payments) (map (position_in order) places))
    texts_at x payments [] below known = refl
    texts_at x payments (place ∷ places) below known =
        let here_ = map (renamed place) (those_of payments place) in
        let more = flat_map (λ place. map (renamed place) (those_of payments place)) places in
        let there_ = filter (λ p. p.place == position_in order place) payments in
        let others = flat_map (λ place. filter (λ p. p.place == place) payments) (map (position_in order) places) in
        map-append (text_of x) here_ more
        ∙ ap (λ (ts : List (List ℕ)). ts ++ map (text_of x) more) (texts_here x place payments ∙ ap (map (text_in_file x)) (at_position place payments (below 0 place (omega arith)) known))
        ∙ ap (λ (ts : List (List ℕ)). map (text_in_file x) there_ ++ ts) (texts_at x payments places (λ k d within. below (suc k) d (omega (arith, within))) known)
        ∙ sym (map-append (text_in_file x) there_ others)

    -- the text of payments by the places of the file
    pub texts_in_file : (x : CountedElectionView) (payments : List Payment) → All (λ (p : Payment). p.place < length order) payments
        → payments_text x (payments_in_file order payments)
        ≡ join_with_byte 44 (map (text_in_file x) (flat_map (λ place. filter (λ p. p.place == place) payments) (map (position_in order) (range_with_len 0 (length order)))))
    texts_in_file x payments known = ap (join_with_byte 44) (texts_at x payments (range_with_len 0 (length order)) (range_below (length order)) known)

-- what a voter paid is for projects of the election
pub payments_known : (e : ElectionView) (o : OutcomeView) (voter : ℕ) → IsElection e → voter < length e.voters
    → All (λ (p : Payment). p.place < length e.projects) (voter_payments e o voter)
payments_known e o voter is below =
    let ballot = ballot_at e voter in
    let paid : ℕ → Payment = λ place. record { place = place; amount = paid_for e o place voter } in
    All-filter (λ (p : Payment). nat_lt 0 p.amount) (λ (p : Payment). p.place < length e.projects) (map paid ballot)
    (λ k d within. let known : k < length ballot = omega (arith, within, length-map ballot paid) in
    subst (λ (p : Payment). p.place < length e.projects) (sym (get_or-map paid ballot k 0 d known)) (ballot_known e voter ballot is below refl k 0 known))
