-- What a voter's ballot came to, from what the voter pays alone.
use Rattle.std.proofs.Common.{◌≡◌, ℕ, zero, suc, ◌-◌, ◌<◌, ◌≤◌, Bool, true, false, cond, List, [], ◌∷◌, length, get_or, map, refl, sym, ◌∙◌, ap, inl, inr, arith}
use Rattle.std.specs.Prelude.{All, count_by, filter, nat_lt, replicate, slice_index, slice_index_or, sum_by}
use Rattle.std.specs.List.{range_with_len}
use Rattle.std.proofs.lemmas.Bool.{cases_Bool, cases_lt, cond-false, cond-true, false_from_ne_true, le-ltb, lt-ltb, true≢false}
use Rattle.std.proofs.lemmas.List.{get_or-replicate, get_or_past}
use Rattle.std.proofs.lemmas.List.FromFn.{get_or-map-range_with_len}
use Rattle.std.proofs.lemmas.List.Elements.{All-contains, All-head, All-tail, Contains-get_or, filter_passes}
use Rattle.std.proofs.lemmas.List.Sums.{sum_by-cons}
use Rattle.pb_core.specs.Inner.Approved.{approves}
use Rattle.pb_core.specs.Election.{ElectionView}
use Rattle.pb_price.specs.declared.grain.Grain.{Grain}
use Rattle.pb_price.specs.Supporters.{SupportView, ballot_at, support_of, supporters_at, supporters_of}
use Rattle.pb_rounds.proofs.Charged.{charged_at, payment_at}
use Rattle.pb_rounds.proofs.Listed.{contains_from_listed, is_listed-range, listed_from_contains}
use Rattle.pb_rounds.specs.Outcome.{OutcomeView}
use Rattle.pb_rounds.specs.Payments.{paid_in_turn}
use Rattle.pb_rounds.specs.Inner.Listed.{is_listed}
use Rattle.pb_rounds.specs.Run.{ElectedView, charged, is_elected}
use Rattle.pb_reasons.specs.Reasons.{all_payments, paid_for, round_of, voter_payments}
use Rattle.pb_reasons.specs.Inner.OfOutcome.{outcome_voter}
use Rattle.pb_reasons.specs.Inner.Kept.{AreRounds}
use Rattle.pb_reasons.specs.Inner.Told.{CanBeTold}
use Rattle.pb_reasons.specs.Inner.Turns.{HasPaid, amount_at, due_of, paid_alone}
use Rattle.pb_reasons.specs.declared.payment.Payment.{Payment}
use Rattle.pb_reasons.proofs.Due.{listed_in_filter}
use Rattle.pb_reasons.proofs.Told.{elected_has_round, length-paid_in_turn}

listed_as_passes : (p : ℕ → Bool) (n v : ℕ) → v < n → is_listed (filter p (range_with_len 0 n)) v ≡ p v
listed_as_passes p n v below = elim (cases_Bool (p v)) [
  | inl passes ↦ listed_in_filter p (range_with_len 0 n) v (is_listed-range 0 n v (omega arith) (omega arith)) passes ∙ sym passes
  | inr fails ↦ false_from_ne_true _ (λ listed.
      true≢false (sym (All-contains (λ u. p u ≡ true) _ v (filter_passes p (range_with_len 0 n)) (contains_from_listed _ v listed)) ∙ fails)) ∙ sym fails
]

-- a voter supports what the ballot approves
pub supports : (e : ElectionView) (voter place : ℕ) → voter < length e.voters → place < length e.projects
    → is_listed (supporters_at (support_of e) place) voter ≡ approves (ballot_at e voter) place
unfolding supporters_of
supports e voter place is_voter known =
    ap (λ (l : List ℕ). is_listed l voter) (get_or-map-range_with_len (supporters_of e) 0 (length e.projects) place place [] known (omega arith))
    ∙ listed_as_passes (λ u. approves (ballot_at e u) place) (length e.voters) voter is_voter

-- the voter's column of all payments is what the voter pays alone
column : (s : SupportView) (projects voter : ℕ) (ballot : List ℕ) → ((place : ℕ) → place < projects → is_listed (supporters_at s place) voter ≡ approves ballot place)
    → (elected : List ElectedView) → All (λ w. w.place < projects) elected → (rests : List ℕ) (round : ℕ) → round < length elected
    → slice_index (get_or (paid_in_turn s rests elected) round []) voter ≡ slice_index (paid_alone ballot (slice_index rests voter) elected) round
unfolding paid_in_turn paid_alone
column s projects voter ballot same [] known rests round below = absurd (omega arith)
column s projects voter ballot same (w ∷ elected) known rests zero below =
    payment_at (supporters_at s w.place) w.price rests voter
    ∙ ap (λ b. due_of b (slice_index rests voter) w.price) (same w.place (All-head (λ v. v.place < projects) w elected known))
column s projects voter ballot same (w ∷ elected) known rests (suc round) below =
    let left : slice_index (charged (supporters_at s w.place) w.price rests) voter ≡ slice_index rests voter - due_of (approves ballot w.place) (slice_index rests voter) w.price =
    charged_at (supporters_at s w.place) w.price rests voter
    ∙ ap (λ b. slice_index rests voter - due_of b (slice_index rests voter) w.price) (same w.place (All-head (λ v. v.place < projects) w elected known)) in
    column s projects voter ballot same elected (All-tail (λ v. v.place < projects) w elected known) (charged (supporters_at s w.place) w.price rests) round (omega arith)
    ∙ ap (λ rest. slice_index (paid_alone ballot rest elected) round) left

map_agree : (f g : ℕ → Payment) (xs : List ℕ) → All (λ x. f x ≡ g x) xs → map f xs ≡ map g xs
map_agree f g [] same = refl
map_agree f g (x ∷ xs) same = rw (All-head (λ y. f y ≡ g y) x xs same, map_agree f g xs (All-tail (λ y. f y ≡ g y) x xs same)) refl

-- tests that agree on each of them count as many
pub count_agree : (p q : ℕ → Bool) (xs : List ℕ) → All (λ x. p x ≡ q x) xs → count_by p xs ≡ count_by q xs
count_agree p q [] same = refl
count_agree p q (x ∷ xs) same =
    sum_by-cons (λ y. cond (p y) 1 0) x xs
    ∙ rw (All-head (λ y. p y ≡ q y) x xs same, count_agree p q xs (All-tail (λ y. p y ≡ q y) x xs same)) (sym (sum_by-cons (λ y. cond (q y) 1 0) x xs))

module _ (e : ElectionView) (o : OutcomeView) {g : Grain} (told : CanBeTold g e o) (rounds amounts ballot : List ℕ) (numbered : AreRounds (length e.projects) o.elected rounds)
    (one_each : length amounts ≡ length o.elected) (voter : ℕ) (is_voter : voter < length e.voters) (own : ballot ≡ ballot_at e voter)
    (known : All (λ place. place < length e.projects) ballot) (paid : HasPaid o.elected ballot o.share amounts) where
  amount_is : (place : ℕ) → approves ballot place ≡ true → place < length e.projects → amount_at rounds amounts place ≡ paid_for e o place voter
  amount_is place approved inside =
      let s = support_of e in
      let shares = replicate (length e.voters) o.share in
      let round : slice_index rounds place ≡ round_of o.elected place = numbered.numbered place inside in
      elim (cases_lt (round_of o.elected place) (length o.elected)) [
        | inl less ↦
            let test : nat_lt (slice_index rounds place) (length amounts) ≡ true = rw (round, one_each) (lt-ltb _ _ less) in
            let alone = column s (length e.projects) voter ballot (λ p k. rw own (supports e voter p is_voter k)) o.elected told.known shares (round_of o.elected place) less in
            let share : slice_index shares voter ≡ o.share = get_or-replicate (length e.voters) voter o.share 0 is_voter in
            cond-true _ _ _ test ∙ ap (slice_index amounts) round ∙ paid place approved less
            ∙ sym (alone ∙ ap (λ rest. slice_index (paid_alone ballot rest o.elected) (round_of o.elected place)) share)
        | inr more ↦
            let test : nat_lt (slice_index rounds place) (length amounts) ≡ false = rw (round, one_each) (le-ltb _ _ more) in
            let past : slice_index_or (all_payments e o) (round_of o.elected place) [] ≡ [] = get_or_past (all_payments e o) (round_of o.elected place) [] (rw (length-paid_in_turn s shares o.elected) more) in
            cond-false _ _ _ test ∙ sym (ap (λ (l : List ℕ). slice_index l voter) past ∙ get_or_past [] voter 0 (omega arith))
      ]

  pub payments_told : (payments : List Payment)
      → payments ≡ filter (λ (p : Payment). nat_lt 0 p.amount) (map (λ place. record { place = place; amount = amount_at rounds amounts place }) ballot)
      → payments ≡ voter_payments e o voter
  payments_told payments is =
      is ∙ ap (filter (λ (p : Payment). nat_lt 0 p.amount))
      (map_agree (λ place. record { place = place; amount = amount_at rounds amounts place }) (λ place. record { place = place; amount = paid_for e o place voter }) ballot
      (λ k d below.
      let place = get_or ballot k d in
      let same = amount_is place (listed_from_contains ballot place (Contains-get_or ballot k d below)) (known k d below) in
      ap (λ amount. record { place = place; amount = amount }) same))
      ∙ ap (λ (l : List ℕ). filter (λ (p : Payment). nat_lt 0 p.amount) (map (λ place. record { place = place; amount = paid_for e o place voter }) l)) own

  pub elected_told : count_by (λ place. nat_lt (slice_index rounds place) (length amounts)) ballot ≡ count_by (is_elected o.elected) ballot
  elected_told = count_agree (λ place. nat_lt (slice_index rounds place) (length amounts)) (is_elected o.elected) ballot (λ k d below.
      rw (numbered.numbered (get_or ballot k d) (known k d below), one_each) (sym (elected_has_round o.elected (get_or ballot k d))))

  pub reason_told : (elected left paid : ℕ) → elected ≡ count_by (λ place. nat_lt (slice_index rounds place) (length amounts)) ballot
      → left ≡ slice_index o.rests voter → paid ≡ o.share - left
      → record { votes = length ballot; elected = elected; paid = paid; left = left } ≡ outcome_voter e o voter
  reason_told elected left paid elected_is left_is paid_is =
      let endowed = told.price_system.endowed voter is_voter in
      let all : paid ≡ sum_by (λ row. slice_index row voter) (all_payments e o) = omega (arith, paid_is, left_is, endowed) in
      rw (elected_is, elected_told, all, left_is, own) refl

-- what is left is no more than the share
pub left_within : (e : ElectionView) (o : OutcomeView) {g : Grain} → CanBeTold g e o → (voter : ℕ) → voter < length e.voters → slice_index o.rests voter ≤ o.share
left_within e o told voter is_voter = let endowed = told.price_system.endowed voter is_voter in omega (arith, endowed)
