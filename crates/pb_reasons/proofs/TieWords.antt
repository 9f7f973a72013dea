-- Which ties are told, and what a voter paid, in the words of their law.
use Rattle.std.proofs.Common.{◌≡◌, ◌≢◌, ℕ, zero, suc, ◌+◌, ◌*◌, ◌<◌, ◌≤◌, Bool, true, false, cond, not, ◌&&◌, List, [], ◌∷◌, ◌++◌, length, get_or, map, take, replicate, Contains, Option, Some, None, refl, sym, subst, ◌∙◌, ap, arith}
use Rattle.std.specs.Prelude.{All, ◌==◌, filter, nat_lt, slice_get, slice_index, slice_index_or}
use Rattle.std.specs.List.{range_with_len}
use Rattle.std.specs.List.Sorted.{IsStrictlyIncreasing}
use Rattle.std.specs.Option.{option_map_or}
use Rattle.std.proofs.lemmas.Bool.{and_from, and_parts, eq-eqb, eqb-true, false≢true, lt-ltb, ltb-true, ne_eqb, not-true}
use Rattle.std.proofs.lemmas.List.{get_or-map, get_or_default, get_or_past, length-map}
use Rattle.std.proofs.lemmas.List.Elements.{All-contains, All-head, All-tail, filter_passes}
use Rattle.std.proofs.lemmas.List.Kept.{IsStrictlyIncreasing-filter}
use Rattle.pb_core.proofs.Members.{filter_rises, from_filter, in_filter}
use Rattle.pb_core.specs.Election.{ElectionView, IsElection, VoterView}
use Rattle.pb_price.specs.Price.{PriceView, price_at}
use Rattle.pb_price.specs.Supporters.{SupportView, ballot_at, cost_at, support_of, supporters_at}
use Rattle.pb_rounds.proofs.Charged.{payment_at}
use Rattle.pb_rounds.proofs.Explained.{paid_in_turn-cons, paid_in_turn-nil}
use Rattle.pb_rounds.specs.Cheapest.{rests_after}
use Rattle.pb_rounds.specs.MostVotes.{is_taken, votes_at}
use Rattle.pb_rounds.specs.Outcome.{OutcomeView}
use Rattle.pb_rounds.specs.Payments.{paid_in_turn}
use Rattle.pb_rounds.specs.Run.{ElectedView, charged, is_elected, payment_of, weight_of}
use Rattle.pb_rounds.specs.declared.measure.Measure.{Measure}
use Rattle.pb_reasons.specs.Counted.{CountedView, winners_of}
use Rattle.pb_reasons.specs.Reasons.{paid_for, round_of, voter_payments}
use Rattle.pb_reasons.specs.Ties.{is_tied, ties_in, ties_with_added}
use Rattle.pb_reasons.specs.declared.payment.Payment.{Payment}
use Rattle.pb_reasons.specs.declared.tie.Tie.{Tie}

-- what a list has that is made of another
pub from_map : {X Y : Type 0} (f : X → Y) (d : X) (xs : List X) (y : Y) → Contains (map f xs) y → (x : X) × Contains xs x × (f x ≡ y)
from_map f d xs y (k, below, here) =
    let within : k < length xs = omega (arith, below, length-map xs f) in
    let x = get_or xs k d in
    (x, (k, within, get_or_default xs k x d within), sym (get_or-map f xs k d y within) ∙ here)

pub to_map : {X Y : Type 0} (f : X → Y) (xs : List X) (x : X) → Contains xs x → Contains (map f xs) (f x)
to_map f xs x (k, below, here) = (k, omega (arith, below, length-map xs f), get_or-map f xs k x (f x) below ∙ ap f here)

others_are : (f : ℕ → Tie) → ((place : ℕ) → (f place).other ≡ place) → (places : List ℕ) → map (λ (t : Tie). t.other) (map f places) ≡ places
others_are f same [] = refl
others_are f same (place ∷ places) =
    ap (λ (p : ℕ). p ∷ map (λ (t : Tie). t.other) (map f places)) (same place) ∙ ap (λ (ps : List ℕ). place ∷ ps) (others_are f same places)

-- a project is tied where it is not elected, and has a price that is as good
module _ (m : Measure) (s : SupportView) (elected : List ElectedView) (rests : List ℕ) (w : ElectedView) (place : ℕ) where
  abbrev IsAsGood : PriceView → Type 0
  IsAsGood price = price.amount * (w.exact.payers * weight_of m s w.place) ≡ w.exact.amount * (price.payers * weight_of m s place)

  abbrev as_good : Option PriceView → Bool
  as_good answer = option_map_or (λ price. price.amount * (w.exact.payers * weight_of m s w.place) == w.exact.amount * (price.payers * weight_of m s place)) answer false

  good_price : (answer : Option PriceView) → as_good answer ≡ true → (price : PriceView) × (answer ≡ Some price) × IsAsGood price
  good_price None is = absurd (false≢true is)
  good_price (Some price) is = (price, refl, eqb-true (price.amount * (w.exact.payers * weight_of m s w.place)) (w.exact.amount * (price.payers * weight_of m s place)) is)

  pub tied_has_price : is_tied m s elected rests w place ≡ true
      → (is_elected elected place ≡ false) × ((price : PriceView) × (price_at s rests place ≡ Some price) × IsAsGood price)
  tied_has_price is =
      let parts = and_parts (not (is_elected elected place)) (as_good (price_at s rests place)) is in
      (not-true (is_elected elected place) parts.0, good_price (price_at s rests place) parts.1)

  pub price_is_tied : (is_elected elected place ≡ false) × ((price : PriceView) × (price_at s rests place ≡ Some price) × IsAsGood price)
      → is_tied m s elected rests w place ≡ true
  price_is_tied (left, (price, priced, same)) =
      and_from _ _ (ap not left) (ap as_good priced ∙ eq-eqb (price.amount * (w.exact.payers * weight_of m s w.place)) (w.exact.amount * (price.payers * weight_of m s place)) same)

-- the ties of a round
module _ (m : Measure) (s : SupportView) (share : ℕ) (elected : List ElectedView) (round : ℕ) where
  abbrev test : ElectedView → ℕ → Bool
  test w place = is_tied m s (take (round + 1) elected) (rests_after s (replicate s.voters share) (take round elected)) w place

  abbrev tie_with : ElectedView → ℕ → Tie
  tie_with w place = record { round = Some (round + 1); winner = w.place; other = place }

  abbrev tied_with : ElectedView → List ℕ
  tied_with w = filter (test w) (range_with_len 0 (length s.costs))

  abbrev those : Option ElectedView → List Tie
  those found = option_map_or (λ w. map (tie_with w) (tied_with w)) found []

  abbrev IsTieIn : Tie → Type 0
  IsTieIn t = (w : ElectedView) × (slice_get elected round ≡ Some w) × ((place : ℕ) × (place < length s.costs) × (test w place ≡ true) × (t ≡ tie_with w place))

  tie_among : (found : Option ElectedView) → slice_get elected round ≡ found → (t : Tie) → Contains (those found) t → IsTieIn t
  tie_among None at t (k, below, here) = absurd (omega (arith, below))
  tie_among (Some w) at t among =
      let (place, kept, is) = from_map (tie_with w) 0 (tied_with w) t among in
      let (known, tied) = from_filter (test w) (length s.costs) place kept in
      (w, at, (place, known, tied, sym is))

  pub tie_of_round : (t : Tie) → Contains (ties_in m s share elected round) t → IsTieIn t
  tie_of_round t among = tie_among (slice_get elected round) refl t among

  pub round_has_tie : (t : Tie) → IsTieIn t → Contains (ties_in m s share elected round) t
  round_has_tie t (w, at, (place, known, tied, is)) =
      subst (λ (found : Option ElectedView). Contains (those found) t) (sym at)
      (subst (λ (u : Tie). Contains (map (tie_with w) (tied_with w)) u) (sym is)
      (to_map (tie_with w) (tied_with w) place (in_filter (test w) (length s.costs) place known tied)))

  none_rises : IsStrictlyIncreasing (map (λ (t : Tie). t.other) (those None))
  none_rises k below = absurd (omega (arith, below))

  those_rise : (found : Option ElectedView) → IsStrictlyIncreasing (map (λ (t : Tie). t.other) (those found))
  those_rise None = none_rises
  those_rise (Some w) = subst IsStrictlyIncreasing (sym (others_are (tie_with w) (λ place. refl) (tied_with w))) (filter_rises (test w) (length s.costs))

  pub others_of_round_rise : IsStrictlyIncreasing (map (λ (t : Tie). t.other) (ties_in m s share elected round))
  others_of_round_rise = those_rise (slice_get elected round)

-- the ties of an added project
module _ (s : SupportView) (c : CountedView) (winner : ℕ) where
  abbrev is_alike : ℕ → Bool
  is_alike place = not (is_taken (winners_of c) place) && ((votes_at s place == votes_at s winner) && (cost_at s place == cost_at s winner))

  abbrev tie_of : ℕ → Tie
  tie_of place = record { round = None; winner = winner; other = place }

  abbrev alike : List ℕ
  alike = filter is_alike (range_with_len 0 (length s.costs))

  abbrev IsTieWith : Tie → Type 0
  IsTieWith t = (place : ℕ) × (place < length s.costs) × (is_taken (winners_of c) place ≡ false)
      × (votes_at s place ≡ votes_at s winner) × (cost_at s place ≡ cost_at s winner) × (t ≡ tie_of place)

  pub tie_of_added : (t : Tie) → Contains (ties_with_added s c winner) t → IsTieWith t
  tie_of_added t among =
      let (place, kept, is) = from_map tie_of 0 alike t among in
      let (known, passes) = from_filter is_alike (length s.costs) place kept in
      let first = and_parts (not (is_taken (winners_of c) place)) _ passes in
      let both = and_parts (votes_at s place == votes_at s winner) (cost_at s place == cost_at s winner) first.1 in (
        place,
        known,
        not-true (is_taken (winners_of c) place) first.0,
        eqb-true (votes_at s place) (votes_at s winner) both.0,
        eqb-true (cost_at s place) (cost_at s winner) both.1,
        sym is,
      )

  pub added_has_tie : (t : Tie) → IsTieWith t → Contains (ties_with_added s c winner) t
  added_has_tie t (place, known, lost, votes, costs, is) =
      subst (λ (u : Tie). Contains (map tie_of alike) u) (sym is)
      (to_map tie_of alike place (in_filter is_alike (length s.costs) place known
      (and_from _ _ (ap not lost) (and_from _ _ (eq-eqb (votes_at s place) (votes_at s winner) votes) (eq-eqb (cost_at s place) (cost_at s winner) costs)))))

  pub others_of_added_rise : IsStrictlyIncreasing (map (λ (t : Tie). t.other) (ties_with_added s c winner))
  others_of_added_rise = subst IsStrictlyIncreasing (sym (others_are tie_of (λ place. refl) alike)) (filter_rises is_alike (length s.costs))

-- what a filter keeps was there, and passes
kept_was_there : {X : Type 0} (y x : X) (kept ys : List X) (b : Bool) → (Contains kept x → Contains ys x) → Contains (cond b (y ∷ kept) kept) x → Contains (y ∷ ys) x
kept_was_there y x kept ys true later (zero, below, here) = (zero, omega arith, here)
kept_was_there y x kept ys true later (suc k, below, here) =
    let (j, within, there) = later (k, omega (arith, below), here) in (suc j, omega (arith, within), there)
kept_was_there y x kept ys false later found = let (j, within, there) = later found in (suc j, omega (arith, within), there)

pub was_there : {X : Type 0} (p : X → Bool) (xs : List X) (x : X) → Contains (filter p xs) x → Contains xs x
was_there p [] x found = found
was_there p (y ∷ ys) x found = kept_was_there y x (filter p ys) ys (p y) (was_there p ys x) found

kept_by : {X : Type 0} (y x : X) (kept : List X) (b : Bool) → Contains kept x → Contains (cond b (y ∷ kept) kept) x
kept_by y x kept true (k, below, here) = (suc k, omega (arith, below), here)
kept_by y x kept false found = found

pub is_kept : {X : Type 0} (p : X → Bool) (xs : List X) (x : X) → Contains xs x → p x ≡ true → Contains (filter p xs) x
is_kept p [] x (k, below, here) passes = absurd (omega (arith, below))
is_kept p (y ∷ ys) x (zero, below, here) passes = rw (ap p here ∙ passes) (zero, omega arith, here)
is_kept p (y ∷ ys) x (suc k, below, here) passes = kept_by y x (filter p ys) (p y) (is_kept p ys x (k, omega (arith, below), here) passes)

-- what a voter paid
module _ (e : ElectionView) (o : OutcomeView) (voter : ℕ) where
  abbrev payment : ℕ → Payment
  payment place = record { place = place; amount = paid_for e o place voter }

  abbrev is_paid : Payment → Bool
  is_paid p = nat_lt 0 p.amount

  abbrev IsPayment : Payment → Type 0
  IsPayment p = Contains (ballot_at e voter) p.place × (p.amount ≡ paid_for e o p.place voter) × (0 < p.amount)

  pub payment_is_made : (p : Payment) → Contains (voter_payments e o voter) p → IsPayment p
  payment_is_made p among =
      let all = map payment (ballot_at e voter) in
      let (place, approved, is) = from_map payment 0 (ballot_at e voter) p (was_there is_paid all p among) in
      let same : place ≡ p.place = ap (λ (q : Payment). q.place) is in (
        subst (λ (x : ℕ). Contains (ballot_at e voter) x) same approved,
        sym (ap (λ (q : Payment). q.amount) is) ∙ ap (λ x. paid_for e o x voter) same,
        ltb-true 0 p.amount (All-contains (λ (q : Payment). is_paid q ≡ true) (voter_payments e o voter) p (filter_passes is_paid all) among),
      )

  pub made_is_payment : (p : Payment) → IsPayment p → Contains (voter_payments e o voter) p
  made_is_payment p (approved, amount, some) =
      let is : payment p.place ≡ p = λ i. record { place = p.place; amount = sym amount i } in
      is_kept is_paid (map payment (ballot_at e voter)) p
      (subst (λ (q : Payment). Contains (map payment (ballot_at e voter)) q) is (to_map payment (ballot_at e voter) p.place approved)) (lt-ltb 0 p.amount some)

  places_step : (b : Bool) (place : ℕ) (kept : List Payment) (rest : List ℕ) → map (λ (p : Payment). p.place) kept ≡ rest
      → map (λ (p : Payment). p.place) (cond b (payment place ∷ kept) kept) ≡ cond b (place ∷ rest) rest
  places_step true place kept rest same = ap (λ xs. place ∷ xs) same
  places_step false place kept rest same = same

  places_kept : (places : List ℕ) → map (λ (p : Payment). p.place) (filter is_paid (map payment places)) ≡ filter (λ place. is_paid (payment place)) places
  places_kept [] = refl
  places_kept (place ∷ places) = places_step (is_paid (payment place)) place (filter is_paid (map payment places)) _ (places_kept places)

  pub places_paid_rise : IsElection e → voter < length e.voters → IsStrictlyIncreasing (map (λ (p : Payment). p.place) (voter_payments e o voter))
  places_paid_rise is known =
      let d : VoterView = record { id = []; ballot = [] } in
      let rises : IsStrictlyIncreasing (ballot_at e voter) =
      subst IsStrictlyIncreasing (sym (get_or-map (λ (v : VoterView). v.ballot) e.voters voter d [] known)) (is.are_voters voter d known).ballot_rises in
      subst IsStrictlyIncreasing (sym (places_kept (ballot_at e voter))) (IsStrictlyIncreasing-filter (λ place. is_paid (payment place)) (ballot_at e voter) rises)

-- the round that elected a project
module _ (place : ℕ) where
  one_more : (b : Bool) (v : ElectedView) (rest : List ElectedView) → (v.place == place) ≡ b → round_of (v ∷ rest) place ≡ cond (not b) (1 + round_of rest place) 0
  one_more b v rest e = ap (λ t. cond (not t) (1 + round_of rest place) 0) e

  pub round_is : (before : List ElectedView) (w : ElectedView) (later : List ElectedView) → All (λ (v : ElectedView). v.place ≢ place) before → w.place ≡ place
      → round_of (before ++ w ∷ later) place ≡ length before
  round_is [] w later others here = one_more true w later (eq-eqb w.place place here)
  round_is (v ∷ before) w later others here =
      let rest = round_is before w later (All-tail (λ (u : ElectedView). u.place ≢ place) v before others) here in
      one_more false v (before ++ w ∷ later) (ne_eqb v.place place (All-head (λ (u : ElectedView). u.place ≢ place) v before others)) ∙ omega (arith, rest)

  pub no_round : (elected : List ElectedView) → All (λ (v : ElectedView). v.place ≢ place) elected → round_of elected place ≡ length elected
  no_round [] others = refl
  no_round (v ∷ elected) others =
      let rest = no_round elected (All-tail (λ (u : ElectedView). u.place ≢ place) v elected others) in
      one_more false v elected (ne_eqb v.place place (All-head (λ (u : ElectedView). u.place ≢ place) v elected others)) ∙ omega (arith, rest)

-- what a voter paid for a project: in its round, or nothing
module _ (s : SupportView) (v : ℕ) where
  paid_in_its_turn : (rests : List ℕ) (before : List ElectedView) (w : ElectedView) (later : List ElectedView)
      → slice_index (slice_index_or (paid_in_turn s rests (before ++ w ∷ later)) (length before) []) v
      ≡ payment_of (supporters_at s w.place) w.price (rests_after s rests before) v
  paid_in_its_turn rests [] w later =
      ap (λ (rows : List (List ℕ)). slice_index (slice_index_or rows 0 []) v) (paid_in_turn-cons s rests w later)
      ∙ payment_at (supporters_at s w.place) w.price rests v
  paid_in_its_turn rests (y ∷ before) w later =
      ap (λ (rows : List (List ℕ)). slice_index (slice_index_or rows (suc (length before)) []) v) (paid_in_turn-cons s rests y (before ++ w ∷ later))
      ∙ paid_in_its_turn (charged (supporters_at s y.place) y.price rests) before w later

  one_row_each : (rests : List ℕ) (elected : List ElectedView) → length (paid_in_turn s rests elected) ≡ length elected
  one_row_each rests [] = ap length (sym (paid_in_turn-nil s rests))
  one_row_each rests (w ∷ elected) =
      ap length (paid_in_turn-cons s rests w elected) ∙ ap suc (one_row_each (charged (supporters_at s w.place) w.price rests) elected)

module _ (e : ElectionView) (o : OutcomeView) (voter : ℕ) where
  abbrev opening : List ℕ
  opening = replicate (length e.voters) o.share

  abbrev paid_by : List ElectedView → ℕ → ℕ
  paid_by elected round = slice_index (slice_index_or (paid_in_turn (support_of e) opening elected) round []) voter

  pub paid_in_round : (before : List ElectedView) (w : ElectedView) (later : List ElectedView) → o.elected ≡ before ++ w ∷ later
      → All (λ (v : ElectedView). v.place ≢ w.place) before
      → paid_for e o w.place voter ≡ payment_of (supporters_at (support_of e) w.place) w.price (rests_after (support_of e) opening before) voter
  paid_in_round before w later split others =
      ap (λ (elected : List ElectedView). paid_by elected (round_of elected w.place)) split
      ∙ ap (paid_by (before ++ w ∷ later)) (round_is w.place before w later others refl)
      ∙ paid_in_its_turn (support_of e) voter opening before w later

  pub pays_for_no_other : (place : ℕ) → All (λ (v : ElectedView). v.place ≢ place) o.elected → paid_for e o place voter ≡ 0
  pays_for_no_other place others =
      let past : length (paid_in_turn (support_of e) opening o.elected) ≤ round_of o.elected place =
      omega (arith, one_row_each (support_of e) voter opening o.elected, no_round place o.elected others) in
      ap (λ (row : List ℕ). slice_index row voter) (get_or_past (paid_in_turn (support_of e) opening o.elected) (round_of o.elected place) [] past)
