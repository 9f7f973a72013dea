-- What supporters of the projects that lost had spent: payment by payment, and voter by voter.
use Rattle.std.proofs.Common.{◌≡◌, ◌≢◌, ℕ, suc, ◌+◌, ◌*◌, ◌<◌, max, Bool, true, false, cond, not, ◌||◌, List, [], ◌∷◌, ◌++◌, length, get_or, map, set, take, replicate, true≢false, refl, sym, ◌∙◌, ap, inl, inr, arith, append-nil}
use Rattle.std.specs.Prelude.{◌==◌, All, AllPairs, filter, if◌then◌else◌, nat_le, nat_lt, slice_index, slice_index_or, sum_by, zip}
use Rattle.std.specs.List.{range_with_len}
use Rattle.std.proofs.lemmas.Bool.{cases_eq, cond-false, cond-true, eq-eqb, ltb-false, ne_eqb}
use Rattle.std.proofs.lemmas.List.{get_or-map, get_or-replicate, get_or-set_other, get_or-set_same, length-replicate, length-set}
use Rattle.std.proofs.lemmas.List.Elements.{All-filter, All-head, All-map, All-tail, Contains-get_or, filter-append}
use Rattle.std.proofs.lemmas.List.Folds.{list_any_more}
use Rattle.std.proofs.lemmas.List.FromFn.{get_or-map-range_with_len}
use Rattle.std.proofs.lemmas.List.Kept.{AllPairs-from_increasing}
use Rattle.std.proofs.lemmas.List.Sums.{fold_push, sum_by-cons}
use Rattle.pb_core.specs.Inner.Approved.{approves}
use Rattle.pb_core.specs.Election.{ElectionView, IsElection, VoterView}
use Rattle.pb_price.proofs.BuiltLists.{ballot_known, range_with_len_more}
use Rattle.pb_price.specs.Supporters.{SupportView, ballot_at, support_in, support_of, supporters_at, supporters_of}
use Rattle.pb_price.specs.declared.grain.Grain.{Grain}
use Rattle.pb_rounds.proofs.Charged.{payment_at}
use Rattle.pb_rounds.proofs.Explained.{paid_in_turn-cons}
use Rattle.pb_rounds.proofs.Listed.{contains_from_listed, listed_from_contains}
use Rattle.pb_rounds.specs.Fairness.{paid_within}
use Rattle.pb_rounds.specs.Inner.Listed.{is_listed}
use Rattle.pb_rounds.specs.MostVotes.{is_taken, votes_at}
use Rattle.pb_rounds.specs.Outcome.{OutcomeView}
use Rattle.pb_rounds.specs.Payments.{paid_in_turn, payments_of}
use Rattle.pb_rounds.specs.Run.{ElectedView, charged, payment_of, weight_of}
use Rattle.pb_rounds.specs.declared.measure.Measure.{Measure}
use Rattle.pb_reasons.specs.Counted.{winners_of}
use Rattle.pb_reasons.specs.CountedElection.{CountedElectionView}
use Rattle.pb_reasons.specs.Fairness.{needed, spent}
use Rattle.pb_reasons.specs.Inner.Spending.{AreMost, NotesSpent, counts_within, most_of, within_need}
use Rattle.pb_reasons.specs.Inner.Told.{AreApart, CanBeTold}
use Rattle.pb_reasons.specs.Reasons.{paid_for, round_of, voter_payments}
use Rattle.pb_reasons.specs.declared.payment.Payment.{Payment}
use Rattle.pb_reasons.proofs.EachGrain.{same_payments}
use Rattle.pb_reasons.proofs.VoterTold.{supports}

-- sums of numbers that are the same, or that are nothing
pub sum_same : (f g : ℕ → ℕ) (xs : List ℕ) → All (λ x. f x ≡ g x) xs → sum_by f xs ≡ sum_by g xs
sum_same f g [] same = refl
sum_same f g (x ∷ xs) same =
    let others = sum_same f g xs (All-tail (λ y. f y ≡ g y) x xs same) in
    omega (arith, sum_by-cons f x xs, sum_by-cons g x xs, All-head (λ y. f y ≡ g y) x xs same, others)

pub sum_nothing : (f : ℕ → ℕ) (xs : List ℕ) → ((x : ℕ) → f x ≡ 0) → sum_by f xs ≡ 0
sum_nothing f [] none = refl
sum_nothing f (x ∷ xs) none =
    let others = sum_nothing f xs none in
    omega (arith, sum_by-cons f x xs, none x, others)

-- a sum over different numbers, where one of them counts for more than nothing
pub sum_with : (g : ℕ → ℕ) (x a : ℕ) (xs : List ℕ) → AllPairs (λ y z. y < z) xs → g x ≡ 0 → (approves xs x ≡ false → a ≡ 0)
    → sum_by (λ y. cond (x == y) a (g y)) xs ≡ a + sum_by g xs
sum_with g x a [] rise nothing outside = let none = outside refl in omega (arith, none)
sum_with g x a (y ∷ ys) rise nothing outside = elim (cases_eq y x) [
  | inl same ↦
      let here : cond (x == y) a (g y) ≡ a = cond-true _ _ _ (eq-eqb x y (sym same)) in
      let gone : g y ≡ 0 = ap g same ∙ nothing in
      let others = sum_same (λ z. cond (x == z) a (g z)) g ys (λ k d below.
      let later = rise 0 (suc k) d (omega arith) (omega (arith, below)) in
      cond-false _ _ _ (ne_eqb x (get_or ys k d) (λ e. omega (arith, later, e, same)))) in
      omega (arith, sum_by-cons (λ z. cond (x == z) a (g z)) y ys, sum_by-cons g y ys, here, gone, others)
  | inr other ↦
      let here : cond (x == y) a (g y) ≡ g y = cond-false _ _ _ (ne_eqb x y (λ e. other (sym e))) in
      let others = sum_with g x a ys (λ i j d before below. rise (suc i) (suc j) d (omega (arith, before)) (omega (arith, below))) nothing
      (λ none. outside (rw (ne_eqb y x other) none)) in
      omega (arith, sum_by-cons (λ z. cond (x == z) a (g z)) y ys, sum_by-cons g y ys, here, others)
]

pub nothing_either_way : (b : Bool) (paid : ℕ) → paid ≡ 0 → cond b paid 0 ≡ 0
nothing_either_way true paid none = none
nothing_either_way false paid none = refl

row_there : (b : Bool) (row : List ℕ) (rows : List (List ℕ)) (n v : ℕ)
    → slice_index (get_or (row ∷ rows) (cond (not b) (1 + n) 0) []) v ≡ cond b (slice_index row v) (slice_index (get_or rows n []) v)
row_there true row rows n v = refl
row_there false row rows n v =
    let one : 1 + n ≡ suc n = omega arith in ap (λ k. slice_index (get_or (row ∷ rows) k []) v) one

module _ (m : Measure) (s : SupportView) (place : ℕ) where
  -- what is counted of what was paid for another project
  abbrev within : (other paid : ℕ) → ℕ
  within other paid = if nat_le (paid * weight_of m s place) (needed s place * weight_of m s other) then paid else 0

  within-nothing : (other paid : ℕ) → paid ≡ 0 → within other paid ≡ 0
  within-nothing other paid none = nothing_either_way _ paid none

  -- the same of all that a voter pays for the elected, out of these rests
  abbrev all_within : List ℕ → List ElectedView → ℕ → ℕ
  all_within rests elected v = sum_by (λ row. within row.0.place (slice_index row.1 v)) (zip elected (paid_in_turn s rests elected))

  all_within-cons : (rests : List ℕ) (w : ElectedView) (elected : List ElectedView) (v : ℕ) → all_within rests (w ∷ elected) v
      ≡ within w.place (payment_of (supporters_at s w.place) w.price rests v) + all_within (charged (supporters_at s w.place) w.price rests) elected v
  all_within-cons rests w elected v =
      let later = paid_in_turn s (charged (supporters_at s w.place) w.price rests) elected in
      ap (λ rows. sum_by (λ row. within row.0.place (slice_index row.1 v)) (zip (w ∷ elected) rows)) (paid_in_turn-cons s rests w elected)
      ∙ sum_by-cons (λ row. within row.0.place (slice_index row.1 v)) (w, payments_of (supporters_at s w.place) w.price rests) (zip elected later)
      ∙ ap (λ paid. within w.place paid + all_within (charged (supporters_at s w.place) w.price rests) elected v) (payment_at (supporters_at s w.place) w.price rests v)

  -- what a voter pays for the project at one place
  abbrev paid_there : List ℕ → List ElectedView → ℕ → ℕ → ℕ
  paid_there rests elected v p = slice_index (slice_index_or (paid_in_turn s rests elected) (round_of elected p) []) v

  paid_there-cons : (rests : List ℕ) (w : ElectedView) (elected : List ElectedView) (v p : ℕ) → paid_there rests (w ∷ elected) v p
      ≡ cond (w.place == p) (payment_of (supporters_at s w.place) w.price rests v) (paid_there (charged (supporters_at s w.place) w.price rests) elected v p)
  paid_there-cons rests w elected v p =
      let later = charged (supporters_at s w.place) w.price rests in
      ap (λ rows. slice_index (slice_index_or rows (round_of (w ∷ elected) p) []) v) (paid_in_turn-cons s rests w elected)
      ∙ row_there (w.place == p) (payments_of (supporters_at s w.place) w.price rests) (paid_in_turn s later elected) (round_of elected p) v
      ∙ ap (λ paid. cond (w.place == p) paid (paid_there later elected v p)) (payment_at (supporters_at s w.place) w.price rests v)

  -- for what is not elected nothing is paid
  paid_nowhere : (p v : ℕ) (elected : List ElectedView) → All (λ w. w.place ≢ p) elected → (rests : List ℕ) → paid_there rests elected v p ≡ 0
  unfolding paid_in_turn
  paid_nowhere p v [] others rests = refl
  paid_nowhere p v (w ∷ elected) others rests =
      paid_there-cons rests w elected v p
      ∙ cond-false _ _ _ (ne_eqb w.place p (All-head (λ u. u.place ≢ p) w elected others))
      ∙ paid_nowhere p v elected (All-tail (λ u. u.place ≢ p) w elected others) (charged (supporters_at s w.place) w.price rests)

  -- who does not support a project pays nothing for it
  pub unlisted_pays_nothing : (p v : ℕ) → is_listed (supporters_at s p) v ≡ false → (elected : List ElectedView) (rests : List ℕ) → paid_there rests elected v p ≡ 0
  unfolding paid_in_turn
  unlisted_pays_nothing p v none [] rests = refl
  unlisted_pays_nothing p v none (w ∷ elected) rests = elim (cases_eq w.place p) [
    | inl same ↦
        paid_there-cons rests w elected v p ∙ cond-true _ _ _ (eq-eqb w.place p same)
        ∙ cond-false _ _ _ (ap (λ q. is_listed (supporters_at s q) v) same ∙ none)
    | inr other ↦
        paid_there-cons rests w elected v p ∙ cond-false _ _ _ (ne_eqb w.place p other)
        ∙ unlisted_pays_nothing p v none elected (charged (supporters_at s w.place) w.price rests)
  ]

  within_cond : (x p paid rest : ℕ) → within p (cond (x == p) paid rest) ≡ cond (x == p) (within x paid) (within p rest)
  within_cond x p paid rest = elim (cases_eq x p) [
    | inl same ↦ rw same (rw (eq-eqb p p refl) refl)
    | inr other ↦ rw (ne_eqb x p other) refl
  ]

  -- what a voter paid is the same, ballot by ballot or round by round
  all_by_place : (projects v : ℕ) (ballot : List ℕ) → AllPairs (λ a b. a < b) ballot
      → ((p : ℕ) → p < projects → is_listed (supporters_at s p) v ≡ approves ballot p)
      → (elected : List ElectedView) → All (λ w. w.place < projects) elected → AllPairs AreApart elected → (rests : List ℕ)
      → sum_by (λ p. within p (paid_there rests elected v p)) ballot ≡ all_within rests elected v
  unfolding paid_in_turn
  all_by_place projects v ballot rise same [] known apart rests = sum_nothing (λ p. within p (paid_there rests [] v p)) ballot (λ p. within-nothing p 0 refl)
  all_by_place projects v ballot rise same (w ∷ elected) known apart rests =
      let supporters = supporters_at s w.place in
      let paid = payment_of supporters w.price rests v in
      let later = charged supporters w.price rests in
      let g : ℕ → ℕ = λ p. within p (paid_there later elected v p) in
      let a = within w.place paid in
      let once : All (λ u. u.place ≢ w.place) elected = λ k d below e. apart 0 (suc k) d (omega arith) (omega (arith, below)) (sym e) in
      let gone : g w.place ≡ 0 = within-nothing w.place _ (paid_nowhere w.place v elected once later) in
      let outside : approves ballot w.place ≡ false → a ≡ 0 = λ none.
      within-nothing w.place paid (cond-false _ _ _ (same w.place (All-head (λ u. u.place < projects) w elected known) ∙ none)) in
      sum_same (λ p. within p (paid_there rests (w ∷ elected) v p)) (λ p. cond (w.place == p) a (g p)) ballot
      (λ k d below.
      let p = get_or ballot k d in
      ap (within p) (paid_there-cons rests w elected v p) ∙ within_cond w.place p paid (paid_there later elected v p))
      ∙ sum_with g w.place a ballot rise gone outside
      ∙ ap (λ n. a + n)
      (all_by_place projects v ballot rise same elected (All-tail (λ u. u.place < projects) w elected known)
      (λ i j d before below. apart (suc i) (suc j) d (omega (arith, before)) (omega (arith, below))) later)
      ∙ sym (all_within-cons rests w elected v)

  -- payments above nothing come to the same as all
  payment_counted : (b : Bool) (p : Payment) (payments : List Payment) → nat_lt 0 p.amount ≡ b
      → sum_by (counts_within m s place) (cond b (p ∷ payments) payments) ≡ counts_within m s place p + sum_by (counts_within m s place) payments
  payment_counted true p payments some = sum_by-cons (counts_within m s place) p payments
  payment_counted false p payments none =
      let nothing = ltb-false 0 p.amount none in
      let gone : counts_within m s place p ≡ 0 = within-nothing p.place p.amount (omega (arith, nothing)) in omega (arith, gone)

  payments_counted : (paid_of : ℕ → ℕ) (places : List ℕ)
      → sum_by (counts_within m s place) (filter (λ (p : Payment). nat_lt 0 p.amount) (map (λ q. record { place = q; amount = paid_of q }) places))
      ≡ sum_by (λ q. within q (paid_of q)) places
  payments_counted paid_of [] = refl
  payments_counted paid_of (q ∷ places) =
      let p : Payment = record { place = q; amount = paid_of q } in
      payment_counted (nat_lt 0 (paid_of q)) p (filter (λ (p : Payment). nat_lt 0 p.amount) (map (λ q. record { place = q; amount = paid_of q }) places)) refl
      ∙ ap (λ n. counts_within m s place p + n) (payments_counted paid_of places)
      ∙ sym (sum_by-cons (λ q. within q (paid_of q)) q places)

pub ballot_rises : (e : ElectionView) (voter : ℕ) → IsElection e → voter < length e.voters → AllPairs (λ a b. a < b) (ballot_at e voter)
ballot_rises e voter h is_voter =
    let d : VoterView = record { id = []; ballot = [] } in
    let same : ballot_at e voter ≡ (get_or e.voters voter d).ballot = get_or-map (λ (v : VoterView). v.ballot) e.voters voter d [] is_voter in
    rw same (AllPairs-from_increasing _ (h.are_voters voter d is_voter).ballot_rises)

-- what a voter's payments come to, as the law says it
pub within_need_is : (m : Measure) (grain : Grain) (e : ElectionView) (o : OutcomeView) → IsElection e → CanBeTold grain e o → (place voter : ℕ) → voter < length e.voters
    → within_need m (support_in grain e) place (voter_payments e o voter)
    ≡ paid_within m (support_in grain e) o.share o.elected place (needed (support_in grain e) place) voter
within_need_is m grain e o h told place voter is_voter =
    let s = support_in grain e in
    payments_counted m s place (λ p. paid_for e o p voter) (ballot_at e voter)
    ∙ ap (λ (rows : List (List ℕ)). sum_by (λ p. counts_within m s place (record { place = p; amount = slice_index (slice_index_or rows (round_of o.elected p) []) voter })) (ballot_at e voter))
    (sym (same_payments grain e (replicate (length e.voters) o.share) o.elected))
    ∙ all_by_place m s place (length e.projects) voter (ballot_at e voter) (ballot_rises e voter h is_voter)
    (λ p known. supports e voter p is_voter known) o.elected told.known told.apart (replicate s.voters o.share)

-- voter by voter
most_again : (b : Bool) (old more : ℕ) → max (cond b (max old more) old) more ≡ max old more
most_again true old more = omega arith
most_again false old more = omega arith

or_false : (b : Bool) → (b || false) ≡ b
or_false true = refl
or_false false = refl

or_true : (b : Bool) → (b || true) ≡ true
or_true true = refl
or_true false = refl

module _ (winners : List ℕ) (spent_by : ℕ → ℕ) (ballot old most : List ℕ) (i place : ℕ) (below : i < length ballot) (here : place ≡ get_or ballot i 0)
    (so_far : NotesSpent winners spent_by (take i ballot) old most) where
  approves_more : (k : ℕ) → approves (take (i + 1) ballot) k ≡ (approves (take i ballot) k || (place == k))
  approves_more k = list_any_more (λ p. p == k) ballot i 0 below ∙ ap (λ p. approves (take i ballot) k || (p == k)) (sym here)

  not_here : (k : ℕ) → place ≢ k → approves (take (i + 1) ballot) k ≡ approves (take i ballot) k
  not_here k other = approves_more k ∙ ap (λ b. approves (take i ballot) k || b) (ne_eqb place k other) ∙ or_false (approves (take i ballot) k)

  pub most_noted : (new : List ℕ) → place < length most → is_taken winners place ≡ false → new ≡ set most place (max (slice_index most place) (spent_by place))
      → NotesSpent winners spent_by (take (i + 1) ballot) old new
  most_noted new known lost is = record {
    same_length = ap length is ∙ length-set most place _ ∙ so_far.same_length;
    noted = λ k inside free. elim (cases_eq place k) [
      | inl same ↦
          let approved : approves (take (i + 1) ballot) k ≡ true =
          approves_more k ∙ ap (λ b. approves (take i ballot) k || b) (eq-eqb place k same) ∙ or_true (approves (take i ballot) k) in
          let put : slice_index new k ≡ max (slice_index most k) (spent_by k) = rw (is, ← same) (get_or-set_same most place _ 0 known) in
          put ∙ ap (λ n. max n (spent_by k)) (so_far.noted k inside free)
          ∙ most_again (approves (take i ballot) k) (slice_index old k) (spent_by k)
          ∙ sym (cond-true _ _ _ approved)
      | inr other ↦
          let kept : slice_index new k ≡ slice_index most k = rw is (get_or-set_other most place k _ 0 (λ e. other (sym e))) in
          kept ∙ so_far.noted k inside free ∙ ap (λ b. cond b (max (slice_index old k) (spent_by k)) (slice_index old k)) (sym (not_here k other))
    ];
    others = λ k inside won.
        let kept : slice_index new k ≡ slice_index most k =
        rw is (get_or-set_other most place k _ 0 (λ e. true≢false (sym won ∙ ap (is_taken winners) e ∙ lost))) in
        kept ∙ so_far.others k inside won;
  }

  pub most_kept : is_taken winners place ≡ true → NotesSpent winners spent_by (take (i + 1) ballot) old most
  most_kept won = record {
    same_length = so_far.same_length;
    noted = λ k inside free.
        let other : place ≢ k = λ e. true≢false (sym won ∙ ap (is_taken winners) e ∙ free) in
        so_far.noted k inside free ∙ ap (λ b. cond b (max (slice_index old k) (spent_by k)) (slice_index old k)) (sym (not_here k other));
    others = so_far.others;
  }

module _ (c : CountedElectionView) where
  pub most_none : (most : List ℕ) → most ≡ replicate (length c.election.projects) 0 → AreMost c 0 most
  most_none most is = record {
    one_each = ap length is ∙ length-replicate (length c.election.projects) 0;
    each = λ place known free. ap (λ (l : List ℕ). slice_index l place) is ∙ get_or-replicate (length c.election.projects) place 0 0 known;
    winners = λ place known won. ap (λ (l : List ℕ). slice_index l place) is ∙ get_or-replicate (length c.election.projects) place 0 0 known;
  }

  most_step : (place n : ℕ) (voters : List ℕ) (b : Bool) → most_of c place (voters ++ cond b (n ∷ []) [])
      ≡ cond b (max (most_of c place voters) (most_of c place (n ∷ []))) (most_of c place voters)
  most_step place n voters true = fold_push _ 0 voters n ∙ omega arith
  most_step place n voters false = ap (most_of c place) (append-nil voters)

  -- one voter more
  pub most_more : (n : ℕ) (ballot most new : List ℕ) (spent_by : ℕ → ℕ) → AreMost c n most → NotesSpent (winners_of c.counted) spent_by ballot most new
      → ballot ≡ ballot_at c.election n → ((place : ℕ) → spent_by place ≡ most_of c place (n ∷ [])) → AreMost c (n + 1) new
  most_more n ballot most new spent_by so_far notes own same = record {
    one_each = notes.same_length ∙ so_far.one_each;
    each = λ place known free.
        let test : ℕ → Bool = λ v. approves (ballot_at c.election v) place in
        let before = filter test (range_with_len 0 n) in
        let more : filter test (range_with_len 0 (n + 1)) ≡ before ++ cond (test n) (n ∷ []) [] = ap (filter test) (range_with_len_more n) ∙ filter-append test (range_with_len 0 n) (n ∷ []) in
        notes.noted place (omega (arith, known, so_far.one_each)) free
        ∙ ap (λ b. cond b (max (slice_index most place) (spent_by place)) (slice_index most place)) (ap (λ l. approves l place) own)
        ∙ ap (λ k. cond (test n) (max k (spent_by place)) k) (so_far.each place known free)
        ∙ ap (λ k. cond (test n) (max (most_of c place before) k) (most_of c place before)) (same place)
        ∙ sym (ap (most_of c place) more ∙ most_step place n before (test n));
    winners = λ place known won. notes.others place (omega (arith, known, so_far.one_each)) won ∙ so_far.winners place known won;
  }

  -- all voters
  pub most_all : (most : List ℕ) → AreMost c (length c.election.voters) most → (place : ℕ) → place < length c.election.projects
      → is_taken (winners_of c.counted) place ≡ false
      → slice_index most place ≡ spent c.rule.options.measure (support_in c.rule.options.grain c.election) c.counted.outcome place
  unfolding supporters_of
  most_all most are place known free =
      are.each place known free
      ∙ ap (most_of c place) (sym (get_or-map-range_with_len (supporters_of c.election) 0 (length c.election.projects) place place [] known (omega arith)))

-- each choice of a voter has a supporter, and each payment is for a project
module _ (e : ElectionView) (voter : ℕ) (h : IsElection e) (is_voter : voter < length e.voters) where
  pub choices_supported : (ballot : List ℕ) → ballot ≡ ballot_at e voter → All (λ place. 0 < votes_at (support_of e) place) ballot
  choices_supported ballot own = λ k d below.
      let place = get_or ballot k d in
      let known = ballot_known e voter ballot h is_voter own k d below in
      let approved = listed_from_contains ballot place (Contains-get_or ballot k d below) in
      let listed : is_listed (supporters_at (support_of e) place) voter ≡ true = supports e voter place is_voter known ∙ ap (λ l. approves l place) (sym own) ∙ approved in
      let at = contains_from_listed (supporters_at (support_of e) place) voter listed in
      omega (arith, at.1)

  pub payments_known : (o : OutcomeView) → All (λ (p : Payment). p.place < length e.projects) (voter_payments e o voter)
  payments_known o =
      let pay : ℕ → Payment = λ place. record { place = place; amount = paid_for e o place voter } in
      All-filter (λ (p : Payment). nat_lt 0 p.amount) (λ (p : Payment). p.place < length e.projects) (map pay (ballot_at e voter))
      (All-map (λ (p : Payment). p.place < length e.projects) pay (ballot_at e voter) (ballot_known e voter (ballot_at e voter) h is_voter refl))
