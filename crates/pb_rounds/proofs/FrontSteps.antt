-- What the front's loops do: rests that are all raised, prices that all can pay, and a copy of the queue up to a share.
use Rattle.std.proofs.Common.{◌≡◌, ℕ, ◌+◌, ◌-◌, ◌*◌, ◌/◌, ◌<◌, ◌≤◌, max, min, List, [], ◌∷◌, ◌++◌, length, map, replicate, take, drop, get_or, Option, Some, None, Bool, true, false, cond, refl, sym, subst, ◌∙◌, ap, inl, inr, arith}
use Rattle.std.specs.BTreeSet.{insert_key}
use Rattle.std.specs.List.Sorted.{IsStrictlySortedBy}
use Rattle.std.specs.Prelude.{◌==◌, ◌⊎◌, All, nat_le, slice_index}
use Rattle.std.proofs.Math.Nat.{div-mul-le_self, le_of_mul-le-mul_left, lt_of_mul-lt-mul_left, mul-le-mul_left, mul-le-mul_right}
use Rattle.std.specs.Ordering.{is_lt, nat_cmp}
use Rattle.std.proofs.lemmas.Bool.{cases_lt, eq-eqb, leb-false, or_left, or_right}
use Rattle.std.proofs.lemmas.Map.Keys.{ge_from_not_lt}
use Rattle.std.proofs.lemmas.List.{ext_get_or, get_or-append_right, get_or-drop, get_or-map, get_or-replicate, get_or_default, get_or_past, length-map, length-replicate, length-take-le, take_all}
use Rattle.std.proofs.lemmas.List.Elements.{All-contains, All-more}
use Rattle.std.proofs.lemmas.List.Sums.{sum_by-cons, sum_by-le-sum_by}
use Rattle.pb_price.specs.Price.{AreRests, AtMost, HasPayers, PriceView, due, largest_share, paid_at, price_at, total_rest}
use Rattle.pb_price.specs.Inner.Lists.{NoRestRises}
use Rattle.pb_price.specs.Supporters.{IsSupport, SupportView, cost_in_parts, supporters_at}
use Rattle.pb_price.proofs.Dues.{price_stays as price_in_stays, price_within as price_in_within}
use Rattle.pb_price.proofs.Prices.{is_price_from_at, price_covers, price_from_is_price}
use Rattle.pb_price.proofs.SupporterLists.{cost_positive}
use Rattle.pb_rounds.specs.declared.measure.Measure.{Measure}
use Rattle.pb_rounds.specs.Inner.Bounds.{HasBounds}
use Rattle.pb_rounds.specs.Inner.Front.{IsCopyUpTo}
use Rattle.pb_rounds.specs.Inner.Queue.{IsIn, Rises}
use Rattle.pb_rounds.specs.Key.{KeyView, key_cmp}
use Rattle.pb_rounds.specs.Inner.Listed.{is_listed}
use Rattle.pb_rounds.specs.Run.{charged}
use Rattle.pb_rounds.proofs.Charged.{charged_at, length-charged}
use Rattle.pb_rounds.proofs.Listed.{contains_from_listed}
use Rattle.pb_rounds.proofs.QueueLists.{put_from, put_is_in, put_keeps, rises_from_sorted}

-- ---- tests and loops

pub skipped_price : (price key : PriceView) (share : ℕ) (test : Bool) → test ≡ nat_le price.amount (share * price.payers) → test ≡ false → price ≡ key
    → share * key.payers < key.amount
skipped_price price key share test is e same =
    subst (λ (p : PriceView). share * p.payers < p.amount) same (leb-false price.amount (share * price.payers) (sym is ∙ e))

-- who can pay a price in full can pay what is due
pub due_at_most : (p : PriceView) (rest : ℕ) → p.amount ≤ rest * p.payers → due p ≤ rest
due_at_most p rest enough =
    let some : 0 < max 1 p.payers = omega arith in
    let own : due p * max 1 p.payers ≤ p.amount = div-mul-le_self p.amount (max 1 p.payers) in
    let more : rest * p.payers ≤ rest * max 1 p.payers = mul-le-mul_left rest (omega arith) in
    let within : max 1 p.payers * due p ≤ max 1 p.payers * rest = omega (arith, own, more, enough) in
    le_of_mul-le-mul_left within some

-- the element that a loop which writes over a list comes to is still the first list's
pub over_here : (f : ℕ → ℕ) (xs : List ℕ) (i d : ℕ) → i < length xs → get_or (map f (take i xs) ++ drop i xs) i d ≡ get_or xs i d
over_here f xs i d below =
    let len : length (map f (take i xs)) ≡ i = length-map (take i xs) f ∙ length-take-le i xs (omega arith) in
    let none : i - i ≡ 0 = omega arith in
    let at : i + 0 ≡ i = omega arith in
    get_or-append_right (map f (take i xs)) (drop i xs) i i d len (omega arith) ∙ ap (λ n. get_or (drop i xs) n d) none ∙ get_or-drop i xs 0 d
    ∙ ap (λ n. get_or xs n d) at

pub can_pay_more : (supporters rests : List ℕ) (price i rest : ℕ) → i < length supporters → All (λ v. v < length rests) supporters
    → All (λ v. price ≤ slice_index rests v) (take i supporters) → rest ≡ get_or rests (get_or supporters i 0) rest
    → (test : Bool) → test ≡ is_lt (nat_cmp rest price) → test ≡ false → All (λ v. price ≤ slice_index rests v) (take (i + 1) supporters)
can_pay_more supporters rests price i rest below known before rest_is test is e =
    let enough = ge_from_not_lt rest price (sym is ∙ e) in
    let within = known i 0 below in
    All-more (λ v. price ≤ slice_index rests v) supporters i 0 below before
    (omega (arith, enough, rest_is, get_or_default rests (get_or supporters i 0) rest 0 within))

pub pay_all : (supporters rests : List ℕ) (price i : ℕ) → length supporters ≤ i → All (λ v. price ≤ slice_index rests v) (take i supporters)
    → All (λ v. price ≤ slice_index rests v) supporters
pay_all supporters rests price i all h = subst (All (λ v. price ≤ slice_index rests v)) (take_all i supporters all) h

-- ---- rests where each is this much more

abbrev pub raised : ℕ → List ℕ → List ℕ
raised more rests = map (λ rest. rest + more) rests

pub raised_at : (more : ℕ) (rests : List ℕ) (v : ℕ) → v < length rests → slice_index (raised more rests) v ≡ slice_index rests v + more
raised_at more rests v below = get_or-map (λ rest. rest + more) rests v 0 0 below

pub raised_past : (more : ℕ) (rests : List ℕ) (v : ℕ) → length rests ≤ v → slice_index (raised more rests) v ≡ 0
raised_past more rests v past = get_or_past (raised more rests) v 0 (omega (arith, length-map rests (λ rest. rest + more)))

pub raised_zero : (rests : List ℕ) → raised 0 rests ≡ rests
raised_zero [] = refl
raised_zero (x ∷ rests) =
    let same : x + 0 ≡ x = omega arith in
    ap (λ n. n ∷ raised 0 rests) same ∙ ap (λ xs. x ∷ xs) (raised_zero rests)

pub raised_twice : (first more : ℕ) (rests : List ℕ) → raised (first + more) rests ≡ raised more (raised first rests)
raised_twice first more [] = refl
raised_twice first more (x ∷ rests) =
    let same : x + (first + more) ≡ x + first + more = omega arith in
    ap (λ n. n ∷ raised (first + more) rests) same ∙ ap (λ xs. (x + first + more) ∷ xs) (raised_twice first more rests)

-- whoever could pay can
pub raised_pays : (more amount payers : ℕ) (rests : List ℕ) (v : ℕ) → amount ≤ slice_index rests v * payers → amount ≤ slice_index (raised more rests) v * payers
raised_pays more amount payers rests v h = elim (cases_lt v (length rests)) [
  | inl below ↦
      let rises : slice_index rests v ≤ slice_index (raised more rests) v = omega (arith, raised_at more rests v below) in
      let scaled : slice_index rests v * payers ≤ slice_index (raised more rests) v * payers = mul-le-mul_right payers rises in
      omega (arith, scaled, h)
  | inr past ↦
      let none : slice_index rests v * payers ≡ 0 * payers = ap (λ n. n * payers) (get_or_past rests v 0 past) in
      omega (arith, none, h)
]

left_raised : (listed : Bool) (rest more price : ℕ) → (listed ≡ true → price ≤ rest)
    → (rest + more) - cond listed (min (rest + more) price) 0 ≡ (rest - cond listed (min rest price) 0) + more
left_raised true rest more price h = let full = h refl in omega arith
left_raised false rest more price h = omega arith

-- where all supporters can pay, they do so from higher rests as from lower ones
module _ (supporters : List ℕ) (price : ℕ) where
  pub charged_raised : (more : ℕ) (rests : List ℕ) → ((v : ℕ) → is_listed supporters v ≡ true → price ≤ slice_index rests v)
      → charged supporters price (raised more rests) ≡ raised more (charged supporters price rests)
  charged_raised more rests full =
      let one = length-charged supporters price (raised more rests) in
      let two = length-map rests (λ rest. rest + more) in
      let three = length-map (charged supporters price rests) (λ rest. rest + more) in
      let four = length-charged supporters price rests in
      ext_get_or 0 (charged supporters price (raised more rests)) (raised more (charged supporters price rests)) (one ∙ two ∙ sym four ∙ sym three)
      (λ v below.
      let within : v < length rests = omega (arith, one, two) in
      let here = raised_at more rests v within in
      let there = raised_at more (charged supporters price rests) v (omega (arith, four)) in
      charged_at supporters price (raised more rests) v
      ∙ ap (λ n. n - cond (is_listed supporters v) (min n price) 0) here
      ∙ left_raised (is_listed supporters v) (slice_index rests v) more price (full v)
      ∙ ap (λ n. n + more) (sym (charged_at supporters price rests v))
      ∙ sym there)

pub paid_alike : (supporters one other : List ℕ) (price : ℕ) → ((v : ℕ) → is_listed supporters v ≡ true → price ≤ slice_index one v)
    → ((v : ℕ) → is_listed supporters v ≡ true → price ≤ slice_index other v)
    → paid_at supporters one price ≡ paid_at supporters other price
paid_alike [] one other price h g = refl
paid_alike (v ∷ vs) one other price h g =
    let mine = h v (or_left (v == v) (is_listed vs v) (eq-eqb v v refl)) in
    let theirs = g v (or_left (v == v) (is_listed vs v) (eq-eqb v v refl)) in
    let later = paid_alike vs one other price (λ w e. h w (or_right (v == w) (is_listed vs w) e)) (λ w e. g w (or_right (v == w) (is_listed vs w) e)) in
    omega (arith, mine, theirs, later, sum_by-cons (λ w. min (slice_index one w) price) v vs, sum_by-cons (λ w. min (slice_index other w) price) v vs)

-- a price that all supporters can pay stays the price where the rests are lower
pub price_stays : (s : SupportView) (place : ℕ) → 0 < cost_in_parts s place → (big here : List ℕ) (p : PriceView) → NoRestRises big here
    → All (λ v. p.amount ≤ slice_index here v * p.payers) (supporters_at s place) → price_at s big place ≡ Some p → price_at s here place ≡ Some p
price_stays s place some big here p falls full e =
    sym (price_from_is_price s here place some (Some p)
    (price_in_stays s.grain (supporters_at s place) big here (cost_in_parts s place) p falls (λ k d below. (let mine = full k d below in omega (arith, mine)))
    (is_price_from_at s big place some (Some p) (sym e))))

-- no price is above all rests
pub price_within : (s : SupportView) (place : ℕ) → 0 < cost_in_parts s place → (rests : List ℕ) (voters share : ℕ) (p : PriceView) → NoRestRises (replicate voters share) rests
    → price_at s rests place ≡ Some p → p.amount ≤ share * p.payers
price_within s place some rests voters share p within e =
    let price = is_price_from_at s rests place some (Some p) (sym e) in
    let all : total_rest (supporters_at s place) rests ≤ paid_at (supporters_at s place) rests share =
    sum_by-le-sum_by (λ v. slice_index rests v) (λ v. min (slice_index rests v) share) (supporters_at s place)
    (λ v. (let low = at_most voters share v in omega (arith, within v, low))) in
    price_in_within s.grain (supporters_at s place) rests (cost_in_parts s place) p share
    (omega (arith, all, price_covers s.grain (supporters_at s place) rests (cost_in_parts s place) p price)) price
  where
    at_most : (voters share v : ℕ) → slice_index (replicate voters share) v ≤ share
    at_most voters share v = elim (cases_lt v voters) [
      | inl below ↦ omega (arith, get_or-replicate voters v share 0 below)
      | inr past ↦ omega (arith, get_or_past (replicate voters share) v 0 (let len = length-replicate voters share in omega arith))
    ]

-- what is at most a price within a share is within it
pub at_most_within : (q p : PriceView) (share : ℕ) → 1 ≤ q.payers → AtMost q p → p.amount ≤ share * p.payers → q.amount ≤ share * q.payers
at_most_within q p share some (inr same) within = subst (λ (r : PriceView). r.amount ≤ share * r.payers) (sym same) within
at_most_within q p share some (inl less) within =
    let payers : max 1 q.payers ≡ q.payers = omega (arith, some) in
    let right : p.amount * max 1 q.payers ≡ p.amount * q.payers = ap (λ n. p.amount * n) payers in
    let scaled : p.amount * q.payers ≤ share * p.payers * q.payers = mul-le-mul_right q.payers within in
    let more : share * q.payers * p.payers ≤ share * q.payers * max 1 p.payers = mul-le-mul_left (share * q.payers) (omega arith) in
    let below : max 1 p.payers * q.amount < max 1 p.payers * (share * q.payers) = omega (arith, less, right, scaled, more) in
    let strict = lt_of_mul-lt-mul_left (max 1 p.payers) below in omega (arith, strict)

-- rests are never above the largest share
pub below_largest : (voters : ℕ) (rests : List ℕ) → AreRests voters rests → NoRestRises (replicate voters largest_share) rests
below_largest voters rests h v = elim (cases_lt v voters) [
  | inl below ↦ (let bound = h.bounded v 0 (omega (arith, h.one_each)) in omega (arith, bound, get_or-replicate voters v largest_share 0 below))
  | inr past ↦ (let none = get_or_past rests v 0 (omega (arith, h.one_each)) in omega (arith, none))
]

-- all of a list of supporters can pay what is due, by number
pub pays_listed : (supporters rests : List ℕ) (p : PriceView) → All (λ v. p.amount ≤ slice_index rests v * p.payers) supporters
    → (v : ℕ) → is_listed supporters v ≡ true → due p ≤ slice_index rests v
pays_listed supporters rests p h v e =
    due_at_most p (slice_index rests v) (All-contains (λ w. p.amount ≤ slice_index rests w * p.payers) supporters v h (contains_from_listed supporters v e))

-- ---- a copy of the queue up to a share, so far

pub record Copying (share : ℕ) (queue copy later : List KeyView) : Type 0 where
  pub sound : (b : KeyView) → IsIn b copy → IsIn b queue
  pub known : (b : KeyView) → IsIn b later → IsIn b queue
  pub whole : (b : KeyView) → IsIn b queue → b.price.amount ≤ share * b.price.payers → IsIn b copy ⊎ IsIn b later
  pub rises : Rises copy

pub copying_open : (share : ℕ) (queue copy later : List KeyView) → copy ≡ [] → later ≡ queue → Copying share queue copy later
copying_open share queue copy later none all = record {
  sound = λ b i. absurd (subst (IsIn b) none i);
  known = λ b i. subst (IsIn b) all i;
  whole = λ b i _. inr (subst (IsIn b) (sym all) i);
  rises = subst Rises (sym none) tt;
}

module _ (share : ℕ) (queue copy later : List KeyView) (h : Copying share queue copy later) (k : KeyView) (rest : List KeyView) (head : later ≡ k ∷ rest) where
  known_later : (b : KeyView) → IsIn b rest → IsIn b queue
  known_later b i = h.known b (subst (IsIn b) (sym head) (inr i))

  pub copying_puts : (new : List KeyView) → new ≡ insert_key key_cmp copy k → IsStrictlySortedBy key_cmp new → Copying share queue new rest
  copying_puts new new_is sorted = record {
    sound = λ b i. elim (put_from k b copy (subst (IsIn b) new_is i)) [
      | inl old ↦ h.sound b old
      | inr same ↦ h.known b (subst (IsIn b) (sym head) (inl same))
    ];
    known = known_later;
    whole = λ b i low. elim (h.whole b i low) [
      | inl old ↦ inl (subst (IsIn b) (sym new_is) (put_keeps k b copy old))
      | inr new_one ↦ put_or_later b (subst (IsIn b) head new_one)
    ];
    rises = rises_from_sorted new sorted;
  }
    where
      put_or_later : (b : KeyView) → IsIn b (k ∷ rest) → IsIn b new ⊎ IsIn b rest
      put_or_later b (inl same) = inl (subst (IsIn b) (sym new_is) (subst (λ (c : KeyView). IsIn c (insert_key key_cmp copy k)) (sym same) (put_is_in k copy)))
      put_or_later b (inr i) = inr i

  pub copying_skips : share * k.price.payers < k.price.amount → Copying share queue copy rest
  copying_skips high = record {
    sound = h.sound;
    known = known_later;
    whole = λ b i low. elim (h.whole b i low) [
      | inl old ↦ inl old
      | inr new_one ↦ skipped b low (subst (IsIn b) head new_one)
    ];
    rises = h.rises;
  }
    where
      skipped : (b : KeyView) → b.price.amount ≤ share * b.price.payers → IsIn b (k ∷ rest) → IsIn b copy ⊎ IsIn b rest
      skipped b low (inl same) = (let here = subst (λ (c : KeyView). c.price.amount ≤ share * c.price.payers) same low in absurd (omega (arith, here, high)))
      skipped b low (inr i) = inr i

pub copying_ends : (share : ℕ) (queue copy later : List KeyView) → Copying share queue copy later → later ≡ [] → IsCopyUpTo share queue copy
copying_ends share queue copy later h none = record {
  sound = h.sound;
  whole = λ b i low. elim (h.whole b i low) [
    | inl old ↦ old
    | inr new_one ↦ absurd (subst (IsIn b) none new_one)
  ];
  rises = h.rises;
}

-- what the copy leaves out has no price where no rest is above the share
pub bounds_up_to : (m : Measure) (s : SupportView) → IsSupport s → (share : ℕ) (rests left : List ℕ) (queue copy : List KeyView) → NoRestRises (replicate s.voters share) rests
    → HasBounds m s rests left queue → IsCopyUpTo share queue copy → HasBounds m s rests left copy
bounds_up_to m s is share rests left queue copy within h kept = record {
  known = h.known;
  are_left = λ b i. h.are_left b (kept.sound b i);
  are_keys = λ b i. h.are_keys b (kept.sound b i);
  payers = λ b i. h.payers b (kept.sound b i);
  lower = λ b p i e. h.lower b p (kept.sound b i) e;
  one_each = λ b c i j same. h.one_each b c (kept.sound b i) (kept.sound c j) same;
  whole = λ place p listed e.
      let found = h.whole place p listed e in
      let low : AtMost found.0.price p = h.lower found.0 p found.1 (ap (price_at s rests) found.2 ∙ e) in
      let most = price_within s place (cost_positive s is place (h.known place listed)) rests s.voters share p within e in (
        found.0,
        kept.whole found.0 found.1 (at_most_within found.0.price p share (h.payers found.0 found.1).some low most),
        found.2,
      );
  rises = kept.rises;
}

pub within_more : (voters share more : ℕ) (rests : List ℕ) → length rests ≡ voters → (v : ℕ) → slice_index rests v ≤ slice_index (replicate voters share) v
    → slice_index (raised more rests) v ≤ slice_index (replicate voters (share + more)) v
within_more voters share more rests len v h = elim (cases_lt v voters) [
  | inl below ↦ omega (arith, h, raised_at more rests v (omega (arith, len)), get_or-replicate voters v share 0 below, get_or-replicate voters v (share + more) 0 below)
  | inr past ↦ omega (arith, raised_past more rests v (omega (arith, len)))
]
