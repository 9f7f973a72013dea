-- The projects of an election in another order, and the runs of it where no round has an equal.
use Rattle.std.proofs.Common.{◌≡◌, ◌≢◌, ◌∙◌, ◌<◌, ℕ, List, [], ◌∷◌, ◌++◌, Option, Some, None, ap, arith, get_or, inl, length, map, refl, replicate, subst, sym}
use Rattle.std.specs.Prelude.{◌*◌, All, MatchOption}
use Rattle.std.proofs.lemmas.List.{get_or-map, length-map}
use Rattle.std.proofs.lemmas.List.Elements.{All-cons, All-head, All-map, All-nil, All-tail}
use Rattle.std.proofs.lemmas.List.Sums.{sum_by-cons}
use Rattle.pb_price.specs.Grain.{in_parts}
use Rattle.pb_price.specs.Price.{IsPrice, IsPriceIn, PriceView, paid_at, total_rest}
use Rattle.pb_price.specs.Supporters.{IsSupport, SupportView, cost_at, cost_in_parts, supporters_at}
use Rattle.pb_price.specs.declared.grain.Grain.{Grain}
use Rattle.pb_rounds.specs.Cheapest.{IsCheaper, IsLeft, IsRun, WasCheapest, rests_after}
use Rattle.pb_rounds.specs.Completed.{IsExhausted}
use Rattle.pb_rounds.specs.Count.{spent_on}
use Rattle.pb_rounds.specs.Run.{ElectedView, charged, weight_of}
use Rattle.pb_rounds.specs.declared.measure.Measure.{Measure}
use Rattle.pb_rounds.specs.declared.measure.Measure.TheVariants.{Votes, Cost}

-- the second has the projects of the first in another order: the position of each place, and the place at each position
pub record AreMoved (s t : SupportView) (to back : ℕ → ℕ) : Type 0 where
  pub as_many : length t.costs ≡ length s.costs
  pub same_grain : t.grain ≡ s.grain
  pub same_voters : t.voters ≡ s.voters
  pub put : (place : ℕ) → place < length s.costs → (to place < length s.costs) × (back (to place) ≡ place)
  pub stands : (position : ℕ) → position < length s.costs → (back position < length s.costs) × (to (back position) ≡ position)
  pub supporters : (position : ℕ) → position < length s.costs → supporters_at t position ≡ supporters_at s (back position)
  pub costs : (position : ℕ) → position < length s.costs → cost_at t position ≡ cost_at s (back position)

-- an elected project by its position
abbrev pub renamed : (ℕ → ℕ) → ElectedView → ElectedView
renamed to w = record { place = to w.place; price = w.price; exact = w.exact; collected = w.collected }

abbrev pub AreKnown : SupportView → List ElectedView → Type 0
AreKnown s elected = All (λ (w : ElectedView). w.place < length s.costs) elected

-- the price is less, for its cost under measure cost
abbrev pub IsLess : Measure → SupportView → (place : ℕ) (price : PriceView) (other : ℕ) (other_price : PriceView) → Type 0
IsLess m s place price other other_price =
    price.amount * (other_price.payers * weight_of m s other) < other_price.amount * (price.payers * weight_of m s place)

-- each of the elected was better than all that were left
abbrev pub HaveNoEquals : Measure → SupportView → (share : ℕ) → List ElectedView → Type 0
HaveNoEquals m s share elected = (before : List ElectedView) (w : ElectedView) (later : List ElectedView) → elected ≡ before ++ w ∷ later
    → (other : ℕ) (price : PriceView) → IsLeft s before other → other ≢ w.place
    → IsPrice s (rests_after s (replicate s.voters share) before) other (Some price) → IsLess m s w.place w.exact other price

-- ---- lists that are split

pub head_same : {X : Type 0} (x y : X) (xs ys : List X) → x ∷ xs ≡ y ∷ ys → x ≡ y
head_same x y xs ys e = cc

pub tail_same : {X : Type 0} (x y : X) (xs ys : List X) → x ∷ xs ≡ y ∷ ys → xs ≡ ys
tail_same x y xs ys e = cc

none_is_split : {X : Type 0} (before : List X) (y : X) (later : List X) → [] ≡ before ++ y ∷ later → ⊥
none_is_split [] y later e = cc
none_is_split (b ∷ before) y later e = cc

-- where the list of what a function gives is split, so is the list that it is of
pub record IsSplit {X Y : Type 0} (f : X → Y) (xs : List X) (before : List Y) (y : Y) : Type 0 where
  pub front : List X
  pub here : X
  pub rest : List X
  pub split : xs ≡ front ++ here ∷ rest
  pub front_is : before ≡ map f front
  pub here_is : y ≡ f here

pub split_map : {X Y : Type 0} (f : X → Y) (xs : List X) (before : List Y) (y : Y) (later : List Y) → map f xs ≡ before ++ y ∷ later
    → IsSplit f xs before y
split_map f [] before y later e = absurd (none_is_split before y later e)
split_map f (x ∷ xs) [] y later e = record {
  front = [];
  here = x;
  rest = xs;
  split = refl;
  front_is = refl;
  here_is = sym (head_same (f x) y (map f xs) later e);
}
split_map {Y = Y} f (x ∷ xs) (b ∷ before) y later e =
    let found = split_map f xs before y later (tail_same (f x) b (map f xs) (before ++ y ∷ later) e) in
    record {
      front = x ∷ found.front;
      here = found.here;
      rest = found.rest;
      split = ap (λ zs. x ∷ zs) found.split;
      front_is = ap (λ (c : Y). c ∷ before) (sym (head_same (f x) b (map f xs) (before ++ y ∷ later) e)) ∙ ap (λ zs. f x ∷ zs) found.front_is;
      here_is = found.here_is;
    }

pub All-front : {X : Type 0} (P : X → Type 0) (xs ys : List X) → All P (xs ++ ys) → All P xs
All-front P [] ys all = All-nil P
All-front P (x ∷ xs) ys all = All-cons P x xs (All-head P x (xs ++ ys) all) (All-front P xs ys (All-tail P x (xs ++ ys) all))

-- ---- what has the same supporters, at the same cost, has the same price

abbrev IsPriceOf : Grain → (supporters rests : List ℕ) (cost : ℕ) → Option PriceView → Type 0
IsPriceOf grain supporters rests cost answer = MatchOption answer (total_rest supporters rests < cost) (IsPriceIn grain supporters rests cost)

same_parts : (s t : SupportView) (a b : ℕ) → t.grain ≡ s.grain → t.voters ≡ s.voters → cost_at t b ≡ cost_at s a → cost_in_parts t b ≡ cost_in_parts s a
same_parts s t a b grain voters cost =
    ap (λ (g : Grain). in_parts g t.voters (cost_at t b)) grain ∙ ap (λ n. in_parts s.grain n (cost_at t b)) voters ∙ ap (in_parts s.grain s.voters) cost

same_price_there : (s t : SupportView) (a b : ℕ) → t.grain ≡ s.grain → t.voters ≡ s.voters → cost_at t b ≡ cost_at s a → supporters_at t b ≡ supporters_at s a
    → (rests : List ℕ) (answer : Option PriceView) → IsPrice s rests a answer → IsPrice t rests b answer
same_price_there s t a b grain voters cost supporters rests answer is =
    subst (λ (g : Grain). IsPriceOf g (supporters_at t b) rests (cost_in_parts t b) answer) (sym grain)
    (subst (λ (n : ℕ). IsPriceOf s.grain (supporters_at t b) rests n answer) (sym (same_parts s t a b grain voters cost))
    (subst (λ (xs : List ℕ). IsPriceOf s.grain xs rests (cost_in_parts s a) answer) (sym supporters) is))

-- ---- what is so of the places is so of the positions

module _ (s t : SupportView) (to back : ℕ → ℕ) (h : AreMoved s t to back) where
  pub supporters_put : (place : ℕ) → place < length s.costs → supporters_at t (to place) ≡ supporters_at s place
  supporters_put place known = let at = h.put place known in h.supporters (to place) at.0 ∙ ap (supporters_at s) at.1

  pub cost_put : (place : ℕ) → place < length s.costs → cost_at t (to place) ≡ cost_at s place
  cost_put place known = let at = h.put place known in h.costs (to place) at.0 ∙ ap (cost_at s) at.1

  weight_put : (m : Measure) (place : ℕ) → place < length s.costs → weight_of m t (to place) ≡ weight_of m s place
  weight_put Votes place known = refl
  weight_put Cost place known = cost_put place known

  weight_there : (m : Measure) (position : ℕ) → position < length s.costs → weight_of m t position ≡ weight_of m s (back position)
  weight_there Votes position known = refl
  weight_there Cost position known = h.costs position known

  price_put : (place : ℕ) → place < length s.costs → (rests : List ℕ) (answer : Option PriceView) → IsPrice s rests place answer → IsPrice t rests (to place) answer
  price_put place known = same_price_there s t place (to place) h.same_grain h.same_voters (cost_put place known) (supporters_put place known)

  price_there : (position : ℕ) → position < length s.costs → (rests : List ℕ) (answer : Option PriceView) → IsPrice s rests (back position) answer
      → IsPrice t rests position answer
  price_there position known = same_price_there s t (back position) position h.same_grain h.same_voters (h.costs position known) (h.supporters position known)

  price_back : (position : ℕ) → position < length s.costs → (rests : List ℕ) (answer : Option PriceView) → IsPrice t rests position answer
      → IsPrice s rests (back position) answer
  price_back position known =
      same_price_there t s position (back position) (sym h.same_grain) (sym h.same_voters) (sym (h.costs position known)) (sym (h.supporters position known))

  left_put : (before : List ElectedView) → AreKnown s before → (place : ℕ) → IsLeft s before place → IsLeft t (map (renamed to) before) (to place)
  left_put before known place left =
      let at = h.put place left.0 in (
        omega (arith, at.0, h.as_many),
        All-map (λ (w : ElectedView). w.place ≢ to place) (renamed to) before
            (λ k d below same. left.1 k d below (sym ((h.put (get_or before k d).place (known k d below)).1) ∙ (ap back same ∙ at.1))),
      )

  left_back : (before : List ElectedView) (position : ℕ) → IsLeft t (map (renamed to) before) position → IsLeft s before (back position)
  left_back before position left =
      let known : position < length s.costs = omega (arith, left.0, h.as_many) in
      let at = h.stands position known in (
        at.0,
        λ k d below same.
            let there : get_or (map (renamed to) before) k d ≡ renamed to (get_or before k d) = get_or-map (renamed to) before k d d below in
            left.1 k d (omega (arith, below, length-map before (renamed to))) (ap (λ (w : ElectedView). w.place) there ∙ (ap to same ∙ at.1)),
      )

  rests_put : (rests : List ℕ) (elected : List ElectedView) → AreKnown s elected → rests_after t rests (map (renamed to) elected) ≡ rests_after s rests elected
  rests_put rests [] known = refl
  rests_put rests (w ∷ elected) known =
      ap (λ (xs : List ℕ). rests_after t (charged xs w.price rests) (map (renamed to) elected))
      (supporters_put w.place (All-head (λ (v : ElectedView). v.place < length s.costs) w elected known))
      ∙ rests_put (charged (supporters_at s w.place) w.price rests) elected (All-tail (λ (v : ElectedView). v.place < length s.costs) w elected known)

  pub spent_put : (elected : List ElectedView) → AreKnown s elected → spent_on t (map (renamed to) elected) ≡ spent_on s elected
  spent_put [] known = refl
  spent_put (w ∷ elected) known =
      let here = cost_put w.place (All-head (λ (v : ElectedView). v.place < length s.costs) w elected known) in
      let later = spent_put elected (All-tail (λ (v : ElectedView). v.place < length s.costs) w elected known) in
      let there = sum_by-cons (λ (v : ElectedView). cost_at t v.place) (renamed to w) (map (renamed to) elected) in
      let own = sum_by-cons (λ (v : ElectedView). cost_at s v.place) w elected in
      omega (arith, here, later, there, own)

  -- ---- a round, and a run

  cheaper_put : (m : Measure) (place : ℕ) (price : PriceView) (other : ℕ) (other_price : PriceView) → place < length s.costs → other < length s.costs
      → IsLess m s place price (back other) other_price → IsCheaper m t (to place) price other other_price
  cheaper_put m place price other other_price known below less =
      inl (subst (λ (n : ℕ). price.amount * (other_price.payers * n) < other_price.amount * (price.payers * weight_of m t (to place))) (sym (weight_there m other below))
      (subst (λ (n : ℕ). price.amount * (other_price.payers * weight_of m s (back other)) < other_price.amount * (price.payers * n)) (sym (weight_put m place known)) less))

  module _ (m : Measure) where
    was_put : (rests : List ℕ) (before : List ElectedView) (w : ElectedView) → AreKnown s before → WasCheapest m s rests before w
        → ((other : ℕ) (price : PriceView) → IsLeft s before other → other ≢ w.place → IsPrice s rests other (Some price) → IsLess m s w.place w.exact other price)
        → WasCheapest m t rests (map (renamed to) before) (renamed to w)
    was_put rests before w known was no_equal =
        let here = was.was_left.0 in
        record {
          was_left = left_put before known w.place was.was_left;
          priced = price_put w.place here rests (Some w.exact) was.priced;
          rounded = was.rounded;
          collected = was.collected ∙ ap (λ (xs : List ℕ). paid_at xs rests w.price) (sym (supporters_put w.place here));
          cheapest = λ other price left apart priced.
              let below : other < length s.costs = omega (arith, left.0, h.as_many) in
              let at = h.stands other below in
              cheaper_put m w.place w.exact other price here below
              (no_equal (back other) price (left_back before other left) (λ same. apart (sym at.1 ∙ ap to same)) (price_back other below rests (Some price) priced));
        }

    module _ (share : ℕ) where
      start_put : (elected : List ElectedView) → AreKnown s elected
          → rests_after t (replicate t.voters share) (map (renamed to) elected) ≡ rests_after s (replicate s.voters share) elected
      start_put elected known =
          ap (λ (v : ℕ). rests_after t (replicate v share) (map (renamed to) elected)) h.same_voters ∙ rests_put (replicate s.voters share) elected known

      -- where no round has an equal, a run elects the same in any order
      pub run_put : (elected : List ElectedView) (rests : List ℕ) → AreKnown s elected → IsSupport t → IsRun m s share elected rests
          → HaveNoEquals m s share elected → IsRun m t share (map (renamed to) elected) rests
      run_put elected rests known support run no_equals = record {
        cheapest = λ before w later e.
            let found = split_map (renamed to) elected before w later e in
            let front_known : AreKnown s found.front =
            All-front (λ (v : ElectedView). v.place < length s.costs) found.front (found.here ∷ found.rest)
            (subst (All (λ (v : ElectedView). v.place < length s.costs)) found.split known) in
            let was =
            was_put (rests_after s (replicate s.voters share) found.front) found.front found.here front_known
            (run.cheapest found.front found.here found.rest found.split) (no_equals found.front found.here found.rest found.split) in
            subst (λ (v : ElectedView). WasCheapest m t (rests_after t (replicate t.voters share) before) before v) (sym found.here_is)
            (subst (λ (b : List ElectedView). WasCheapest m t (rests_after t (replicate t.voters share) b) b (renamed to found.here)) (sym found.front_is)
            (subst (λ (r : List ℕ). WasCheapest m t r (map (renamed to) found.front) (renamed to found.here)) (sym (start_put found.front front_known)) was));
        rests_are = run.rests_are ∙ sym (start_put elected known);
        none_left = λ position left.
            let below : position < length s.costs = omega (arith, left.0, h.as_many) in
            price_there position below rests None (run.none_left (back position) (left_back elected position left));
        is_support = support;
      }

  -- ---- what exhausts the budget

  module _ (budget : ℕ) (elected : List ElectedView) (known : AreKnown s elected) where
    pub exhausted_put : IsExhausted s budget elected → IsExhausted t budget (map (renamed to) elected)
    exhausted_put ended = record {
      within = omega (arith, spent_put elected known, ended.within);
      no_room = λ position left supported.
          let below : position < length s.costs = omega (arith, left.0, h.as_many) in
          let room = ended.no_room (back position) (left_back elected position left) (subst (λ (xs : List ℕ). 0 < length xs) (h.supporters position below) supported) in
          omega (arith, room, spent_put elected known, h.costs position below);
    }

    pub exhausted_back : IsExhausted t budget (map (renamed to) elected) → IsExhausted s budget elected
    exhausted_back ended = record {
      within = omega (arith, spent_put elected known, ended.within);
      no_room = λ place left supported.
          let room = ended.no_room (to place) (left_put elected known place left) (subst (λ (xs : List ℕ). 0 < length xs) (sym (supporters_put place left.0)) supported) in
          omega (arith, room, spent_put elected known, cost_put place left.0);
    }
