-- What each category has of the winners, as they are added up one after the other.
use Rattle.std.proofs.Common.{◌≡◌, ◌≢◌, ◌<◌, ◌≤◌, ◌+◌, ℕ, Bool, true, false, cond, eqb, List, [], ◌∷◌, ◌++◌, append-nil, get_or, length, map, not, replicate, set, take, refl, sym, ◌∙◌, ap, inl, inr, arith}
use Rattle.std.specs.Prelude.{slice_index, slice_index_or, sum_by}
use Rattle.std.specs.List.{range_with_len}
use Rattle.std.proofs.lemmas.Bool.{cases_eq, eq-eqb, ne_eqb}
use Rattle.std.proofs.lemmas.List.{ext_get_or, get_or_default, get_or-replicate, get_or-set_other, get_or-set_same, length-append, length-replicate, length-set, length-take}
use Rattle.std.proofs.lemmas.List.Elements.{filter_more}
use Rattle.std.proofs.lemmas.List.Filters.{length-filter_both, sum_by-filter_both}
use Rattle.std.proofs.lemmas.List.FromFn.{get_or-map-range_with_len, length-map-range_with_len}
use Rattle.std.proofs.lemmas.List.Sums.{sum_by-take-le, sum_by_push}
use Rattle.pb_page.specs.Inner.Counted.{in_category, winners_in}
use Rattle.pb_page.specs.declared.categories.Categories.{Categories}
use Rattle.pb_page.specs.declared.in_category.InCategory.{InCategory}
use Rattle.pb_price.specs.Supporters.{cost_at, support_of}
use Rattle.pb_reasons.specs.CountedElection.{CountedElectionView}

-- no winner and no money
abbrev pub nothing : InCategory
nothing = record { winners = 0; cost = 0 }

-- what a category has once one more winner of it is taken
abbrev pub with_one : InCategory → ℕ → InCategory
with_one sum cost = record { winners = sum.winners + 1; cost = sum.cost + cost }

-- what a category has, as it is read
pub sum_is : (x : CountedElectionView) (g : Categories) (winners : List ℕ) (sums : List InCategory) (k : ℕ) (sum : InCategory)
    → sums ≡ map (in_category x g winners) (range_with_len 0 (length g.names.now)) → k < length sums → sum ≡ get_or sums k sum → sum ≡ in_category x g winners k
sum_is x g winners sums k sum all below is =
    let f = in_category x g winners in let n = length g.names.now in
    let short : k < n = omega (arith, below, ap length all, length-map-range_with_len f 0 n) in
    is ∙ get_or_default sums k sum nothing below ∙ ap (λ (xs : List InCategory). get_or xs k nothing) all
    ∙ get_or-map-range_with_len f 0 n k k nothing short (omega arith)

module _ (x : CountedElectionView) (g : Categories) (winners : List ℕ) where
  -- the number of a project's category
  abbrev pub number_at : ℕ → ℕ
  number_at place = slice_index_or g.of_project.now (slice_index x.order place) (length g.names.now)

  -- what the categories have of the first winners
  abbrev pub sums_at : ℕ → List InCategory
  sums_at i = map (in_category x g (take i winners)) (range_with_len 0 (length g.names.now))

  -- before the first winner
  pub sums_none : (sums : List InCategory) → sums ≡ replicate (length g.names.now) nothing → sums ≡ sums_at 0
  sums_none sums start =
      let n = length g.names.now in
      ext_get_or nothing sums (sums_at 0)
      (ap length start ∙ length-replicate n nothing ∙ sym (length-map-range_with_len (in_category x g []) 0 n))
      (λ k below.
      let short : k < n = omega (arith, below, ap length start, length-replicate n nothing) in
      ap (λ (xs : List InCategory). get_or xs k nothing) start ∙ get_or-replicate n k nothing nothing short
      ∙ sym (get_or-map-range_with_len (in_category x g []) 0 n k k nothing short (omega arith)))

  module _ (i place : ℕ) (below : i < length winners) (here : place ≡ get_or winners i place) where
    -- one winner more
    winners_more : (k : ℕ) → winners_in x g (take (i + 1) winners) k ≡ winners_in x g (take i winners) k ++ cond (eqb (number_at place) k) (place ∷ []) []
    winners_more k =
        filter_more (λ p. eqb (number_at p) k) winners i place below
        ∙ ap (λ (p : ℕ). winners_in x g (take i winners) k ++ cond (eqb (number_at p) k) (p ∷ []) []) (sym here)

    other_same : (k : ℕ) → k ≢ number_at place → in_category x g (take (i + 1) winners) k ≡ in_category x g (take i winners) k
    other_same k other =
        let miss : eqb (number_at place) k ≡ false = ne_eqb (number_at place) k (λ same. other (sym same)) in
        let kept : winners_in x g (take (i + 1) winners) k ≡ winners_in x g (take i winners) k =
        winners_more k ∙ ap (λ (b : Bool). winners_in x g (take i winners) k ++ cond b (place ∷ []) []) miss ∙ append-nil _ in
        ap (λ (those : List ℕ). record { winners = length those; cost = sum_by (cost_at (support_of x.election)) those }) kept

    own_more : in_category x g (take (i + 1) winners) (number_at place) ≡ with_one (in_category x g (take i winners) (number_at place)) (cost_at (support_of x.election) place)
    own_more =
        let k = number_at place in
        let f = cost_at (support_of x.election) in
        let before = winners_in x g (take i winners) k in
        let hit : eqb k k ≡ true = eq-eqb k k refl in
        let more : winners_in x g (take (i + 1) winners) k ≡ before ++ place ∷ [] = winners_more k ∙ ap (λ (b : Bool). before ++ cond b (place ∷ []) []) hit in
        ap (λ (those : List ℕ). record { winners = length those; cost = sum_by f those }) more
        ∙ ap (λ (n : ℕ). record { winners = n; cost = sum_by f (before ++ place ∷ []) }) (length-append before (place ∷ []))
        ∙ ap (λ (n : ℕ). record { winners = length before + 1; cost = n }) (sum_by_push f before place)

    -- where its category is none of these, nothing changes
    pub sums_same : (sums : List InCategory) → sums ≡ sums_at i → length sums ≤ number_at place → sums ≡ sums_at (i + 1)
    sums_same sums so_far past =
        let n = length g.names.now in
        let long : length sums ≡ n = ap length so_far ∙ length-map-range_with_len (in_category x g (take i winners)) 0 n in
        ext_get_or nothing sums (sums_at (i + 1)) (long ∙ sym (length-map-range_with_len (in_category x g (take (i + 1) winners)) 0 n))
        (λ k inside.
        let short : k < n = omega (arith, inside, long) in
        ap (λ (xs : List InCategory). get_or xs k nothing) so_far
        ∙ get_or-map-range_with_len (in_category x g (take i winners)) 0 n k k nothing short (omega arith)
        ∙ sym (other_same k (λ same. omega (arith, same, inside, past)))
        ∙ sym (get_or-map-range_with_len (in_category x g (take (i + 1) winners)) 0 n k k nothing short (omega arith)))

    -- what its category has so far
    pub sum_so_far : (sums : List InCategory) → sums ≡ sums_at i → number_at place < length sums
        → get_or sums (number_at place) nothing ≡ in_category x g (take i winners) (number_at place)
    sum_so_far sums so_far inside =
        let n = length g.names.now in
        let long : length sums ≡ n = ap length so_far ∙ length-map-range_with_len (in_category x g (take i winners)) 0 n in
        ap (λ (xs : List InCategory). get_or xs (number_at place) nothing) so_far
        ∙ get_or-map-range_with_len (in_category x g (take i winners)) 0 n (number_at place) (number_at place) nothing (omega (arith, inside, long)) (omega arith)

    pub sums_more : (sums new : List InCategory) → sums ≡ sums_at i → number_at place < length sums
        → new ≡ set sums (number_at place) (with_one (get_or sums (number_at place) nothing) (cost_at (support_of x.election) place)) → new ≡ sums_at (i + 1)
    sums_more sums new so_far inside put =
        let n = length g.names.now in
        let cost = cost_at (support_of x.election) place in
        let own = with_one (get_or sums (number_at place) nothing) cost in
        let long : length sums ≡ n = ap length so_far ∙ length-map-range_with_len (in_category x g (take i winners)) 0 n in
        let long_too : length new ≡ n = ap length put ∙ length-set sums (number_at place) own ∙ long in
        ext_get_or nothing new (sums_at (i + 1)) (long_too ∙ sym (length-map-range_with_len (in_category x g (take (i + 1) winners)) 0 n))
        (λ k below_k.
        let short : k < n = omega (arith, below_k, long_too) in
        let after : get_or (sums_at (i + 1)) k nothing ≡ in_category x g (take (i + 1) winners) k =
        get_or-map-range_with_len (in_category x g (take (i + 1) winners)) 0 n k k nothing short (omega arith) in
        let is : get_or new k nothing ≡ in_category x g (take (i + 1) winners) k = elim (cases_eq k (number_at place)) [
          | inl same ↦
              let put_there : get_or new k nothing ≡ own = rw (put, same) (get_or-set_same sums (number_at place) own nothing inside) in
              put_there ∙ ap (λ (sum : InCategory). with_one sum cost) (sum_so_far sums so_far inside) ∙ sym own_more
              ∙ ap (in_category x g (take (i + 1) winners)) (sym same)
          | inr other ↦
              ap (λ (xs : List InCategory). get_or xs k nothing) put ∙ get_or-set_other sums (number_at place) k own nothing other
              ∙ ap (λ (xs : List InCategory). get_or xs k nothing) so_far
              ∙ get_or-map-range_with_len (in_category x g (take i winners)) 0 n k k nothing short (omega arith)
              ∙ sym (other_same k other)
        ] in
        is ∙ sym after)

    -- one more winner of the category is still a winner, and the budget still pays for it
    pub winners_fit : (sums : List InCategory) → sums ≡ sums_at i → number_at place < length sums
        → (get_or sums (number_at place) nothing).winners + 1 ≤ length winners
    winners_fit sums so_far inside =
        let p : ℕ → Bool = λ q. eqb (number_at q) (number_at place) in
        let so = ap (λ (s : InCategory). s.winners) (sum_so_far sums so_far inside) in
        let more = ap (λ (s : InCategory). s.winners) own_more in
        let all = length-filter_both p (λ q. not (p q)) (λ q. refl) (take (i + 1) winners) in
        omega (arith, so, more, all, length-take (i + 1) winners)

    pub cost_fits : (sums : List InCategory) → sums ≡ sums_at i → number_at place < length sums
        → (get_or sums (number_at place) nothing).cost + cost_at (support_of x.election) place ≤ sum_by (cost_at (support_of x.election)) winners
    cost_fits sums so_far inside =
        let f = cost_at (support_of x.election) in
        let p : ℕ → Bool = λ q. eqb (number_at q) (number_at place) in
        let so = ap (λ (s : InCategory). s.cost) (sum_so_far sums so_far inside) in
        let more = ap (λ (s : InCategory). s.cost) own_more in
        let all = sum_by-filter_both p (λ q. not (p q)) (λ q. refl) f (take (i + 1) winners) in
        omega (arith, so, more, all, sum_by-take-le f winners (i + 1))

    -- what is read of its category, and put there
    read_there : (sums : List InCategory) (number : ℕ) (sum : InCategory) → number ≡ number_at place → number < length sums
        → sum ≡ get_or sums number sum → sum ≡ get_or sums (number_at place) nothing
    read_there sums number sum own inside is =
        is ∙ get_or_default sums number sum nothing inside ∙ ap (λ (n : ℕ). get_or sums n nothing) own

    pub sum_fits : (sums : List InCategory) (number cost : ℕ) (sum : InCategory) → sums ≡ sums_at i → number ≡ number_at place
        → cost ≡ cost_at (support_of x.election) place → number < length sums → sum ≡ get_or sums number sum
        → (sum.winners + 1 ≤ length winners) × (sum.cost + cost ≤ sum_by (cost_at (support_of x.election)) winners)
    sum_fits sums number cost sum so_far own cost_is inside is =
        let there : number_at place < length sums = omega (arith, own, inside) in
        let read = read_there sums number sum own inside is in (
          omega (arith, winners_fit sums so_far there, ap (λ (s : InCategory). s.winners) read),
          omega (arith, cost_fits sums so_far there, ap (λ (s : InCategory). s.cost) read, cost_is),
        )

    pub sums_put : (sums new : List InCategory) (number cost : ℕ) (sum put : InCategory) → sums ≡ sums_at i → number ≡ number_at place
        → cost ≡ cost_at (support_of x.election) place → number < length sums → sum ≡ get_or sums number sum
        → put ≡ with_one sum cost → new ≡ set sums number put → new ≡ sums_at (i + 1)
    sums_put sums new number cost sum put so_far own cost_is inside is put_is new_is =
        let there : number_at place < length sums = omega (arith, own, inside) in
        let read = read_there sums number sum own inside is in
        let value : put ≡ with_one (get_or sums (number_at place) nothing) (cost_at (support_of x.election) place) =
        put_is ∙ ap (λ (s : InCategory). with_one s cost) read ∙ ap (λ (n : ℕ). with_one (get_or sums (number_at place) nothing) n) cost_is in
        sums_more sums new so_far there
        (new_is ∙ ap (λ (n : ℕ). set sums n put) own ∙ ap (λ (s : InCategory). set sums (number_at place) s) value)
