-- Where no tie is told, no project was as good as the one that its round elected, and none is equal to an added one.
use Rattle.std.proofs.Common.{◌≡◌, ◌≢◌, ◌∙◌, ◌<◌, ◌+◌, ℕ, Bool, true, false, not, List, [], ◌∷◌, ◌++◌, Option, None, Some, ap, append_assoc, arith, get_or, inl, inr, length, map, refl, replicate, slice_index, subst, sym, take}
use Rattle.std.specs.Prelude.{◌*◌, ◌==◌, ◌&&◌, All, filter, flat_map}
use Rattle.std.specs.List.{range_with_len}
use Rattle.std.specs.Option.{option_map_or}
use Rattle.std.proofs.lemmas.Bool.{and_from, eq-eqb, eqb-false, false_from_ne_true, ne_eqb, not_from_false, or_from, true≢false}
use Rattle.std.proofs.lemmas.List.{get_or_default, length-append, length-map, take_more}
use Rattle.std.proofs.lemmas.List.Elements.{All-cons, All-nil, All-push}
use Rattle.std.proofs.lemmas.List.Folds.{list_any-append, list_any_none}
use Rattle.std.proofs.lemmas.List.FromFn.{get_or-range_with_len, length-range_with_len}
use Rattle.pb_core.specs.Election.{ProjectView}
use Rattle.pb_core.specs.Order.{position_in}
use Rattle.pb_core.proofs.Members.{in_filter}
use Rattle.pb_core.proofs.Orders.{order_known}
use Rattle.pb_price.proofs.Prices.{price_from_is_price}
use Rattle.pb_price.proofs.SupporterLists.{cost_positive}
use Rattle.pb_price.specs.Price.{PriceView, price_at}
use Rattle.pb_price.specs.Supporters.{SupportView, support_in, support_of}
use Rattle.pb_rounds.specs.Cheapest.{IsCheaper, IsRun, rests_after}
use Rattle.pb_rounds.specs.Count.{share_by, step_of}
use Rattle.pb_rounds.specs.MostVotes.{is_taken}
use Rattle.pb_rounds.specs.Run.{ElectedView, is_elected, weight_of}
use Rattle.pb_rounds.specs.declared.measure.Measure.{Measure}
use Rattle.pb_reasons.specs.AllTies.{added_ties, run_ties}
use Rattle.pb_reasons.specs.CountedElection.{CountedElectionView, IsCountedElection}
use Rattle.pb_reasons.specs.Inner.AllTies.{is_equal_to, round_ties, ties_at_added, told_with, with_other}
use Rattle.pb_reasons.specs.Inner.Rounds.{is_as_good}
use Rattle.pb_reasons.specs.Ties.{is_tied}
use Rattle.pb_reasons.specs.declared.told_tie.ToldTie.{ToldTie}
use Rattle.pb_reasons.proofs.Far.{told_of}
use Rattle.pb_reasons.proofs.Moved.{AreKnown, HaveNoEquals, IsLess}
use Rattle.pb_reasons.proofs.MovedAdded.{AreAlone}
use Rattle.pb_reasons.proofs.RoundTies.{added_rows, round_rows, run_rows, winner_known}
use Rattle.pb_reasons.proofs.Sorted.{place_back}

-- ---- lists of which nothing is left

pub none_of_both : {X : Type 0} (xs ys : List X) → xs ++ ys ≡ [] → (xs ≡ []) × (ys ≡ [])
none_of_both [] ys e = (refl, e)
none_of_both (x ∷ xs) ys e = let none = ap length e in absurd (omega (arith, none))

none_of_each : {X Y : Type 0} (f : X → List Y) (xs : List X) → flat_map f xs ≡ [] → All (λ x. f x ≡ []) xs
none_of_each f [] e = All-nil (λ x. f x ≡ [])
none_of_each f (x ∷ xs) e =
    let parts = none_of_both (f x) (flat_map f xs) e in
    All-cons (λ x. f x ≡ []) x xs parts.0 (none_of_each f xs parts.1)

pub none_at : {Y : Type 0} (f : ℕ → List Y) (n k : ℕ) → flat_map f (range_with_len 0 n) ≡ [] → k < n → f k ≡ []
none_at f n k none below =
    let here : get_or (range_with_len 0 n) k 0 ≡ k = get_or-range_with_len 0 n k 0 below ∙ omega arith in
    subst (λ i. f i ≡ []) here (none_of_each f (range_with_len 0 n) none k 0 (omega (arith, below, length-range_with_len 0 n)))

none_passes : {Y : Type 0} (p : ℕ → Bool) (f : ℕ → Y) (n k : ℕ) → map f (filter p (range_with_len 0 n)) ≡ [] → k < n → p k ≡ false
none_passes p f n k none below = false_from_ne_true (p k) (λ passes.
    let (i, within, here) = in_filter p n k below passes in
    let nothing = ap length none in
    omega (arith, within, length-map (filter p (range_with_len 0 n)) f, nothing))

-- ---- a list that is split

module _ {X : Type 0} where
  pub take_front : (before later : List X) → take (length before) (before ++ later) ≡ before
  take_front [] later = refl
  take_front (x ∷ before) later = ap (λ (xs : List X). x ∷ xs) (take_front before later)

  pub get_split : (before : List X) (x : X) (later : List X) (d : X) → get_or (before ++ x ∷ later) (length before) d ≡ x
  get_split [] x later d = refl
  get_split (y ∷ before) x later d = get_split before x later d

  module _ (xs before : List X) (x : X) (later : List X) (split : xs ≡ before ++ x ∷ later) where
    pub split_below : length before < length xs
    split_below = omega (arith, ap length split, length-append before (x ∷ later))

    pub split_front : take (length before) xs ≡ before
    split_front = ap (λ (zs : List X). take (length before) zs) split ∙ take_front before (x ∷ later)

    pub split_here : x ≡ get_or xs (length before) x
    split_here = sym (ap (λ (zs : List X). get_or zs (length before) x) split ∙ get_split before x later x)

    pub split_more : take (length before + 1) xs ≡ before ++ x ∷ []
    split_more =
        take_more xs (length before) x split_below
        ∙ ap (λ (zs : List X). zs ++ get_or xs (length before) x ∷ []) split_front
        ∙ ap (λ (y : X). before ++ y ∷ []) (sym split_here)

-- ---- whether a project is as good, and whether the other is less

tied_when : (m : Measure) (s : SupportView) (elected : List ElectedView) (rests : List ℕ) (w : ElectedView) (place : ℕ) (price : PriceView)
    → is_elected elected place ≡ false → price_at s rests place ≡ Some price
    → is_tied m s elected rests w place ≡ is_as_good m s w place price
tied_when m s elected rests w place price free priced =
    ap (λ (b : Bool). not b && option_map_or (is_as_good m s w place) (price_at s rests place) false) free
    ∙ ap (λ (o : Option PriceView). option_map_or (is_as_good m s w place) o false) priced

less_by : (m : Measure) (s : SupportView) (place : ℕ) (price : PriceView) (other : ℕ) (q : PriceView) → IsCheaper m s place price other q
    → q.amount * (price.payers * weight_of m s place) ≢ price.amount * (q.payers * weight_of m s other) → IsLess m s place price other q
less_by m s place price other q cheaper apart = elim cheaper [
  | inl less ↦ less
  | inr same ↦ absurd (apart (sym same.0))
]

not_elected : (elected : List ElectedView) (place : ℕ) → All (λ (w : ElectedView). w.place ≢ place) elected → is_elected elected place ≡ false
not_elected elected place apart = list_any_none (λ (w : ElectedView). w.place == place) elected (λ k d below. ne_eqb _ _ (apart k d below))

module _ (x : CountedElectionView) (is : IsCountedElection x) where
  abbrev s : SupportView
  s = support_in x.rule.options.grain x.election

  -- the same for most votes first, which counts in hundredths
  abbrev u : SupportView
  u = support_of x.election

  abbrev m : Measure
  m = x.rule.options.measure

  many : length s.costs ≡ length x.election.projects
  many = length-map x.election.projects (λ (p : ProjectView). p.cost)

  none_told : (first : ToldTie) (test : ℕ → Bool) → told_with x first test ≡ [] → (position : ℕ) → position < length x.election.projects → test position ≡ false
  none_told first test none position below =
      let within : position < length x.order = omega (arith, below, is.one_each) in
      let place = slice_index x.order position in
      ap test (sym (place_back x.order is.is_order position within))
      ∙ none_passes (λ k. test (position_in x.order k)) (λ k. with_other first (position_in x.order k)) (length x.election.projects) place none
      (omega (arith, order_known x.order is.is_order position 0 within, is.one_each))

  -- ---- in a run

  module _ (run share : ℕ) (elected : List ElectedView) (rests : List ℕ) (words : IsRun m s share elected rests)
      (share_is : share ≡ share_by x.rule.options.completion x.rule.options.grain x.election (step_of x.election x.rule.options) run) where
    pub elected_known : AreKnown s elected
    elected_known = λ k d below. winner_known x is run share elected rests words k (get_or elected k d) below (get_or_default elected k d (get_or elected k d) below)

    abbrev rests_at : List ElectedView → List ℕ
    rests_at before = rests_after s (replicate s.voters share) before

    module _ (none : run_ties x run ≡ []) where
      none_in_round : (i : ℕ) (w : ElectedView) → i < length elected → w ≡ get_or elected i w → (position : ℕ) → position < length x.election.projects
          → is_tied m s (take (i + 1) elected) (rests_at (take i elected)) w position ≡ false
      none_in_round i w below w_is position known =
          let test = is_tied m s (take (i + 1) elected) (rests_at (take i elected)) w in
          let first : ToldTie = record { run = run; number = i + 1; tie = record { round = Some (i + 1); winner = w.place; other = w.place } } in
          let nothing : round_ties x run share elected i ≡ [] =
          none_at (round_ties x run share elected) (length elected) i (run_rows x is run share elected rests words share_is ∙ none) below in
          none_told first test
          (sym (told_of x first test (length s.costs) is many) ∙ (round_rows x is run share elected i w below w_is (rests_at (take i elected)) refl ∙ nothing))
          position known

      none_at_split : (before : List ElectedView) (w : ElectedView) (later : List ElectedView) → elected ≡ before ++ w ∷ later → (position : ℕ)
          → position < length x.election.projects → is_tied m s (before ++ w ∷ []) (rests_at before) w position ≡ false
      none_at_split before w later split position known =
          let one = none_in_round (length before) w (split_below elected before w later split) (split_here elected before w later split) position known in
          subst (λ (ws : List ElectedView). is_tied m s ws (rests_at before) w position ≡ false) (split_more elected before w later split)
          (subst (λ (ws : List ElectedView). is_tied m s (take (length before + 1) elected) (rests_at ws) w position ≡ false) (split_front elected before w later split) one)

      pub no_equals : HaveNoEquals m s share elected
      no_equals before w later split other price left apart priced =
          let free =
          not_elected (before ++ w ∷ []) other (All-push (λ (v : ElectedView). v.place ≢ other) before w left.1 (λ same. apart (sym same))) in
          let at = sym (price_from_is_price s (rests_at before) other (cost_positive s words.is_support other left.0) (Some price) priced) in
          let none_here = none_at_split before w later split other (omega (arith, left.0, many)) in
          less_by m s w.place w.exact other price ((words.cheapest before w later split).cheapest other price left apart priced)
          (eqb-false _ _ (sym (tied_when m s (before ++ w ∷ []) (rests_at before) w other price free at) ∙ none_here))

  -- ---- among the added

  module _ (none : added_ties x ≡ []) where
    abbrev elected_places : List ℕ
    elected_places = map (λ (w : ElectedView). w.place) x.counted.outcome.elected

    none_equal : (number winner : ℕ) (taken : List ℕ) → number < length x.counted.added
        → taken ≡ elected_places ++ take (number + 1) x.counted.added → winner ≡ slice_index x.counted.added number
        → (position : ℕ) → position < length x.election.projects → is_equal_to u taken winner position ≡ false
    none_equal number winner taken below taken_is winner_is position known =
        let first : ToldTie = record { run = x.counted.outcome.raised; number = number + 1; tie = record { round = None; winner = winner; other = winner } } in
        let nothing : ties_at_added x number ≡ [] = none_at (ties_at_added x) (length x.counted.added) number none below in
        none_told first (is_equal_to u taken winner)
        (sym (told_of x first (is_equal_to u taken winner) (length u.costs) is many) ∙ (added_rows x is number winner taken taken_is winner_is ∙ nothing))
        position known

    pub none_alike : AreAlone u elected_places x.counted.added
    none_alike before place later split other known free apart votes cost =
        let added = x.counted.added in
        let taken = elected_places ++ (before ++ place ∷ []) in
        let taken_is : taken ≡ elected_places ++ take (length before + 1) added =
        ap (λ (xs : List ℕ). elected_places ++ xs) (sym (split_more added before place later split)) in
        let here : place ≡ slice_index added (length before) =
        split_here added before place later split ∙ get_or_default added (length before) place 0 (split_below added before place later split) in
        let unequal = none_equal (length before) place taken (split_below added before place later split) taken_is here other (omega (arith, known, many)) in
        let still_free : is_taken taken other ≡ false =
        ap (λ (xs : List ℕ). is_taken xs other) (sym (append_assoc elected_places before (place ∷ [])))
        ∙ (list_any-append (λ p. p == other) (elected_places ++ before) (place ∷ [])
        ∙ or_from _ _ free (or_from _ _ (ne_eqb place other (λ same. apart (sym same))) refl)) in
        let equal : is_equal_to u taken place other ≡ true =
        and_from _ _ (not_from_false _ still_free) (and_from _ _ (eq-eqb _ _ votes) (eq-eqb _ _ cost)) in
        true≢false (sym equal ∙ unequal)
