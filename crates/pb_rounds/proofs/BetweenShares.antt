-- That every share between two elects the same, where the larger one keeps electing what the smaller one elects.
-- For the same elected before, rests grow with the share, and so prices fall. In between the winner's price is at most that of
-- the smaller share, and the others' prices are at least those of the larger one.
use Rattle.std.proofs.Common.{◌≡◌, ℕ, zero, suc, ◌+◌, ◌-◌, ◌≤◌, min, List, [], ◌∷◌, length, replicate, Option, Some, None, Bool, true, false, cond, refl, sym, subst, ◌∙◌, ap, inl, inr, arith}
use Rattle.std.specs.Prelude.{◌==◌, ◌||◌, ◌&&◌, not, nat_lt, nat_le, slice_index, sum_by}
use Rattle.std.specs.List.{list_any, range_with_len}
use Rattle.std.proofs.lemmas.Bool.{cases_eq, cases_lt}
use Rattle.std.proofs.lemmas.List.{get_or-replicate, get_or_past, length-replicate}
use Rattle.std.proofs.lemmas.List.Sums.{sum_by-cons}
use Rattle.std.proofs.lemmas.Option.{none-some, same_Some}
use Rattle.pb_price.specs.Price.{AtMost, PriceView, due, price_at}
use Rattle.pb_price.specs.Inner.Lists.{NoRestRises}
use Rattle.pb_price.specs.Supporters.{SupportView, cost_at, supporters_at}
use Rattle.pb_price.proofs.Prices.{due_rises, none_stays, prices_rise}
use Rattle.pb_rounds.specs.declared.measure.Measure.{Measure}
use Rattle.pb_rounds.specs.Inner.Between.{KeepsElecting, KeepsUpTo, places_of_elected}
use Rattle.pb_rounds.specs.Count.{could_be_added, is_exhausted, is_over, spent_on}
use Rattle.pb_rounds.specs.Key.{KeyView, is_before}
use Rattle.pb_rounds.specs.Inner.Listed.{is_listed}
use Rattle.pb_rounds.specs.Run.{ElectedView, RunView, best_of, charged, is_elected, key_of, run_from, run_of, without}
use Rattle.pb_rounds.proofs.BestKey.{best_is_key}
use Rattle.pb_rounds.proofs.BestIs.{is_best, no_best}
use Rattle.pb_rounds.proofs.Charged.{charged_at}
use Rattle.pb_rounds.proofs.Listed.{is_listed-without}
use Rattle.pb_rounds.proofs.Progress.{run_from-none, run_from-some}
use Rattle.pb_rounds.proofs.QueueLists.{not_before_itself}
use Rattle.pb_rounds.proofs.QueueRound.{at_most_by_price, at_most_chain, at_most_from_before}

-- who has more and pays less keeps more
left_between : (listed : Bool) (low high p q : ℕ) → low ≤ high → q ≤ p → low - cond listed (min low p) 0 ≤ high - cond listed (min high q) 0
left_between true low high p q more less = omega arith
left_between false low high p q more less = omega arith

charged_between : (supporters : List ℕ) (p q : ℕ) (low high : List ℕ) → NoRestRises high low → q ≤ p
    → NoRestRises (charged supporters q high) (charged supporters p low)
charged_between supporters p q low high falls less v =
    let here = left_between (is_listed supporters v) (slice_index low v) (slice_index high v) p q (falls v) less in
    omega (arith, here, charged_at supporters p low v, charged_at supporters q high v)

-- a price at lower rests is one at higher rests, and not below it
record HasPrice (s : SupportView) (rests : List ℕ) (place : ℕ) (most : PriceView) : Type 0 where
  pub price : PriceView
  pub is_price : price_at s rests place ≡ Some price
  pub at_most : AtMost price most

priced_above_by : (s : SupportView) (low high : List ℕ) (place : ℕ) (p : PriceView) → NoRestRises high low → price_at s low place ≡ Some p
    → (o : Option PriceView) → price_at s high place ≡ o → HasPrice s high place p
priced_above_by s low high place p falls e None none =
    absurd (none-some p (sym (none_stays s high low place falls none) ∙ e))
priced_above_by s low high place p falls e (Some q) some =
    record { price = q; is_price = some; at_most = prices_rise s high low place falls q p some e }

priced_above : (s : SupportView) (low high : List ℕ) (place : ℕ) (p : PriceView) → NoRestRises high low → price_at s low place ≡ Some p → HasPrice s high place p
priced_above s low high place p falls e = priced_above_by s low high place p falls e _ refl

-- one round: low are the rests of the smaller share, here those of one in between, high those of the larger one
module _ (m : Measure) (s : SupportView) (low here high left : List ℕ) (more : NoRestRises here low) (less : NoRestRises high here)
    (b : KeyView) (best : best_of m s low left ≡ Some b) (others : (other : ℕ) (p : PriceView) → is_listed (without b.place left) other ≡ true
    → price_at s high other ≡ Some p → is_before (key_of m s b.place b.price) (key_of m s other p) ≡ true) where
  winner_here : HasPrice s here b.place b.price
  winner_here = priced_above s low here b.place b.price more (best_is_key m s low left b best).is_price

  none_before : (other : ℕ) (p : PriceView) → is_listed left other ≡ true → price_at s here other ≡ Some p
      → is_before (key_of m s other p) (key_of m s b.place winner_here.price) ≡ false
  none_before other p listed e = elim (cases_eq other b.place) [
    | inl same ↦
        let equal : p ≡ winner_here.price = same_Some _ _ (sym e ∙ ap (price_at s here) same ∙ winner_here.is_price) in
        ap (λ n. is_before (key_of m s n p) (key_of m s b.place winner_here.price)) same
        ∙ ap (λ q. is_before (key_of m s b.place q) (key_of m s b.place winner_here.price)) equal ∙ not_before_itself (key_of m s b.place winner_here.price)
    | inr apart ↦
        let above = priced_above s here high other p less e in
        let later = others other above.price (is_listed-without left b.place other apart ∙ listed) above.is_price in
        at_most_chain (key_of m s b.place winner_here.price) (key_of m s other above.price) (key_of m s other p)
        (at_most_chain (key_of m s b.place winner_here.price) (key_of m s b.place b.price) (key_of m s other above.price)
        (at_most_by_price m s b.place b.price winner_here.price winner_here.at_most)
        (at_most_from_before (key_of m s b.place b.price) (key_of m s other above.price) later))
        (at_most_by_price m s other p above.price above.at_most)
  ]

  best_here : best_of m s here left ≡ Some (key_of m s b.place winner_here.price)
  best_here = is_best m s here left b.place winner_here.price (best_is_key m s low left b best).is_left winner_here.is_price none_before

-- what n rounds elect between two lists of rests
abbrev Between : (m : Measure) (s : SupportView) (n : ℕ) → Type 0
Between m s n = (low here high left : List ℕ) → NoRestRises here low → NoRestRises high here
    → KeepsElecting m s (run_from m s n low left).elected high left
    → places_of_elected (run_from m s n here left).elected ≡ places_of_elected (run_from m s n low left).elected

module _ (m : Measure) (s : SupportView) (n : ℕ) (later : Between m s n) (low here high left : List ℕ)
    (more : NoRestRises here low) (less : NoRestRises high here) where
  round_between : (o : Option KeyView) → best_of m s low left ≡ o → KeepsElecting m s (run_from m s (suc n) low left).elected high left
      → places_of_elected (run_from m s (suc n) here left).elected ≡ places_of_elected (run_from m s (suc n) low left).elected
  round_between None none keeps =
      let ended : (run_from m s (suc n) low left).elected ≡ [] = ap (λ (r : RunView). r.elected) (run_from-none m s low left none (suc n)) in
      let unpaid : (place : ℕ) → is_listed left place ≡ true → price_at s high place ≡ None =
      subst (λ (ws : List ElectedView). KeepsElecting m s ws high left) ended keeps in
      let nobody : best_of m s here left ≡ None =
      no_best m s here left (λ place listed. none_stays s high here place less (unpaid place listed)) in
      ap (λ (r : RunView). places_of_elected r.elected) (run_from-none m s here left nobody (suc n)) ∙ sym (ap places_of_elected ended)
  round_between (Some b) best keeps =
      let low_run = run_from-some m s low left b best n in
      let held = subst (λ (ws : List ElectedView). KeepsElecting m s ws high left) (ap (λ (r : RunView). r.elected) low_run) keeps in
      let mine = winner_here m s low here high left more less b best held.2 in
      let chosen = best_here m s low here high left more less b best held.2 in
      let high_less : AtMost held.0 mine.price = prices_rise s high here b.place less held.0 mine.price held.1 mine.is_price in
      let rest = later (charged (supporters_at s b.place) (due b.price) low) (charged (supporters_at s b.place) (due mine.price) here)
      (charged (supporters_at s b.place) (due held.0) high) (without b.place left)
      (charged_between (supporters_at s b.place) (due b.price) (due mine.price) low here more (due_rises mine.price b.price mine.at_most))
      (charged_between (supporters_at s b.place) (due mine.price) (due held.0) here high less (due_rises held.0 mine.price high_less))
      held.3 in
      ap (λ (r : RunView). places_of_elected r.elected) (run_from-some m s here left (key_of m s b.place mine.price) chosen n)
      ∙ ap (λ places. b.place ∷ places) rest
      ∙ sym (ap (λ (r : RunView). places_of_elected r.elected) low_run)

run_between : (m : Measure) (s : SupportView) (n : ℕ) → Between m s n
unfolding run_from
run_between m s zero low here high left more less keeps = refl
run_between m s (suc n) low here high left more less keeps =
    round_between m s n (run_between m s n) low here high left more less (best_of m s low left) refl keeps

open_falls : (voters small large : ℕ) → small ≤ large → NoRestRises (replicate voters large) (replicate voters small)
open_falls voters small large h v = elim (cases_lt v voters) [
  | inl within ↦ omega (arith, get_or-replicate voters v small 0 within, get_or-replicate voters v large 0 within)
  | inr past ↦
      let one = get_or_past (replicate voters small) v 0 (let len = length-replicate voters small in omega arith) in
      let two = get_or_past (replicate voters large) v 0 (let len = length-replicate voters large in omega arith) in
      omega arith
]

-- every share in between elects the same
pub same_between : (m : Measure) (s : SupportView) (small share large : ℕ) → small ≤ share → share ≤ large → KeepsUpTo m s small large
    → places_of_elected (run_of m s share).elected ≡ places_of_elected (run_of m s small).elected
unfolding run_of
same_between m s small share large least most keeps =
    run_between m s (length s.costs) (replicate s.voters small) (replicate s.voters share) (replicate s.voters large)
    (range_with_len 0 (length s.costs)) (open_falls s.voters small share least) (open_falls s.voters share large most) keeps

-- ---- the same places are over or exhausted alike

spent_by_places : (s : SupportView) (elected : List ElectedView) → spent_on s elected ≡ sum_by (cost_at s) (places_of_elected elected)
spent_by_places s [] = refl
spent_by_places s (w ∷ elected) =
    sum_by-cons (λ (v : ElectedView). cost_at s v.place) w elected ∙ ap (λ n. cost_at s w.place + n) (spent_by_places s elected)
    ∙ sym (sum_by-cons (cost_at s) w.place (places_of_elected elected))

elected_by_places : (elected : List ElectedView) (place : ℕ) → is_elected elected place ≡ is_listed (places_of_elected elected) place
elected_by_places [] place = refl
elected_by_places (w ∷ elected) place = ap (λ b. (w.place == place) || b) (elected_by_places elected place)

list_any_alike : (f g : ℕ → Bool) → ((n : ℕ) → f n ≡ g n) → (xs : List ℕ) → list_any f xs ≡ list_any g xs
list_any_alike f g same [] = refl
list_any_alike f g same (x ∷ xs) = ap (λ b. b || list_any f xs) (same x) ∙ ap (λ b. g x || b) (list_any_alike f g same xs)

module _ (s : SupportView) (budget : ℕ) (one other : List ElectedView) (same : places_of_elected one ≡ places_of_elected other) where
  same_spent : spent_on s one ≡ spent_on s other
  same_spent = spent_by_places s one ∙ ap (sum_by (cost_at s)) same ∙ sym (spent_by_places s other)

  same_elected : (place : ℕ) → is_elected one place ≡ is_elected other place
  same_elected place = elected_by_places one place ∙ ap (λ places. is_listed places place) same ∙ sym (elected_by_places other place)

  pub same_over : is_over s budget one ≡ is_over s budget other
  unfolding is_over
  same_over = ap (nat_lt budget) same_spent

  could_alike : (place : ℕ) → could_be_added s budget one place ≡ could_be_added s budget other place
  could_alike place =
      ap (λ b. not b && nat_lt 0 (length (supporters_at s place)) && nat_le (cost_at s place) (budget - spent_on s one)) (same_elected place)
      ∙ ap (λ n. not (is_elected other place) && nat_lt 0 (length (supporters_at s place)) && nat_le (cost_at s place) (budget - n)) same_spent

  pub same_exhausted : is_exhausted s budget one ≡ is_exhausted s budget other
  unfolding is_exhausted
  same_exhausted =
      ap (λ b. not b && not (list_any (could_be_added s budget one) (range_with_len 0 (length s.costs)))) same_over
      ∙ ap (λ b. not (is_over s budget other) && not b)
      (list_any_alike (could_be_added s budget one) (could_be_added s budget other) could_alike (range_with_len 0 (length s.costs)))
