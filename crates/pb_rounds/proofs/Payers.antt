-- Who pays the prices of a run, and that keys have room for how many they are.
use Rattle.std.proofs.Common.{◌≡◌, ℕ, zero, suc, ◌*◌, ◌<◌, ◌≤◌, ◌^◌, max, List, [], length, Option, Some, None, true, refl, sym, subst, ◌∙◌, ap, arith}
use Rattle.std.specs.Prelude.{All}
use Rattle.std.specs.List.{range_with_len}
use Rattle.std.specs.Option.{option_map_or}
use Rattle.std.proofs.Math.Nat.{mul-le-mul_right}
use Rattle.std.proofs.lemmas.List.Elements.{All-cons, All-nil}
use Rattle.pb_core.specs.Election.{ElectionView}
use Rattle.pb_price.specs.Grain.{in_parts}
use Rattle.pb_price.specs.Price.{HasPayers, PriceView, due, price_at}
use Rattle.pb_price.specs.Supporters.{IsSupport, SupportView, cost_at, supporters_at, support_in}
use Rattle.pb_price.specs.declared.grain.Grain.{Grain}
use Rattle.pb_price.specs.declared.grain.Grain.TheVariants.{Fine, Hundredths}
use Rattle.pb_price.proofs.Bases.{price_payers}
use Rattle.pb_price.proofs.Prices.{is_price_from_at}
use Rattle.pb_price.proofs.SupporterLists.{cost_fits, cost_positive, support_form}
use Rattle.pb_rounds.specs.declared.measure.Measure.{Measure}
use Rattle.pb_rounds.specs.declared.measure.Measure.TheVariants.{Cost, Votes}
use Rattle.pb_rounds.specs.Count.{elected_after, share_after}
use Rattle.pb_rounds.specs.Inner.Listed.{is_listed}
use Rattle.pb_rounds.specs.Key.{KeyView}
use Rattle.pb_rounds.specs.Run.{ElectedView, best_of, charged, elected_by, run_from, run_of, then_run, weight_of, without}
use Rattle.pb_rounds.proofs.BestKey.{best_is_key}
use Rattle.pb_rounds.proofs.CheapestRounds.{known_place}
use Rattle.pb_rounds.proofs.Listed.{listed_from_without}

fits_in : (grain : Grain) (voters cost payers : ℕ) → in_parts grain voters cost < 2 ^ 64 → payers ≤ max 1 voters → (grain ≡ Hundredths → payers ≡ 1)
    → payers * cost < 2 ^ 64
fits_in Hundredths voters cost payers fits few alone =
    let one : payers * cost ≡ 1 * cost = ap (λ n. n * cost) (alone refl) in omega (arith, one, fits)
fits_in Fine voters cost payers fits few alone =
    let within : payers * cost ≤ max 1 (10000 * voters) * cost = mul-le-mul_right cost (omega (arith, few)) in omega (arith, within, fits)

-- a key has room for the payers and the weight together
pub key_fits : (m : Measure) (s : SupportView) → IsSupport s → (place : ℕ) → place < length s.costs → (p : PriceView) → HasPayers s p
    → p.payers * weight_of m s place < 2 ^ 64
key_fits Votes s h place known p has = (let few = has.few in let voters = (support_form s h).few_voters in omega (arith, few, voters))
key_fits Cost s h place known p has = fits_in s.grain s.voters (cost_at s place) p.payers (cost_fits s h place known) has.few has.alone

-- what is left is known
abbrev pub AreKnown : SupportView → List ℕ → Type 0
AreKnown s left = (place : ℕ) → is_listed left place ≡ true → place < length s.costs

-- a price of a project that is known
pub payers_of_price : (s : SupportView) → IsSupport s → (rests : List ℕ) (place : ℕ) → place < length s.costs → (p : PriceView) → price_at s rests place ≡ Some p → HasPayers s p
payers_of_price s h rests place known p priced =
    price_payers s h place known rests p (is_price_from_at s rests place (cost_positive s h place known) (Some p) (sym priced))

payers_step : (m : Measure) (s : SupportView) → IsSupport s → (n : ℕ) (rests left : List ℕ) → AreKnown s left
    → ((rests left : List ℕ) → AreKnown s left → All (λ (w : ElectedView). HasPayers s w.exact) (run_from m s n rests left).elected)
    → (o : Option KeyView) → best_of m s rests left ≡ o
    → All (λ (w : ElectedView). HasPayers s w.exact)
    (option_map_or (λ b. then_run (elected_by s rests b) (run_from m s n (charged (supporters_at s b.place) (due b.price) rests) (without b.place left)))
    o (record { elected = []; rests = rests })).elected
payers_step m s h n rests left known later None e = All-nil (λ (w : ElectedView). HasPayers s w.exact)
payers_step m s h n rests left known later (Some b) e =
    let found = best_is_key m s rests left b e in
    All-cons (λ (w : ElectedView). HasPayers s w.exact) (elected_by s rests b)
    (run_from m s n (charged (supporters_at s b.place) (due b.price) rests) (without b.place left)).elected
    (payers_of_price s h rests b.place (known b.place found.is_left) b.price found.is_price)
    (later (charged (supporters_at s b.place) (due b.price) rests) (without b.place left) (λ place listed. known place (listed_from_without left b.place place listed)))

payers_from : (m : Measure) (s : SupportView) → IsSupport s → (n : ℕ) (rests left : List ℕ) → AreKnown s left
    → All (λ (w : ElectedView). HasPayers s w.exact) (run_from m s n rests left).elected
unfolding run_from
payers_from m s h zero rests left known = All-nil (λ (w : ElectedView). HasPayers s w.exact)
payers_from m s h (suc n) rests left known = payers_step m s h n rests left known (payers_from m s h n) (best_of m s rests left) refl

-- each price of a run has payers
pub run_has_payers : (m : Measure) (s : SupportView) → IsSupport s → (share : ℕ) → All (λ (w : ElectedView). HasPayers s w.exact) (run_of m s share).elected
unfolding run_of
run_has_payers m s h share = payers_from m s h (length s.costs) _ (range_with_len 0 (length s.costs)) (known_place s)

-- and so each of those elected after some raises
pub elected_have_payers : (m : Measure) (grain : Grain) (e : ElectionView) (s : SupportView) → s ≡ support_in grain e → IsSupport s → (step raises : ℕ) (elected : List ElectedView)
    → elected ≡ elected_after m grain e step raises → All (λ (w : ElectedView). HasPayers s w.exact) elected
elected_have_payers m grain e s same h step raises elected elected_are =
    subst (All (λ (w : ElectedView). HasPayers s w.exact))
    (sym (elected_are ∙ ap (λ (t : SupportView). (run_of m t (share_after grain e step raises)).elected) (sym same)))
    (run_has_payers m s h (share_after grain e step raises))
