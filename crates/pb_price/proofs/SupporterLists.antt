-- What is true of the supporters of an election.
use Rattle.std.proofs.Common.{◌≡◌, ◌≢◌, ℕ, ◌+◌, ◌*◌, ◌<◌, ◌≤◌, ◌^◌, max, Bool, List, [], length, refl, sym, subst, ◌∙◌, arith}
use Rattle.std.proofs.Math.Nat.{mul-le-mul_right}
use Rattle.std.specs.Prelude.{All}
use Rattle.std.specs.List.{range_with_len}
use Rattle.std.specs.List.Sorted.{IsStrictlyIncreasing}
use Rattle.std.proofs.lemmas.List.{length-map}
use Rattle.std.proofs.lemmas.List.FromFn.{length-range_with_len, get_or-range_with_len, length-map-range_with_len}
use Rattle.std.proofs.lemmas.List.Elements.{All-filter, All-map, All-from_get_or}
use Rattle.std.proofs.lemmas.List.Kept.{IsStrictlyIncreasing-filter}
use Rattle.std.proofs.lemmas.List.Sums.{count_by-le-length, length-filter}
use Rattle.pb_core.specs.Inner.Approved.{approves}
use Rattle.pb_core.specs.Election.{ElectionView, IsElection}
use Rattle.pb_core.specs.Money.{largest_money}
use Rattle.pb_price.specs.Inner.Support.{HasSupportForm}
use Rattle.pb_price.specs.Grain.{in_parts}
use Rattle.pb_price.specs.Supporters.{ballot_at, cost_at, cost_in_parts, supporters_at, supporters_of, support_in, support_of, IsSupport, SupportView}
use Rattle.pb_price.specs.declared.grain.Grain.{Grain}
use Rattle.pb_price.specs.declared.grain.Grain.TheVariants.{Hundredths, Fine}

range_with_len_rises : (a n : ℕ) → IsStrictlyIncreasing (range_with_len a n)
range_with_len_rises a n k h =
    let short : k + 1 < n = omega (arith, length-range_with_len a n) in
    let here = get_or-range_with_len a n k 0 (omega arith) in
    let next = get_or-range_with_len a n (k + 1) 0 short in
    omega (arith, here, next)

range_with_len_below : (n : ℕ) → All (λ k. k < n) (range_with_len 0 n)
range_with_len_below n = All-from_get_or (λ k. k < n) (range_with_len 0 n) 0
    (λ i h.
    let short : i < n = omega (arith, length-range_with_len 0 n) in
    omega (arith, get_or-range_with_len 0 n i 0 short))

-- supporters are listed in the order of the file, none twice
pub supporters_of_rise : (e : ElectionView) (place : ℕ) → IsStrictlyIncreasing (supporters_of e place)
unfolding supporters_of
supporters_of_rise e place =
    IsStrictlyIncreasing-filter (λ voter. approves (ballot_at e voter) place) _ (range_with_len_rises 0 (length e.voters))

-- supporters are voters of the election
pub supporters_of_known : (e : ElectionView) (place : ℕ) → All (λ voter. voter < length e.voters) (supporters_of e place)
unfolding supporters_of
supporters_of_known e place =
    All-filter (λ voter. approves (ballot_at e voter) place) (λ voter. voter < length e.voters) _ (range_with_len_below (length e.voters))

-- and no more than there are voters
supporters_of_few : (e : ElectionView) (place : ℕ) → length (supporters_of e place) ≤ length e.voters
unfolding supporters_of
supporters_of_few e place =
    let passes : ℕ → Bool = λ voter. approves (ballot_at e voter) place in
    let all = range_with_len 0 (length e.voters) in
    omega (arith, length-filter passes all, count_by-le-length passes all, length-range_with_len 0 (length e.voters))

form_of_election : (grain : Grain) (e : ElectionView) → IsElection e
    → All (λ cost. in_parts grain (length e.voters) cost < 2 ^ 64) (support_in grain e).costs → HasSupportForm (support_in grain e)
form_of_election grain e h fits = record {
  few_voters = h.few_voters;
  few_projects = omega (arith, length-map e.projects (λ p. p.cost), h.few_projects);
  paired = length-map-range_with_len (supporters_of e) 0 (length e.projects) ∙ sym (length-map e.projects (λ p. p.cost));
  costs_positive = All-map (λ cost. 0 < cost) (λ p. p.cost) e.projects (λ k d l. (h.are_projects k d l).costs);
  costs_bounded = All-map (λ cost. cost ≤ largest_money) (λ p. p.cost) e.projects (λ k d l. (h.are_projects k d l).affordable);
  costs_fit = fits;
  supporters_rise = All-map IsStrictlyIncreasing (supporters_of e) _ (λ k d l. supporters_of_rise e _);
  supporters_few = All-map (λ list. length list ≤ length e.voters) (supporters_of e) _ (λ k d l. supporters_of_few e _);
  supporters_known = All-map (All (λ voter. voter < length e.voters)) (supporters_of e) _ (λ k d l. supporters_of_known e _);
}

-- what is true of the supporters of every election
pub support_form : (s : SupportView) → IsSupport s → HasSupportForm s
support_form s (e, h, is, fits) =
    subst HasSupportForm (sym is) (form_of_election s.grain e h (subst (λ (t : SupportView). All (λ cost. in_parts s.grain t.voters cost < 2 ^ 64) t.costs) is fits))

pub few_supporters : (s : SupportView) → IsSupport s → (place : ℕ) → place < length s.costs → length (supporters_at s place) ≤ s.voters
few_supporters s h place known = let form = support_form s h in form.supporters_few place [] (rw form.paired known)

-- a hundredth has a part or more, so that what costs something does so in parts
pub parts_positive : (grain : Grain) (voters amount : ℕ) → 0 < amount → 0 < in_parts grain voters amount
parts_positive Hundredths voters amount some = some
parts_positive Fine voters amount some =
    let least : 1 * amount ≤ max 1 (10000 * voters) * amount = mul-le-mul_right amount (omega arith) in omega (arith, least, some)

pub cost_positive : (s : SupportView) → IsSupport s → (place : ℕ) → place < length s.costs → 0 < cost_in_parts s place
cost_positive s h place known = parts_positive s.grain s.voters (cost_at s place) ((support_form s h).costs_positive place 0 known)

-- money is counted in one way
pub two_grains : Hundredths ≢ Fine
two_grains e = cc

-- a cost is small in hundredths, and fits in parts
pub whole_cost_small : (s : SupportView) → IsSupport s → s.grain ≡ Hundredths → (place : ℕ) → place < length s.costs → cost_in_parts s place ≤ largest_money
whole_cost_small s h whole place known =
    subst (λ (g : Grain). in_parts g s.voters (cost_at s place) ≤ largest_money) (sym whole) ((support_form s h).costs_bounded place 0 known)

pub cost_fits : (s : SupportView) → IsSupport s → (place : ℕ) → place < length s.costs → cost_in_parts s place < 2 ^ 64
cost_fits s h place known = (support_form s h).costs_fit place 0 known

-- the supporters of an election in hundredths
hundredths_fit : (e : ElectionView) → IsElection e → All (λ cost. in_parts Hundredths (length e.voters) cost < 2 ^ 64) (support_in Hundredths e).costs
hundredths_fit e h = All-map (λ cost. cost < 2 ^ 64) (λ p. p.cost) e.projects
    (λ k d l. let small = (h.are_projects k d l).affordable in omega (arith, small))

pub is_support_of : (e : ElectionView) → IsElection e → IsSupport (support_of e)
is_support_of e h = (e, h, refl, hundredths_fit e h)

-- supporters are voters, as a call has them
pub known_voters : (s : SupportView) → IsSupport s → (place : ℕ) → place < length s.costs → (list rests : List ℕ) → list ≡ supporters_at s place → length rests ≡ s.voters
    → All (λ voter. voter < length rests) list
known_voters s h place known list rests is one_each = rw is (λ k d l.
    let form = support_form s h in
    let voter = form.supporters_known place [] (omega (arith, known, form.paired)) k d l in
    omega (arith, voter, one_each))

-- and rise
pub supporters_increase : (s : SupportView) → IsSupport s → (place : ℕ) → place < length s.costs → (list : List ℕ) → list ≡ supporters_at s place → IsStrictlyIncreasing list
supporters_increase s h place known list is =
    let form = support_form s h in rw is (form.supporters_rise place [] (rw form.paired known))
