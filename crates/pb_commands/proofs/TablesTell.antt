-- What the tables of a count tell, and that they agree with its report.
use Rattle.std.proofs.Common.{◌≡◌, ℕ, ◌+◌, ◌-◌, ◌<◌, ◌≤◌, List, [], ◌∷◌, length, get_or, false, Some, refl, sym, ◌∙◌, ap, inl, inr, arith}
use Rattle.std.specs.Prelude.{◌==◌, count_by, slice_get, slice_index, sum, sum_by}
use Rattle.std.specs.List.{AllZip, range_with_len}
use Rattle.std.proofs.lemmas.Bool.{cases_lt, eq-eqb, lt-ltb, or_parts, true≢false}
use Rattle.std.proofs.lemmas.List.{get_or_default, length-map}
use Rattle.std.proofs.lemmas.List.FromFn.{fill_by_all}
use Rattle.std.proofs.lemmas.List.Sums.{fails_before_first, sum-map, sum_by-cons}
use Rattle.std.proofs.lemmas.Option.{none-some, same_Some, slice_get_past, slice_get_read}
use Rattle.pb_price.specs.Grain.{in_parts}
use Rattle.pb_price.specs.Price.{total_rest}
use Rattle.pb_price.specs.Supporters.{SupportView, cost_at, cost_in_parts, support_in, support_of, supporters_at}
use Rattle.pb_price.specs.declared.grain.Grain.{Grain}
use Rattle.pb_price.specs.declared.grain.Grain.TheVariants.{Fine, Hundredths}
use Rattle.pb_reasons.proofs.AllWinners.{paid_beyond}
use Rattle.pb_reasons.proofs.Due.{round_is}
use Rattle.pb_reasons.proofs.Told.{elected_has_round}
use Rattle.pb_rounds.specs.MostVotes.{is_taken}
use Rattle.pb_reasons.specs.Counted.{is_selected}
use Rattle.pb_reasons.specs.CountedElection.{CountedElectionView, IsCountedElection}
use Rattle.pb_reasons.specs.Reasons.{all_payments, ending_of, paid_for, project_reason, round_of, voter_reason}
use Rattle.pb_reasons.specs.declared.project_reason.Ending.TheVariants as ending
use Rattle.pb_reasons.specs.declared.project_reason.Lost.{Lost}
use Rattle.pb_reasons.specs.declared.project_reason.Won.{Won}
use Rattle.pb_rounds.specs.Count.{spent_on}
use Rattle.pb_rounds.specs.PriceSystem.{IsPriceSystem, PaysFor}
use Rattle.pb_rounds.specs.Run.{ElectedView, is_elected}
use Rattle.pb_reasons.proofs.Tellable.{counted_can_be_told}
use Rattle.pb_reasons.specs.Totals.{totals_of}

-- a project that is not elected has no round
pub no_round : (elected : List ElectedView) (place : ℕ) → is_elected elected place ≡ false → length elected ≤ round_of elected place
no_round elected place none = elim (cases_lt (round_of elected place) (length elected)) [
  | inl less ↦ absurd (true≢false (sym (lt-ltb _ _ less) ∙ sym (elected_has_round elected place) ∙ none))
  | inr more ↦ more
]

pub missing_told : (x : CountedElectionView) (place : ℕ) → IsCountedElection x → place < length x.election.projects
    → is_selected x.counted place ≡ false
    → (lost : Lost) × ((project_reason x.rule.options.grain x.election x.counted place).ending ≡ ending.Lost lost) × (0 < lost.missing)
    × (lost.left + lost.missing ≡ cost_in_parts (support_in x.rule.options.grain x.election) place)
missing_told x place is known unselected =
    let e = x.election in
    let c = x.counted in
    let o = c.outcome in
    let s = support_in x.rule.options.grain e in
    let parts = or_parts (is_elected o.elected place) (is_taken c.added place) unselected in
    let none = parts.0 in
    let told = counted_can_be_told x is in
    let past = no_round o.elected place none in
    let costs : length s.costs ≡ length e.projects = simp length-map in
    let left = total_rest (supporters_at s place) o.rests in
    let short : left < cost_in_parts s place = told.price_system.too_expensive place (rw costs known) (λ k d below same.
    let other = fails_before_first (λ (w : ElectedView). w.place == place) o.elected k d (omega (arith, past, below)) in
    absurd (true≢false (sym (eq-eqb _ _ same) ∙ other))) in (
      record { left = left; missing = cost_in_parts s place - left },
      ap (ending_of x.rule.options.grain e c place) (slice_get_past o.elected (round_of o.elected place) past) ∙ rw parts.1 refl,
      omega (arith, short),
      omega (arith, short),
    )

pub share_told : (x : CountedElectionView) (voter : ℕ) → IsCountedElection x → voter < length x.election.voters
    → (voter_reason x.election x.counted voter).paid + (voter_reason x.election x.counted voter).left ≡ x.counted.outcome.share
share_told x voter is known = (counted_can_be_told x is).price_system.endowed voter known

pub payments_told : (x : CountedElectionView) → IsCountedElection x
    → IsPriceSystem (support_in x.rule.options.grain x.election) x.counted.outcome.share x.counted.outcome.elected x.counted.outcome.rests (all_payments x.election x.counted.outcome)
payments_told x is = (counted_can_be_told x is).price_system

pub read_here : (elected : List ElectedView) (round : ℕ) (w : ElectedView) → slice_get elected round ≡ Some w → (round < length elected) × (get_or elected round w ≡ w)
read_here elected round w is = elim (cases_lt round (length elected)) [
  | inl less ↦ (less, same_Some _ _ (sym (slice_get_read elected (length elected) round (get_or elected round w) refl less (get_or_default elected round w (get_or elected round w) less)) ∙ is))
  | inr more ↦ absurd (none-some _ (sym (slice_get_past elected round more) ∙ is))
]

pub elected_told : (x : CountedElectionView) (round : ℕ) (w : ElectedView) → IsCountedElection x → slice_get x.counted.outcome.elected round ≡ Some w
    → (won : Won) × ((project_reason x.rule.options.grain x.election x.counted w.place).ending ≡ ending.Won won) × (won.round ≡ round + 1) × (won.price ≡ w.price) × (won.exact ≡ w.exact)
    × (won.collected ≡ w.collected)
elected_told x round w is at =
    let e = x.election in
    let o = x.counted.outcome in
    let told = counted_can_be_told x is in
    let here = read_here o.elected round w at in
    let numbered = round_is o.elected told.apart round w here.0 here.1 in (
      record {
        round = round_of o.elected w.place + 1;
        price = w.price;
        exact = w.exact;
        collected = w.collected;
        in_full = count_by (λ voter. paid_for e o w.place voter == w.price) (supporters_at (support_of e) w.place);
      },
      ap (ending_of x.rule.options.grain e x.counted w.place) (ap (slice_get o.elected) numbered ∙ at),
      ap (λ n. n + 1) numbered,
      refl,
      refl,
      refl,
    )

-- the last sums, in hundredths and in fine money
whole_sums : (grain : Grain) (voters cost surplus paid added : ℕ) → grain ≡ Hundredths → surplus + in_parts grain voters cost ≡ paid → cost + added + surplus ≡ paid + added
whole_sums grain voters cost surplus paid added whole sums = let h = rw whole at sums in omega (arith, h)

fine_sums : (grain : Grain) (voters cost surplus paid elected : ℕ) → elected ≡ cost → grain ≡ Fine → surplus + paid ≡ in_parts grain voters cost
    → paid + surplus ≡ in_parts Fine voters elected
fine_sums grain voters cost surplus paid elected same fine sums =
    let turned : paid + surplus ≡ surplus + paid = omega arith in
    turned ∙ sums ∙ ap (λ g. in_parts g voters cost) fine ∙ ap (in_parts Fine voters) (sym same)

-- sums of columns are sums of rows
sum_by-none : (xs : List ℕ) → sum_by (λ (x : ℕ). 0) xs ≡ 0
sum_by-none [] = refl
sum_by-none (x ∷ xs) =
    let others = sum_by-none xs in
    omega (arith, sum_by-cons (λ (x : ℕ). 0) x xs, others)

sum_by-both : (f g h : ℕ → ℕ) → ((k : ℕ) → h k ≡ f k + g k) → (xs : List ℕ) → sum_by h xs ≡ sum_by f xs + sum_by g xs
sum_by-both f g h e [] = refl
sum_by-both f g h e (x ∷ xs) =
    let others = sum_by-both f g h e xs in
    omega (arith, sum_by-cons f x xs, sum_by-cons g x xs, sum_by-cons h x xs, e x, others)

sum_by_place : (xs : List ℕ) (n : ℕ) → length xs ≡ n → sum xs ≡ sum_by (λ k. slice_index xs k) (range_with_len 0 n)
sum_by_place xs n e =
    ap sum (fill_by_all (λ k. slice_index xs k) xs n 0 e (λ k below. refl)) ∙ sum-map (λ k. slice_index xs k) (range_with_len 0 n)

columns_sum : (s : SupportView) (rests : List ℕ) (elected : List ElectedView) (rows : List (List ℕ)) → AllZip (PaysFor s rests) elected rows
    → sum_by (λ v. sum_by (λ row. slice_index row v) rows) (range_with_len 0 s.voters) ≡ sum_by (λ (w : ElectedView). w.collected) elected
columns_sum s rests [] [] all = sum_by-none (range_with_len 0 s.voters)
columns_sum s rests [] (row ∷ rows) all = absurd all
columns_sum s rests (w ∷ elected) [] all = absurd all
columns_sum s rests (w ∷ elected) (row ∷ rows) all =
    let both = sum_by-both (λ v. slice_index row v) (λ v. sum_by (λ row. slice_index row v) rows) (λ v. sum_by (λ row. slice_index row v) (row ∷ rows)) (λ v. sum_by-cons (λ r. slice_index r v) row rows) (range_with_len 0 s.voters) in
    let first = sum_by_place row s.voters all.0.one_each in
    let later = columns_sum s rests elected rows all.1 in
    omega (arith, both, first, later, all.0.collected, sum_by-cons (λ (w : ElectedView). w.collected) w elected)

pub paid_told : (x : CountedElectionView) → IsCountedElection x
    → let paid = sum_by (λ (w : ElectedView). w.collected) x.counted.outcome.elected in
    let totals = totals_of x.rule.options.grain x.election x.counted in
    let added = sum_by (cost_at (support_of x.election)) x.counted.added in
    (sum_by (λ voter. (voter_reason x.election x.counted voter).paid) (range_with_len 0 (length x.election.voters)) ≡ paid)
    × (x.rule.options.grain ≡ Hundredths → totals.spent + totals.surplus ≡ paid + added)
    × (x.rule.options.grain ≡ Fine → paid + totals.surplus ≡ in_parts Fine (length x.election.voters) (totals.spent - added))
paid_told x is =
    let e = x.election in
    let o = x.counted.outcome in
    let grain = x.rule.options.grain in
    let told = counted_can_be_told x is in
    let all = columns_sum (support_in grain e) o.rests o.elected (all_payments e o) told.price_system.paid in
    let beyond = paid_beyond x is in
    let totals = totals_of grain e x.counted in
    let added = sum_by (cost_at (support_of e)) x.counted.added in
    let cost = spent_on (support_of e) o.elected in
    let voters = length e.voters in
    let elected : totals.spent - added ≡ cost = omega arith in (
      all,
      λ whole. whole_sums grain voters cost totals.surplus (sum_by (λ (w : ElectedView). w.collected) o.elected) added whole (beyond.0 whole),
      λ fine. fine_sums grain voters cost totals.surplus (sum_by (λ (w : ElectedView). w.collected) o.elected) (totals.spent - added) elected fine (beyond.1 fine),
    )
