-- A run in which nobody has a share elects nothing.
use Rattle.std.proofs.Common.{◌≡◌, ℕ, ◌*◌, ◌<◌, ◌≤◌, List, [], ◌∷◌, get_or, length, replicate, refl, inl, inr, arith}
use Rattle.std.specs.Prelude.{slice_index}
use Rattle.std.proofs.lemmas.Bool.{cases_lt}
use Rattle.std.proofs.lemmas.List.{get_or-replicate, get_or_past, length-replicate}
use Rattle.std.proofs.lemmas.List.Sums.{sum_by-le}
use Rattle.pb_price.proofs.Prices.{price_covers}
use Rattle.pb_price.proofs.SupporterLists.{cost_positive}
use Rattle.pb_price.specs.Price.{total_rest}
use Rattle.pb_price.specs.Supporters.{SupportView, cost_in_parts, supporters_at}
use Rattle.pb_rounds.specs.Cheapest.{IsRun}
use Rattle.pb_rounds.specs.Run.{ElectedView}
use Rattle.pb_rounds.specs.declared.measure.Measure.{Measure}

nothing_at : (voters v : ℕ) → slice_index (replicate voters 0) v ≤ 0
nothing_at voters v = elim (cases_lt v voters) [
  | inl below ↦ let zeros : slice_index (replicate voters 0) v ≡ 0 = get_or-replicate {A = ℕ} voters v 0 0 below in omega (arith, zeros)
  | inr past ↦ omega (arith, get_or_past (replicate {A = ℕ} voters 0) v 0 (let len = length-replicate {A = ℕ} voters 0 in omega (arith, len, past)))
]

-- each project costs something, so nobody can pay for it
pub no_share_elects_none : (m : Measure) (s : SupportView) (elected : List ElectedView) (rests : List ℕ) → IsRun m s 0 elected rests → elected ≡ []
no_share_elects_none m s [] rests run = refl
no_share_elects_none m s (w ∷ elected) rests run =
    let was = run.cheapest [] w elected refl in
    let costs = cost_positive s run.is_support w.place was.was_left.0 in
    let covers = price_covers s.grain (supporters_at s w.place) (replicate s.voters 0) (cost_in_parts s w.place) w.exact was.priced in
    let nothing : total_rest (supporters_at s w.place) (replicate s.voters 0) ≤ length (supporters_at s w.place) * 0 =
    sum_by-le (λ v. slice_index (replicate s.voters 0) v) 0 (supporters_at s w.place) (λ k d below. nothing_at s.voters (get_or (supporters_at s w.place) k d)) in
    absurd (omega (arith, costs, covers, nothing))
