-- That the order by votes is an order, and tells any two projects apart.
use Rattle.std.proofs.Common.{◌≡◌, ◌≢◌, ℕ, true, false, refl, sym, ◌∙◌, ap}
use Rattle.std.specs.Cmp.{IsStrictWeakOrder, IsTotalOrder, back_total, nat_cmp_total, on_total, ranks, then_total}
use Rattle.std.specs.Ordering.{is_eq, is_lt, nat_cmp, ordering_reverse, ordering_then}
use Rattle.std.specs.declared.cmp.Ordering.{Ordering}
use Rattle.std.specs.declared.cmp.Ordering.TheVariants.{Less, Equal, Greater}
use Rattle.std.proofs.lemmas.Bool.{true≢false}
use Rattle.std.proofs.lemmas.List.MinMax.{ranks_by}
use Rattle.pb_price.specs.Supporters.{SupportView, cost_at}
use Rattle.pb_rounds.specs.MostVotes.{comes_first, votes_at, votes_cmp}

pub votes_cmp-total : (s : SupportView) → IsTotalOrder (votes_cmp s)
votes_cmp-total s =
    then_total (back_total (on_total (votes_at s) nat_cmp_total))
    (then_total (on_total (cost_at s) nat_cmp_total) nat_cmp_total)

pub comes_first-ranks : (s : SupportView) → IsStrictWeakOrder (comes_first s)
comes_first-ranks s = ranks_by (votes_cmp-total s) (λ place. place)

then_equal : (o p : Ordering) → ordering_then o p ≡ Equal → p ≡ Equal
then_equal Less p e = absurd (true≢false (sym (ap is_eq e)))
then_equal Equal p e = e
then_equal Greater p e = absurd (true≢false (sym (ap is_eq e)))

equal_numbers : (x y : ℕ) → nat_cmp x y ≡ Equal → x ≡ y
equal_numbers x y e = rw e at (ranks x y)

tied_places : (s : SupportView) (place other : ℕ) → votes_cmp s place other ≡ Equal → place ≡ other
tied_places s place other e = equal_numbers place other (then_equal _ _ (then_equal _ _ e))

first_by : (s : SupportView) (place other : ℕ) → place ≢ other → comes_first s other place ≡ false
    → (o : Ordering) → votes_cmp s place other ≡ o → comes_first s place other ≡ true
first_by s place other apart not_after Less e = ap is_lt e
first_by s place other apart not_after Equal e = absurd (apart (tied_places s place other e))
first_by s place other apart not_after Greater e =
    absurd (true≢false (sym (ap is_lt ((votes_cmp-total s).antisymm other place ∙ ap ordering_reverse e)) ∙ not_after))

-- of two projects one comes first
pub one_comes_first : (s : SupportView) (place other : ℕ) → place ≢ other → comes_first s other place ≡ false
    → comes_first s place other ≡ true
one_comes_first s place other apart not_after = first_by s place other apart not_after _ refl
