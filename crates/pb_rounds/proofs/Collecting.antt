-- What is collected for a project, in hundredths and in fine money, and what all collect together.
use Rattle.std.proofs.Common.{◌≡◌, ℕ, suc, ◌+◌, ◌-◌, ◌*◌, ◌<◌, ◌≤◌, max, List, length, sym, subst, ap, arith}
use Rattle.std.proofs.Math.Nat.{lt_of_mul-lt-mul_left, mul-le-mul_left}
use Rattle.pb_price.specs.Grain.{in_parts}
use Rattle.pb_price.specs.Price.{IsPriceIn, PriceView, due, paid_at}
use Rattle.pb_price.specs.declared.grain.Grain.{Grain}
use Rattle.pb_price.specs.declared.grain.Grain.TheVariants.{Hundredths, Fine}
use Rattle.pb_price.proofs.Dues.{due_leaves_little, due_within, whole_due}
use Rattle.pb_price.proofs.Payments.{collected_below}
use Rattle.pb_rounds.specs.PriceSystem.{IsCollected}

pub collected_in : (grain : Grain) (supporters rests : List ℕ) (cost : ℕ) (p : PriceView) → 0 < cost → IsPriceIn grain supporters rests cost p
    → IsCollected grain cost (length supporters) (paid_at supporters rests (due p))
collected_in Hundredths supporters rests cost p some price =
    subst (λ n. (cost ≤ paid_at supporters rests n) × (paid_at supporters rests n < cost + length supporters)) (sym (whole_due p price.1))
    (price.0.covers, collected_below supporters rests cost p.amount price.0 some)
collected_in Fine supporters rests cost p some price = (due_within supporters rests cost p price, due_leaves_little supporters rests cost p price)

-- what so many elected may lack: nothing in hundredths; in fine money less than a part of each voter for each
abbrev pub slack : Grain → (voters elected : ℕ) → ℕ
slack Hundredths voters elected = 0
slack Fine voters elected = (voters - 1) * elected

pub nothing_spent : (grain : Grain) (voters all : ℕ) → in_parts grain voters 0 + all ≤ all + slack grain voters 0
nothing_spent Hundredths voters all = omega arith
nothing_spent Fine voters all = omega arith

pub one_more_spent : (grain : Grain) (voters cost spent left before charged paid supporters elected : ℕ) {more : ℕ} → more ≡ cost + spent
    → in_parts grain voters spent + left ≤ charged + slack grain voters elected → paid + charged ≡ before
    → IsCollected grain (in_parts grain voters cost) supporters paid → supporters ≤ voters
    → in_parts grain voters more + left ≤ before + slack grain voters (suc elected)
one_more_spent Hundredths voters cost spent left before charged paid supporters elected more later pays collected few =
    omega (arith, more, later, pays, collected.0)
one_more_spent Fine voters cost spent left before charged paid supporters elected more later pays collected few =
    let parts : ℕ = max 1 (10000 * voters) in
    let all = ap (λ n. parts * n) more in
    omega (arith, all, later, pays, collected.1, few)

-- so what the opening shares pay for is within the budget
pub within_budget : (grain : Grain) (voters budget spent elected : ℕ) → elected ≤ 10000
    → in_parts grain voters spent ≤ in_parts grain voters budget + slack grain voters elected → spent ≤ budget
within_budget Hundredths voters budget spent elected few most = omega (arith, most)
within_budget Fine voters budget spent elected few most =
    let parts : ℕ = max 1 (10000 * voters) in
    let lacks : (voters - 1) * elected ≤ (voters - 1) * 10000 = mul-le-mul_left (voters - 1) few in
    let less : parts * spent < parts * (budget + 1) = omega (arith, most, lacks) in
    let within = lt_of_mul-lt-mul_left parts less in omega (arith, within)
