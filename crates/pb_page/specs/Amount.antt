-- Amounts of money as people write them.
use Rattle.std.specs.Prelude.{ℕ, ◌/◌, ◌%◌, ◌&&◌, ◌==◌, List, [], ◌∷◌, ◌++◌, codes, decimal, if◌then◌else◌}
use Rattle.std.specs.Prelude.{length, max, nat_lt}
use Rattle.std.specs.Int.{div_ceil}
use Rattle.pb_page.specs.declared.markup.divided.Divided.{Divided}
use Rattle.pb_page.specs.declared.markup.form.Form.{Form}

-- the digits of a number in groups of three: a sign behind each third from the end, but not behind the last
abbrev pub grouped : (group : List ℕ) → List ℕ → List ℕ
grouped group [] = []
grouped group (d ∷ ds) = (d ∷ (if nat_lt 0 (length ds) && (length ds % 3 == 0) then group else [])) ++ grouped group ds

-- the sign and the two decimals of an amount, but none of a whole one where amounts are whole
abbrev pub decimals : Form → (hundredths : ℕ) → List ℕ
decimals form hundredths = if form.is_whole && (hundredths == 0) then []
    else form.point.now ++ ((if nat_lt hundredths 10 then codes "0" else []) ++ decimal hundredths)

-- an amount as people write it
abbrev pub shown : Form → (hundredths : ℕ) → List ℕ
shown form hundredths = form.before.now ++ (grouped form.group.now (decimal (hundredths / 100))
    ++ (decimals form (hundredths % 100) ++ form.after.now))

-- an amount in parts of a hundredth, rounded up or down to hundredths
abbrev pub rounded : Divided → ℕ
rounded d = if d.is_up then div_ceil d.amount (max 1 d.divisor) else d.amount / max 1 d.divisor
