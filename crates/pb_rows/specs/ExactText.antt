-- The text of an amount that may be no whole number of hundredths.
use Rattle.std.specs.Prelude.{◌==◌, ◌*◌, ◌/◌, ◌%◌, ◌++◌, ℕ, List, [], codes, decimal, if◌then◌else◌, max}
use Rattle.std.specs.List.{find, range_with_len}
use Rattle.std.specs.Option.{option_map_or}
use Rattle.pb_core.specs.MoneyText.{money_text}

-- an amount in hundredths, divided by so much (by 0 as by 1): as any amount where that is whole hundredths, else
-- the fraction of a unit whose denominator is the least, as 100/3
unfoldable pub exact_text : ℕ → ℕ → List ℕ
exact_text hundredths divisor =
    let unit = 100 * max 1 divisor in
    if hundredths % max 1 divisor == 0 then money_text (hundredths / max 1 divisor) else
    option_map_or (λ below. decimal (hundredths * below / unit) ++ (codes "/" ++ decimal below))
    (find (λ below. hundredths * below % unit == 0) (range_with_len 1 unit)) []
