-- How finely money is counted.
use Rattle.std.specs.Prelude.{ℕ, ◌*◌, max}
use Rattle.pb_price.specs.declared.grain.Grain.{Grain}
use Rattle.pb_price.specs.declared.grain.Grain.TheVariants.{Hundredths, Fine}

-- an amount of hundredths in the parts that are counted: in hundredths; or in fine money in parts of a
-- hundredth, of which there are 10,000 for each voter, or one where nobody votes
abbrev pub in_parts : Grain → (voters amount : ℕ) → ℕ
in_parts Hundredths voters amount = amount
in_parts Fine voters amount = max 1 (10000 * voters) * amount
