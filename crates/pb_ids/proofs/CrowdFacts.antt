-- How many entries a table has that is counted.
use Rattle.std.proofs.Common.{ℕ, ◌/◌, ◌^◌, ◌<◌, ◌≤◌, arith}
use Rattle.std.proofs.Math.Pow.{pow_mono}
use Rattle.pb_ids.specs.Inner.Crowd.{IsTable}
use Rattle.pb_ids.specs.Inner.Kept.{most_hashed}

pub few_entries : (bits len : ℕ) → IsTable bits len → len < most_hashed
few_entries bits len table =
    let most : 2 ^ bits ≤ 2 ^ 17 = pow_mono table.most in
    let holds = table.holds in
    omega arith

pub many_entries : (len : ℕ) → 2 ^ 17 ≤ len / 9 → most_hashed ≤ len
many_entries len many = omega arith
