-- Why prices are not computed.
use Rattle.std.specs.Prelude.{ℕ, Bool, ◌&&◌, nat_le}

-- 1 to 64 workers
abbrev pub is_worker_count : ℕ → Bool
is_worker_count workers = nat_le 1 workers && nat_le workers 64
