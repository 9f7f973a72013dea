use Rattle.std.proofs.Common.{◌≡◌, ◌<◌, ◌^◌, true, nat_lt, reverse, take}
use Rattle.std.specs.List.{list_all}
use Rattle.pb_ids.specs.Inner.Kept.{digits}
use Rattle.pb_ids.proofs.kept_ids.code_of.Given as goal

abbrev pub invariant-loop-byte : goal.invariant-loop-byte
invariant-loop-byte l = record {
  value : l.code ≡ digits (reverse (take l.byte-index l.bytes));
  small : list_all (λ b. nat_lt b 255) (take l.byte-index l.bytes) ≡ true;
  bound : l.code < 256 ^ l.byte-index;
}
