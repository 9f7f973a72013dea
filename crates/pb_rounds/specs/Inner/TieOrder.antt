-- How equal projects compare; private contracts and proofs speak of it.
use Rattle.std.specs.Prelude.{ℕ}
use Rattle.std.specs.Ordering.{nat_cmp, then_cmp}
use Rattle.std.specs.declared.cmp.Ordering.{Ordering}
use Rattle.pb_core.specs.Election.{ElectionView}
use Rattle.pb_price.specs.Supporters.{SupportView, support_of}
use Rattle.pb_rounds.specs.RuleNames.{keys_of}
use Rattle.pb_rounds.specs.TieOrder.{lot_cmp}
use Rattle.pb_rounds.specs.declared.tie_rule.TieKeys.{TieKeys}
use Rattle.pb_rounds.specs.declared.tie_rule.TieRule.{TieRule}

-- by the keys
abbrev pub keys_cmp : TieKeys → SupportView → ℕ → ℕ → Ordering
keys_cmp k = (keys_of k).1

-- by the rule, and what is still equal by its place in the file
abbrev pub tie_cmp : TieRule → ElectionView → ℕ → ℕ → Ordering
tie_cmp ties e = then_cmp (keys_cmp ties.keys (support_of e)) (then_cmp (lot_cmp ties.lot e) nat_cmp)
