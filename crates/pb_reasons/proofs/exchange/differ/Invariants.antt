use Rattle.std.proofs.Common.{◌≡◌, ◌<◌, ℕ, get_or, true, false}
use Rattle.std.specs.Prelude.{slice_index_or}
use Rattle.pb_reasons.proofs.exchange.differ.Given as goal

abbrev pub invariant-loop-winner : goal.invariant-loop-winner
invariant-loop-winner l = (i : ℕ) → i < l.winner-index → slice_index_or l.before.has_won.items (get_or l.places (get_or l.winners i 0) 0) false ≡ true
