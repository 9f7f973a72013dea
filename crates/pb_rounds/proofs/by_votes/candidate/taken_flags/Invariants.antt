use Rattle.std.proofs.Common.{◌≡◌, ℕ, ◌<◌, List, Bool, length, false, get_or, take}
use Rattle.pb_rounds.specs.MostVotes.{is_taken}
use Rattle.pb_rounds.proofs.by_votes.candidate.taken_flags.Given as goal

pub record AreFlags (n : ℕ) (flags : List Bool) (taken : List ℕ) : Type 0 where
  pub long : length flags ≡ n
  pub are : (k : ℕ) → k < n → get_or flags k false ≡ is_taken taken k

abbrev pub invariant-loop-place : goal.invariant-loop-place
invariant-loop-place g l = AreFlags l.projects l.flags.items (take l.place-index l.taken)
