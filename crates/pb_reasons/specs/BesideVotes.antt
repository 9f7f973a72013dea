-- A count beside most votes first.
use Rattle.std.specs.Prelude.{ℕ, List, []}
use Rattle.pb_core.specs.Election.{ElectionView}
use Rattle.pb_rounds.specs.MostVotes.{most_votes_first}
use Rattle.pb_price.specs.Supporters.{support_of}
use Rattle.pb_reasons.specs.Comparison.{comparison_of}
use Rattle.pb_reasons.specs.Counted.{CountedView, winners_of}
use Rattle.pb_reasons.specs.declared.comparison.Comparison.{Comparison}

-- whom most votes first elects, from an empty list and with the whole budget
abbrev pub elected_by_votes : ElectionView → List ℕ
elected_by_votes e = most_votes_first (support_of e) [] e.budget

-- the rows of a count and of most votes first, each beside the other
abbrev pub beside_votes : ElectionView → CountedView → Comparison
beside_votes e c = comparison_of e (winners_of c) (elected_by_votes e)
