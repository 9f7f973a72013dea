-- What is kept to tell reasons from; private contracts speak of it.
use Rattle.std.specs.Prelude.{◌≡◌, ℕ, ◌<◌, Bool, List, length, replicate, slice_index}
use Rattle.pb_core.specs.Election.{ElectionView}
use Rattle.pb_price.specs.Supporters.{SupportView, support_in}
use Rattle.pb_price.specs.declared.grain.Grain.{Grain}
use Rattle.pb_rounds.specs.Outcome.{OutcomeView}
use Rattle.pb_rounds.specs.Run.{ElectedView}
use Rattle.pb_reasons.specs.Counted.{CountedView, winners_of}
use Rattle.pb_reasons.specs.Reasons.{round_of}
use Rattle.pb_reasons.specs.Inner.Comparing.{AreFlags}
use Rattle.pb_reasons.specs.Inner.Numbers.{AreNumbers}
use Rattle.pb_reasons.specs.Inner.Replay.{full_payers_by_round}

-- the number of each project's round
pub record AreRounds (projects : ℕ) (elected : List ElectedView) (rounds : List ℕ) : Type 0 where
  pub one_each : length rounds ≡ projects
  pub numbered : (place : ℕ) → place < projects → slice_index rounds place ≡ round_of elected place

-- what contracts see of reasons: the supporters, the rounds, and how many paid in full for each of the elected
pub record ReasonsView : Type 0 where
  pub supporters : SupportView
  pub rounds : List ℕ
  pub in_full : List ℕ

-- these are the reasons of this outcome
pub record AreReasons (grain : Grain) (e : ElectionView) (o : OutcomeView) (r : ReasonsView) : Type 0 where
  pub supporters : r.supporters ≡ support_in grain e
  pub rounds : AreRounds (length e.projects) o.elected r.rounds
  pub in_full : r.in_full
      ≡ full_payers_by_round (support_in grain e) (replicate (length e.voters) o.share) o.elected

-- what contracts see of what is kept of a count: the reasons of its outcome, the number of each project among
-- the added ones, the winners, and whether each project is one of these
pub record KeptView : Type 0 where
  pub reasons : ReasonsView
  pub numbers : List ℕ
  pub winners : List ℕ
  pub flags : List Bool

-- this is kept of what a count comes to
pub record IsKept (grain : Grain) (e : ElectionView) (c : CountedView) (k : KeptView) : Type 0 where
  pub reasons : AreReasons grain e c.outcome k.reasons
  pub numbers : AreNumbers (length e.projects) c.added k.numbers
  pub winners : k.winners ≡ winners_of c
  pub flags : AreFlags (length e.projects) k.winners k.flags
