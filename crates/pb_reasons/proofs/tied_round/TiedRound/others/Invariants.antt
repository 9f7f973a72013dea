use Rattle.std.proofs.Common.{◌≡◌, ◌<◌, drop, length, take}
use Rattle.std.specs.Prelude.{All, filter}
use Rattle.pb_reasons.specs.Inner.Rounds.{AreTieBounds}
use Rattle.pb_reasons.specs.Inner.TieQueue.{AreQueued}
use Rattle.pb_reasons.specs.Ties.{is_tied}
use Rattle.pb_reasons.proofs.tied_round.TiedRound.others.Given as goal

abbrev pub invariant-loop-place : goal.invariant-loop-place
invariant-loop-place l = record {
  known : All (λ place. place < length l.self.supporters.now.costs) l.places;
  bounds : AreTieBounds l.self.supporters.now l.self.elected.now l.self.rests.now l.bounds.items;
  queued : AreQueued l.self.measure l.self.supporters.now (drop l.place-index l.places) l.bounds.items l.queue.keys;
  others : l.others.items ≡ filter (is_tied l.self.measure l.self.supporters.now l.self.elected.now l.self.rests.now l.self.winner) (take l.place-index l.places);
}
