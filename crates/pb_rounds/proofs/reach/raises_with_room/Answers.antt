use Rattle.std.proofs.Common.{arith}
use Rattle.pb_rounds.proofs.Room.{raised_within, room_so_far}
use Rattle.pb_rounds.proofs.reach.raises_with_room.Goals as goal

pub raised_share-requires : goal.raised_share-requires
raised_share-requires g c =
    raised_within c.args.opening c.args.step c.args.max_raises _ (omega (arith, c.loop-low-test.true, c.loop-low.invariant.within)) c.requires.share

pub loop-low-preserved-then-leaves_room : goal.loop-low-preserved-then-leaves_room
loop-low-preserved-then-leaves_room g c = record {
  ordered = omega (arith, c.loop-low-test.true);
  within = c.loop-low.invariant.within;
  room = room_so_far c.args.supporters.now c.args.budget c.args.opening c.args.step _ c.raised_share.result c.raised_share.ensures
      (c.leaves_room.ensures c.if-leaves_room.true);
}
