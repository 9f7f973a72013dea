use Rattle.pb_desk.proofs.ballot_list.BallotList.open.Goals as goal

pub fill-requires-clause-differ : goal.fill-requires-clause-differ
fill-requires-clause-differ g c = c.requires.differ
