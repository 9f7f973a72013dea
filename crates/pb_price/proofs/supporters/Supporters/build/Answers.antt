use Rattle.std.proofs.Common.{arith}
use Rattle.pb_price.proofs.supporters.Supporters.build.Goals as goal

pub build_in-requires : goal.build_in-requires
build_in-requires g c k d below = let small = (c.projects-projects.ensures.is_election.are_projects k d below).affordable in omega (arith, small)
