use Rattle.std.proofs.Common.{refl}
use Rattle.pb_core.proofs.OrderWords.{approved_position, as_many_projects, first_position, no_position, position_approved, positions_rise, project_moves, voters_stay}
use Rattle.pb_core.proofs.laws.orders_are_their_words.Goals as goal

pub returns : goal.returns
returns c = record {
  first = first_position;
  none = no_position;
  rising = positions_rise;
  approved = λ order ballot position. (position_approved order ballot position, approved_position order ballot position);
  terms = λ order e. (refl, refl);
  projects = λ order e election is as_many. (as_many_projects e order election is as_many, project_moves e order election is as_many);
  voters = voters_stay;
}
