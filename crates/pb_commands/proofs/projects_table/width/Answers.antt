use Rattle.pb_commands.proofs.TableColumns.{width_is}
use Rattle.pb_rounds.specs.declared.rule.FillUp.TheVariants.{Nothing, MostVotes}
use Rattle.pb_commands.proofs.projects_table.width.Goals as goal

pub returns-in-Nothing-clause-width : goal.returns-in-Nothing-clause-width
returns-in-Nothing-clause-width c = λ x is. width_is x Nothing (rw c.in-Nothing.is at is)

pub returns-in-MostVotes-clause-width : goal.returns-in-MostVotes-clause-width
returns-in-MostVotes-clause-width c = λ x is. width_is x MostVotes (rw c.in-MostVotes.is at is)
