use Rattle.pb_ids.proofs.TableFacts.{shown_none, shows_none}
use Rattle.pb_ids.proofs.id_table.IdTable.new.Goals as goal

pub invariant_of-result : goal.invariant_of-result
invariant_of-result g c = (shows_none c.new.ensures.none, (c.new.ensures.few, tt))

pub returns : goal.returns
returns g c = shown_none c.new.ensures.none c.result-1.given.0
