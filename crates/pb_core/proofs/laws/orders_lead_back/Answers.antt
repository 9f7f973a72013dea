use Rattle.pb_core.proofs.InOrder.{orders_lead_back}
use Rattle.pb_core.proofs.laws.orders_lead_back.Goals as goal

pub returns : goal.returns
returns c e order election is many = orders_lead_back e order election is many
