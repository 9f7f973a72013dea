use Rattle.std.proofs.Common.{refl}
use Rattle.pb_desk.proofs.Replays.{replay-push}
use Rattle.pb_commands.proofs.laws.replay_is_its_steps.Goals as goal

pub returns : goal.returns
returns c = record { none = λ o. refl; one_more = replay-push }
