use Rattle.pb_rounds.proofs.Room.{room_decides_nothing}
use Rattle.pb_rounds.proofs.shortcut_laws.room_decides_nothing.Goals as goal

pub returns : goal.returns
returns c = room_decides_nothing
