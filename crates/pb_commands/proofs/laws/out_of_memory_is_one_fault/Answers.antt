use Rattle.pb_commands.proofs.MemoryTold.{is_merged}
use Rattle.pb_commands.proofs.laws.out_of_memory_is_one_fault.Goals as goal

pub returns : goal.returns
returns c = is_merged
