use Rattle.std.proofs.Common.{◌∙◌}
use Rattle.pb_commands.proofs.FrontsWritten.{memory_alone, text_or_front}
use Rattle.pb_commands.proofs.digested.write_digested.Goals as goal

pub returns-clause-written : goal.returns-clause-written
returns-clause-written g c =
    let is = c.as_slice.ensures.value ∙ c.in_ok-text.ensures in
    text_or_front _ (g.W.Write.contents c.args.writer.now) (g.W.Write.contents c.write_out.new.writer) c.write_out.result (rw is at c.write_out.ensures.ok) (rw is at c.write_out.ensures.front)

pub returns-in_err-text-clause-written : goal.returns-in_err-text-clause-written
returns-in_err-text-clause-written g c = memory_alone _ _ c.from_residual.result c.from_residual.ensures.1
