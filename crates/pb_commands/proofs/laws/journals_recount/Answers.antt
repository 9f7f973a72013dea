use Rattle.pb_commands.proofs.Closings.{report_of_count}
use Rattle.pb_commands.proofs.Recounts.{accepted, recounted, written}
use Rattle.pb_commands.proofs.laws.journals_recount.Goals as goal

pub returns : goal.returns
returns c = record {
  accepted = accepted;
  recounted = recounted;
  written = written;
  winners = λ d rule c. report_of_count rule d c;
}
