use Rattle.std.proofs.Common.{None, false, subst}
use Rattle.pb_script.specs.declared.admission.Admission.{Admission}
use Rattle.pb_commands.specs.DeskRun.{DeskRefuses, DeskWrites}
use Rattle.pb_commands.specs.Ends.{Runs}
use Rattle.pb_commands.specs.declared.run_desk.Rules.{Rules}
use Rattle.pb_commands.proofs.run_desk.run_desk.Goals as goal

-- all that these admit, and by places
abbrev by_places : Admission → Rules
by_places a = record { by_id = false; keeps_file = false; admission = a }

pub returns : goal.returns
returns g c =
    subst (λ (a : Admission). Runs (λ bytes rows. DeskWrites (by_places a) bytes rows c.args.clerks c.args.shuts) (λ _ rows. DeskRefuses (by_places a) rows c.args.clerks)
    (g.P.Read.remaining c.args.file) (g.S.Read.remaining c.args.script) (None, None, None) g.W.Write.contents c.args.writer.now c.run_admitted_desk.new.writer c.run_admitted_desk.result)
    c.open.ensures c.run_admitted_desk.ensures.runs
