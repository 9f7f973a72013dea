use Rattle.std.proofs.Common.{◌≡◌, ◌≢◌, ◌⊎◌, ◌∙◌, List, ℕ, OnOk, ap, inl, inr, refl, subst, sym}
use Rattle.std.specs.Io.KnownBytes.{Appends}
use Rattle.std.proofs.lemmas.Result.{IfErr-weaker}
use Rattle.pb_durable.proofs.Openings.{if_err}
use Rattle.pb_script.specs.ScriptReading.{fault_of_row}
use Rattle.pb_faults.specs.Fault.{line, told}
use Rattle.pb_faults.specs.declared.fault.AppFault.{AppFault}
use Rattle.pb_faults.specs.declared.fault.AppFault.TheVariants.{Memory, Script, Serving}
use Rattle.pb_faults.specs.declared.serving_fault.ServingFault.TheVariants.{Output}
use Rattle.pb_serving.proofs.Answering.{Begun}
use Rattle.pb_serving.proofs.Apart.{output_not_memory}
use Rattle.pb_serving.proofs.run_serve.say_refused.Goals as goal

pub returns-in_err-said-clause-fault : goal.returns-in_err-said-clause-fault
returns-in_err-said-clause-fault g c = if_err c.from_residual.result Memory (λ (fault : AppFault). (fault ≡ Serving Output) ⊎ (fault ≡ Memory)) c.from_residual.ensures.1 (inr refl)

pub returns-in_err-said-clause-unsaid : goal.returns-in_err-said-clause-unsaid
returns-in_err-said-clause-unsaid g c = if_err c.from_residual.result Memory _ c.from_residual.ensures.1 (λ other. refl)

pub returns-in_err-said-clause-front : goal.returns-in_err-said-clause-front
returns-in_err-said-clause-front g c = if_err c.from_residual.result Memory _ c.from_residual.ensures.1 (λ output. absurd (output_not_memory output))

pub returns-clause-ok : goal.returns-clause-ok
returns-clause-ok g c =
    let is : c.as_slice.result.now ≡ line (told (Script (fault_of_row c.args.why c.args.row))).1 = c.as_slice.ensures.value ∙ c.in_ok-said.ensures in
    subst (λ (t : List ℕ). OnOk c.write_out.result (Appends (g.W.Write.contents c.args.writer.now) (g.W.Write.contents c.write_out.new.writer) t)) is c.write_out.ensures.ok

pub returns-clause-fault : goal.returns-clause-fault
returns-clause-fault g c = IfErr-weaker c.write_out.result (λ (fault : AppFault). fault ≡ Serving Output) (λ (fault : AppFault). (fault ≡ Serving Output) ⊎ (fault ≡ Memory)) (λ fault is. inl is) c.write_out.ensures.fault

pub returns-clause-unsaid : goal.returns-clause-unsaid
returns-clause-unsaid g c = IfErr-weaker c.write_out.result (λ (fault : AppFault). fault ≡ Serving Output) _ (λ fault is other. absurd (other is)) c.write_out.ensures.fault

pub returns-clause-front : goal.returns-clause-front
returns-clause-front g c =
    let is : c.as_slice.result.now ≡ line (told (Script (fault_of_row c.args.why c.args.row))).1 = c.as_slice.ensures.value ∙ c.in_ok-said.ensures in
    let before = g.W.Write.contents c.args.writer.now in
    let after = g.W.Write.contents c.write_out.new.writer in
    IfErr-weaker c.write_out.result (λ (fault : AppFault). Begun before after c.as_slice.result.now) _ (λ fault begun output. subst (Begun before after) is begun) c.write_out.ensures.front
