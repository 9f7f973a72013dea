use Rattle.std.proofs.Common.{◌≡◌, [], rules, sym, ◌∙◌}
use Rattle.pb_commands.specs.Closed.{Gives}
use Rattle.pb_commands.specs.Ends.{known}
use Rattle.pb_app.specs.Inner.Page.{IsPageBy, PageRefuses}
use Rattle.pb_app.proofs.SameEnds.{differs_so, is_made, is_other, is_same, refused_so, said_so, same_text, was_made}
use Rattle.pb_app.proofs.run_same.run_same.Goals as goal

pub returns-in-Ok-clause-same : goal.returns-in-Ok-clause-same
returns-in-Ok-clause-same g c =
    let IsText = Gives (IsPageBy c.args.maker.now.run.now c.args.counting.now.rule.now c.args.maker.now.decide) in
    let files = g.P.Read.remaining c.args.inputs.file in
    let journals = known g.J.Read.remaining c.args.inputs.journal in
    let made = c.run_page.new.writer.items in
    let empty : c.new-made.result.items ≡ [] = search rules in
    λ none. same_text IsText files journals made c.args.published.now (sym c.as_slice.ensures.value ∙ c.first_difference-found.ensures.same none)
    (was_made IsText files journals made c.args.published.now c.new-made.result.items empty c.in-Ok.ensures.runs.writes)

pub returns-in-Ok-clause-differs : goal.returns-in-Ok-clause-differs
returns-in-Ok-clause-differs g c =
    let IsText = Gives (IsPageBy c.args.maker.now.run.now c.args.counting.now.rule.now c.args.maker.now.decide) in
    let files = g.P.Read.remaining c.args.inputs.file in
    let journals = known g.J.Read.remaining c.args.inputs.journal in
    let made = c.run_page.new.writer.items in
    let empty : c.new-made.result.items ≡ [] = search rules in
    differs_so IsText files journals made c.args.published.now c.first_difference-found.result (rw c.as_slice.ensures.value at c.first_difference-found.ensures.differs)
    (was_made IsText files journals made c.args.published.now c.new-made.result.items empty c.in-Ok.ensures.runs.writes)

pub returns-in-Ok-clause-is_page : goal.returns-in-Ok-clause-is_page
returns-in-Ok-clause-is_page g c =
    let IsText = IsPageBy c.args.maker.now.run.now c.args.counting.now.rule.now c.args.maker.now.decide in
    let made = c.run_page.new.writer.items in
    let empty : c.new-made.result.items ≡ [] = search rules in
    λ none. is_same IsText made c.args.published.now (sym c.as_slice.ensures.value ∙ c.first_difference-found.ensures.same none)
    (is_made IsText made c.args.published.now c.new-made.result.items empty c.in-Ok.ensures.written)

pub returns-in-Ok-clause-is_other : goal.returns-in-Ok-clause-is_other
returns-in-Ok-clause-is_other g c =
    let IsText = IsPageBy c.args.maker.now.run.now c.args.counting.now.rule.now c.args.maker.now.decide in
    let made = c.run_page.new.writer.items in
    let empty : c.new-made.result.items ≡ [] = search rules in
    is_other IsText made c.args.published.now c.first_difference-found.result (rw c.as_slice.ensures.value at c.first_difference-found.ensures.differs)
    (is_made IsText made c.args.published.now c.new-made.result.items empty c.in-Ok.ensures.written)

pub returns-in-Ok-clause-ends : goal.returns-in-Ok-clause-ends
returns-in-Ok-clause-ends g c =
    let rule = c.args.counting.now.rule.now in
    let decide = c.args.maker.now.decide in
    said_so (Gives (IsPageBy c.args.maker.now.run.now rule decide)) (PageRefuses rule decide) (g.P.Read.remaining c.args.inputs.file) (known g.J.Read.remaining c.args.inputs.journal) _
    c.first_difference-found.result c.in-Ok.ensures.runs.ends

pub returns-in-Err-clause-ends : goal.returns-in-Err-clause-ends
returns-in-Err-clause-ends g c =
    let rule = c.args.counting.now.rule.now in
    let decide = c.args.maker.now.decide in
    refused_so (Gives (IsPageBy c.args.maker.now.run.now rule decide)) (PageRefuses rule decide) (g.P.Read.remaining c.args.inputs.file) (known g.J.Read.remaining c.args.inputs.journal) _
    c.in-Err.fault c.of_memory.result c.of_memory.ensures.write c.of_memory.ensures.other c.in-Err.ensures.runs.ends
