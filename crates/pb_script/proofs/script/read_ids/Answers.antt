use Rattle.std.proofs.Common.{◌∙◌, sym}
use Rattle.pb_script.proofs.ScriptForms.{known_places}
use Rattle.pb_script.proofs.script.read_ids.Goals as goal

pub returns-then-branch-clause-places : goal.returns-then-branch-clause-places
returns-then-branch-clause-places c =
    let found = c.in_ok-find_places.ensures in
    known_places c.args.ids.now c.args.field.now c.find_places.new.places.items (sym found.known ∙ c.if-branch.true) (found.places c.if-branch.true)
