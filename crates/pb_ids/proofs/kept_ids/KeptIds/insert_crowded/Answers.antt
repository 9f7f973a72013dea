use Rattle.std.proofs.Common.{Some, ap, ◌∙◌, cond}
use Rattle.std.specs.BTreeMap as tree
use Rattle.std.specs.Prelude.{string_bytes}
use Rattle.std.specs.Str.{bytes_eq}
use Rattle.std.proofs.lemmas.Map.Text.{btree_map_updates_text}
use Rattle.pb_ids.proofs.KeptFacts.{found_after_crowded}
use Rattle.pb_ids.specs.Inner.Kept.{hashed}
use Rattle.pb_ids.proofs.kept_ids.KeptIds.insert_crowded.Goals as goal

pub returns-clause-places : goal.returns-clause-places
returns-clause-places g c = λ text.
    found_after_crowded c.args.id.now text c.args.place (hashed c.args.self.now text) (tree.get_by_text c.args.self.now.crowded text) (tree.get_by_text c.insert.new.self text)
    (btree_map_updates_text (string_bytes c.in_ok-text.text) c.args.self.now.crowded c.insert.new.self (Some c.args.place) c.in_ok-insert.ensures.updates text
    ∙ ap (λ bs. cond (bytes_eq bs text) (Some c.args.place) (tree.get_by_text c.args.self.now.crowded text)) c.in_ok-text.ensures.ok)
