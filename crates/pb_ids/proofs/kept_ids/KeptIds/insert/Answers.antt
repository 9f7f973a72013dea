use Rattle.std.proofs.Common.{Some, nat_eq, sym, ◌∙◌}
use Rattle.std.proofs.lemmas.Map.Text.{hash_map_updates_text}
use Rattle.indexmap.specs.IndexMap.{get, get_by_text}
use Rattle.std.specs.BTreeMap as tree
use Rattle.std.specs.Prelude.{string_bytes}
use Rattle.pb_ids.proofs.KeptFacts.{code_some, code_none, none_lent, found_after_long, found_after_short, found_before_long}
use Rattle.pb_ids.proofs.kept_ids.KeptIds.insert.Goals as goal

pub returns-in-Some-clause-places : goal.returns-in-Some-clause-places
returns-in-Some-clause-places g c = λ text.
    let ids = c.args.self.now in
    let has = code_some c.args.id.now c.in-Some.code (sym c.code_of.ensures ∙ c.in-Some.is) in
    let unknown = none_lent c.get.result _ c.get.ensures.value (sym c.is_some.ensures ∙ c.if-is_some.false) in
    found_after_short (tree.get_by_text ids.crowded) (get nat_eq ids.short) (get_by_text ids.long) c.args.id.now text c.args.place unknown
    (get nat_eq c.insert.new.self) c.in-Some.code has c.in_ok-before.ensures.updates.0

pub returns-clause-before : goal.returns-clause-before
returns-clause-before g c =
    let ids = c.args.self.now in
    let has = code_none c.args.id.now (sym c.code_of.ensures ∙ c.in_default.is) in
    let unknown = none_lent c.get.result _ c.get.ensures.value (sym c.is_some.ensures ∙ c.if-is_some.false) in
    found_before_long (tree.get_by_text ids.crowded c.args.id.now) (get nat_eq ids.short) (get_by_text ids.long) c.args.id.now (string_bytes c.in_ok-text.text) c.in_ok-before-2.before
    unknown c.in_ok-text.ensures.ok has c.in_ok-before-2.ensures.old

pub returns-clause-places : goal.returns-clause-places
returns-clause-places g c = λ text.
    let ids = c.args.self.now in
    let has = code_none c.args.id.now (sym c.code_of.ensures ∙ c.in_default.is) in
    let unknown = none_lent c.get.result _ c.get.ensures.value (sym c.is_some.ensures ∙ c.if-is_some.false) in
    found_after_long (tree.get_by_text ids.crowded) (get nat_eq ids.short) (get_by_text ids.long) c.args.id.now text c.args.place unknown
    (get_by_text c.insert-2.new.self) (string_bytes c.in_ok-text.text) c.in_ok-text.ensures.ok has
    (hash_map_updates_text (string_bytes c.in_ok-text.text) ids.long c.insert-2.new.self (Some c.args.place) c.in_ok-before-2.ensures.updates)
