use Rattle.std.proofs.Common.{◌∙◌, ◌++◌, ◌∷◌, [], ap, map, string_bytes}
use Rattle.std.proofs.lemmas.List.{map_push}
use Rattle.pb_read.proofs.project_ids.note.Goals as goal

pub returns-clause-ids : goal.returns-clause-ids
returns-clause-ids c =
    let ids = c.args.ids.now.items in
    ap (map string_bytes) c.in_ok-push.ensures.items ∙ map_push string_bytes ids c.in_ok-from_str.field-0
    ∙ ap (λ id. map string_bytes ids ++ id ∷ []) c.in_ok-from_str.ensures.ok
