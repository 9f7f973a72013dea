use Rattle.std.proofs.Common.{◌∙◌, Bool, cond, nat_eq, ap, sym}
use Rattle.indexmap.specs.IndexMap.{get, get_by_text}
use Rattle.pb_ids.specs.Inner.Kept.{code_of}
use Rattle.pb_ids.proofs.KeptFacts.{code_none}
use Rattle.pb_ids.proofs.kept_ids.KeptIds.hashed.Goals as goal

pub returns-in-None : goal.returns-in-None
returns-in-None g c =
    let ids = c.args.self.now in
    let id = c.args.id.now in
    let has = code_none id (sym c.code_of.ensures ∙ c.in-None.is) in
    c.copied-in-None.ensures ∙ c.get-in-None.ensures.value ∙ ap (λ (t : Bool). cond t (get nat_eq ids.short (code_of id)) (get_by_text ids.long id)) (sym has)
