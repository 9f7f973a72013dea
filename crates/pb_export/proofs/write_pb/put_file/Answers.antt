use Rattle.std.proofs.Common.{◌∷◌, ◌∙◌, [], List, codes, append_assoc, decimal, length, subst, sym}
use Rattle.std.proofs.lemmas.Result.{on_ok_weaker}
use Rattle.pb_core.specs.Inner.Terms.{terms_of}
use Rattle.pb_rows.specs.Reading.{Fields}
use Rattle.pb_export.specs.Inner.Parts.{key_rows, terms_rows}
use Rattle.pb_export.specs.Inner.Growing.{Grows}
use Rattle.pb_export.proofs.Grown.{grown}
use Rattle.pb_export.proofs.Metas.{meta_is}
use Rattle.pb_export.proofs.write_pb.put_file.Goals as goal

pub returns : goal.returns
returns c =
    let e = c.args.election.now in
    let told = c.args.told.now in
    let old = c.args.rows.now.text in
    let projects = rw c.projects.ensures.projects at c.in_ok-put_projects.ensures in
    let keys = rw c.keys.ensures.keys at c.in_ok-put_keys.ensures in
    let front : List Fields =
    (codes "META" ∷ []) ∷ (codes "key" ∷ codes "value" ∷ []) ∷ terms_rows (terms_of e) in
    let last : List Fields =
    (codes "num_projects" ∷ decimal (length e.projects) ∷ []) ∷ (codes "num_votes" ∷ decimal (length e.voters) ∷ []) ∷ (codes "rule" ∷ told.rule.now ∷ []) ∷ (codes "comment" ∷ told.comment.now ∷ []) ∷ [] in
    let meta = subst (λ (rows : List Fields). Grows rows old c.put_keys.new.rows.text) (append_assoc front last (key_rows told.further.now.keys) ∙ sym (meta_is e told.rule.now told.comment.now told.further.now.keys))
    (grown _ _ old c.put_meta.new.rows.text c.put_keys.new.rows.text c.in_ok-put_meta.ensures keys) in
    on_ok_weaker c.put_votes.result (λ votes. grown _ _ old c.put_projects.new.rows.text c.put_votes.new.rows.text (grown _ _ old c.put_keys.new.rows.text c.put_projects.new.rows.text meta projects) votes)
    c.put_votes.ensures
