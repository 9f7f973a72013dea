use Rattle.std.proofs.Common.{◌∷◌, [], List, codes, refl}
use Rattle.std.proofs.lemmas.Result.{on_ok_weaker}
use Rattle.pb_rows.specs.Reading.{Fields}
use Rattle.pb_export.specs.Inner.Parts.{terms_rows}
use Rattle.pb_export.specs.Inner.Growing.{Grows}
use Rattle.pb_export.proofs.Grown.{grown, none_grown, one_text, row_grown}
use Rattle.pb_export.proofs.Tidy.{plain_text}
use Rattle.pb_export.proofs.write_pb.put_meta.Goals as goal

pub returns : goal.returns
returns c =
    let old = c.args.rows.now.text in
    let a = row_grown [] (codes "META" ∷ []) old old c.put_row.new.self.text (none_grown old) c.in_ok-put_row.ensures.text (one_text (codes "META") (plain_text (codes "META") refl)) in
    let b = grown _ _ old c.put_row.new.self.text c.put_pair.new.rows.text a c.in_ok-put_pair.ensures in
    let front = grown _ (terms_rows c.terms.result) old c.put_pair.new.rows.text c.put_terms.new.rows.text b c.in_ok-put_terms.ensures in
    let mid = c.put_terms.new.rows.text in
    let g = grown _ _ mid c.put_pair-2.new.rows.text c.put_pair-3.new.rows.text c.in_ok-put_pair-2.ensures c.in_ok-put_pair-3.ensures in
    let h = grown _ _ mid c.put_pair-3.new.rows.text c.put_pair-4.new.rows.text g c.in_ok-put_pair-4.ensures in
    let rest : List Fields = (codes "comment" ∷ c.args.comment.now ∷ []) ∷ [] in
    on_ok_weaker c.put_pair-5.result (λ (last : Grows rest c.put_pair-4.new.rows.text c.put_pair-5.new.rows.text).
    rw (c.terms.ensures.terms, c.format-projects.ensures.text, c.format-voters.ensures.text, c.projects.ensures.projects, c.voters.ensures.voters)
    at (grown _ _ old mid c.put_pair-5.new.rows.text front (grown _ rest mid c.put_pair-4.new.rows.text c.put_pair-5.new.rows.text h last))) c.put_pair-5.ensures
