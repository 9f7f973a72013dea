use Rattle.std.proofs.Common.{◌≡◌, ◌∷◌, [], List, true, false, ap, ◌∙◌, subst, sym}
use Rattle.std.specs.Str.{trim}
use Rattle.std.proofs.lemmas.Bool.{cond-false, cond-true}
use Rattle.pb_rows.specs.Reading.{Fields}
use Rattle.pb_export.specs.FileRows.{may_follow}
use Rattle.pb_export.specs.Inner.Growing.{Grows}
use Rattle.pb_export.specs.Inner.Parts.{KeyView}
use Rattle.pb_export.proofs.Grown.{none_grown}
use Rattle.pb_export.proofs.write_pb.put_key.Goals as goal

pub returns-in_ok-put_pair : goal.returns-in_ok-put_pair
returns-in_ok-put_pair c =
    let key : KeyView = c.args.key.now in
    let old = c.args.rows.now.text in
    let new = c.put_pair.new.rows.text in
    let trimmed = c.trim.ensures.trim ∙ ap trim (c.as_str.ensures.value ∙ ap (λ (k : KeyView). k.0) c.key.view_is) in
    let follows : may_follow (trim key.0) ≡ true = sym (c.may_follow.ensures ∙ ap may_follow trimmed) ∙ c.if-may_follow.true in
    let name : c.as_str-then-may_follow.result.now ≡ key.0 = c.as_str-then-may_follow.ensures.value ∙ ap (λ (k : KeyView). k.0) c.key.view_is in
    let value : c.as_str-then-may_follow-2.result.now ≡ key.1 = c.as_str-then-may_follow-2.ensures.value ∙ ap (λ (k : KeyView). k.1) c.key.view_is in
    let row : ◌≡◌ {A = Fields} (c.as_str-then-may_follow.result.now ∷ c.as_str-then-may_follow-2.result.now ∷ []) (key.0 ∷ key.1 ∷ []) = λ i. name i ∷ value i ∷ [] in
    let rows : List Fields = (key.0 ∷ key.1 ∷ []) ∷ [] in
    let none : List Fields = [] in
    subst (λ (rows : List Fields). Grows rows old new) (sym (cond-true (may_follow (trim key.0)) rows none follows))
    (subst (λ (fields : Fields). Grows (fields ∷ []) old new) row c.in_ok-put_pair.ensures)

pub returns-else-may_follow : goal.returns-else-may_follow
returns-else-may_follow c =
    let key : KeyView = c.args.key.now in
    let old = c.args.rows.now.text in
    let trimmed = c.trim.ensures.trim ∙ ap trim (c.as_str.ensures.value ∙ ap (λ (k : KeyView). k.0) c.key.view_is) in
    let follows : may_follow (trim key.0) ≡ false = sym (c.may_follow.ensures ∙ ap may_follow trimmed) ∙ c.if-may_follow.false in
    let rows : List Fields = (key.0 ∷ key.1 ∷ []) ∷ [] in
    let none : List Fields = [] in
    subst (λ (rows : List Fields). Grows rows old old) (sym (cond-false (may_follow (trim key.0)) rows none follows)) (none_grown old)
