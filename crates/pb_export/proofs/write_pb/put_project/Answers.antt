use Rattle.std.proofs.Common.{Bool, true, false, codes, cond, refl, subst, arith}
use Rattle.std.specs.Str.{IsUtf8}
use Rattle.std.proofs.lemmas.Result.{on_ok_weaker}
use Rattle.csv.specs.Records.{AllText}
use Rattle.pb_export.proofs.Tidy.{amount_plain, plain_text}
use Rattle.pb_export.proofs.write_pb.put_project.Goals as goal

selected_is_text : (selected : Bool) → IsUtf8 (cond selected (codes "1") (codes "0"))
selected_is_text true = plain_text (codes "1") refl
selected_is_text false = plain_text (codes "0") refl

pub returns-clause-are_text : goal.returns-clause-are_text
unfolding AllText
returns-clause-are_text c =
    let small = c.cost.ensures.is_project.affordable in
    on_ok_weaker c.put_with.result (λ further. (
      subst IsUtf8 c.id.ensures.id c.id.utf8,
      (
        plain_text _ (amount_plain c.args.project.now.cost (omega (arith, small))),
        (subst IsUtf8 c.format.ensures.text c.format.utf8, (subst IsUtf8 c.name.ensures c.name.utf8, (selected_is_text c.args.counted.1, further))),
      ),
    )) c.put_with.ensures.are_text
