use Rattle.std.proofs.Common.{◌≡◌, ◌∙◌, ap, length, arith}
use Rattle.std.specs.FinMap as finite
use Rattle.std.specs.Str.{trim}
use Rattle.csv.specs.Records.{fields_of}
use Rattle.pb_read.specs.Rows.{field}
use Rattle.pb_export.proofs.KeptFields.{field_is_utf8}
use Rattle.pb_export.proofs.carried.Carried.keep_voter.Goals as goal

pub returns-clause-voter_id : goal.returns-clause-voter_id
returns-clause-voter_id c = λ some are few.
    let row = fields_of c.args.record.now in
    let old = c.args.self.now.further in
    let number = c.unwrap_or-place.result in
    let place : number ≡ length old.voters.items = grind (arith, few, c.try_from.ensures, c.unwrap_or-place.ensures, c.len.ensures) in
    let id : c.text_at-id.result.now ≡ trim (field row c.args.columns.voter) = c.text_at-id.ensures (field_is_utf8 row c.args.columns.voter are) in
    c.in_ok-insert.ensures.ok ∙ ap (λ t. finite.insert old.places t number) id
    ∙ ap (λ n. finite.insert old.places (trim (field row c.args.columns.voter)) n) place
