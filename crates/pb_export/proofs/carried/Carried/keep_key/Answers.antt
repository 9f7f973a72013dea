use Rattle.std.proofs.Common.{◌≡◌, true, false, ap, sym, ◌∙◌, refl, true≢false}
use Rattle.std.specs.Prelude.{codes, string_bytes}
use Rattle.std.specs.Str.{trim}
use Rattle.csv.specs.Records.{fields_of}
use Rattle.pb_read.specs.Rows.{field, is_word}
use Rattle.pb_export.proofs.KeptFields.{field_is_utf8}
use Rattle.pb_export.proofs.NewColumns.{key_came, word_is}
use Rattle.pb_export.proofs.carried.Carried.keep_key.Goals as goal

pub returns-then-eq_ignore_ascii_case-clause-key : goal.returns-then-eq_ignore_ascii_case-clause-key
returns-then-eq_ignore_ascii_case-clause-key c = λ are.
    let row = fields_of c.args.record.now in
    let name = c.text_at-name.ensures (field_is_utf8 row 0 are) in
    let is : is_word (codes "comment") (trim (field row 0)) ≡ true =
    word_is c.eq_ignore_ascii_case.result true c.text_at-name.result.now (trim (field row 0)) (codes "comment") name c.eq_ignore_ascii_case.ensures.test c.if-eq_ignore_ascii_case.true in
    record {
      key = λ isnt. absurd (true≢false (sym is ∙ isnt));
      comment = rw is (ap string_bytes c.replace.ensures.after ∙ c.in_ok-comment.ensures.ok ∙ c.text_at-value.ensures (field_is_utf8 row 1 are));
    }

pub returns-in-Some-before-clause-key : goal.returns-in-Some-before-clause-key
returns-in-Some-before-clause-key c = λ are.
    let row = fields_of c.args.record.now in
    let name = c.text_at-name.ensures (field_is_utf8 row 0 are) in
    let isnt : is_word (codes "comment") (trim (field row 0)) ≡ false =
    word_is c.eq_ignore_ascii_case.result false c.text_at-name.result.now (trim (field row 0)) (codes "comment") name c.eq_ignore_ascii_case.ensures.test c.if-eq_ignore_ascii_case.false in
    record {
      key = λ not_comment. key_came c.args.self.now c.in-Some.keys c.in-Some.is c.number_of.new.self.came c.text_at-name.result.now (trim (field row 0)) name c.in_ok-before.ensures;
      comment = rw isnt refl;
    }

pub returns-in-None-clause-key : goal.returns-in-None-clause-key
returns-in-None-clause-key c = λ are.
    let row = fields_of c.args.record.now in
    let name = c.text_at-name.ensures (field_is_utf8 row 0 are) in
    let isnt : is_word (codes "comment") (trim (field row 0)) ≡ false =
    word_is c.eq_ignore_ascii_case.result false c.text_at-name.result.now (trim (field row 0)) (codes "comment") name c.eq_ignore_ascii_case.ensures.test c.if-eq_ignore_ascii_case.false in
    record {
      key = λ not_comment. key_came c.args.self.now c.in-Some.keys c.in-Some.is c.number_of.new.self.came c.text_at-name.result.now (trim (field row 0)) name c.in_ok-before.ensures;
      comment = rw isnt refl;
    }

pub returns-in_ok-push-in-None-2-clause-key : goal.returns-in_ok-push-in-None-2-clause-key
returns-in_ok-push-in-None-2-clause-key c = λ are.
    let row = fields_of c.args.record.now in
    let name = c.text_at-name.ensures (field_is_utf8 row 0 are) in
    let isnt : is_word (codes "comment") (trim (field row 0)) ≡ false =
    word_is c.eq_ignore_ascii_case.result false c.text_at-name.result.now (trim (field row 0)) (codes "comment") name c.eq_ignore_ascii_case.ensures.test c.if-eq_ignore_ascii_case.false in
    record {
      key = λ not_comment. key_came c.args.self.now c.in-Some.keys c.in-Some.is c.number_of.new.self.came c.text_at-name.result.now (trim (field row 0)) name c.in_ok-before.ensures;
      comment = rw isnt refl;
    }
