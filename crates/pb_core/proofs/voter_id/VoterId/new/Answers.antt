use Rattle.std.proofs.Common.{◌≡◌, ◌==◌, length, [], sym, ◌∙◌, ap}
use Rattle.std.specs.Prelude.{string_bytes}
use Rattle.std.specs.Str.{trim}
use Rattle.std.proofs.lemmas.Bool.{false≢true}
use Rattle.pb_core.proofs.Trim.{trim-trim}
use Rattle.pb_core.proofs.voter_id.VoterId.new.Goals as goal

pub invariant_of-result : goal.invariant_of-result
invariant_of-result g c =
    let text_is : string_bytes c.in_ok-text.text ≡ trim c.args.text.now = c.in_ok-text.ensures.ok ∙ c.trim-trimmed.ensures.trim in
    record {
      not_empty = λ empty. let gone : c.trim-trimmed.result.now ≡ [] = c.trim-trimmed.ensures.trim ∙ (sym text_is ∙ empty) in
          false≢true (sym c.if-is_empty.false ∙ (c.is_empty.ensures ∙ ap (λ t. length t == 0) gone));
      is_trimmed = rw text_is (trim-trim c.args.text.now c.utf8.text);
    }
