use Rattle.std.proofs.Common.{◌==◌, ◌++◌, [], ℕ, List, append-nil, append_assoc, codes, length, string_bytes, ap, ◌∙◌, sym}
use Rattle.std.proofs.lemmas.Bool.{cond-false, cond-true}
use Rattle.pb_commands.proofs.export_text.put_own.Goals as goal

pub returns-then-is_empty : goal.returns-then-is_empty
returns-then-is_empty c =
    let own = c.args.own.now in
    let old = string_bytes c.args.text.now in
    let none : List ℕ = [] in
    sym (ap (λ (t : List ℕ). old ++ t) (cond-true (length own == 0) none (codes ". " ++ own) (sym c.is_empty.ensures ∙ c.if-is_empty.true)) ∙ append-nil old)

pub returns : goal.returns
returns c =
    let own = c.args.own.now in
    let old = string_bytes c.args.text.now in
    let none : List ℕ = [] in
    c.in_ok-push_str-2.ensures.bytes ∙ ap (λ (t : List ℕ). t ++ own) c.in_ok-push_str.ensures.bytes ∙ append_assoc old (codes ". ") own
    ∙ sym (ap (λ (t : List ℕ). old ++ t) (cond-false (length own == 0) none (codes ". " ++ own) (sym c.is_empty.ensures ∙ c.if-is_empty.false)))
