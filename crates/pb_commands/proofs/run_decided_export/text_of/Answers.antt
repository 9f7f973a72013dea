use Rattle.std.proofs.Common.{◌≡◌, ◌==◌, ◌∙◌, ◌∷◌, ◌++◌, [], ℕ, List, Some, ap, arith, codes, false, length, subst}
use Rattle.std.proofs.lemmas.Bool.{cond-false, ne_eqb}
use Rattle.std.specs.List.{join_with_byte}
use Rattle.std.specs.Prelude.{IfOk}
use Rattle.pb_rounds.specs.RuleNames.{rule_text}
use Rattle.pb_commands.specs.Decided.{names_of}
use Rattle.pb_commands.specs.Exported.{IsExportOf}
use Rattle.pb_commands.specs.Inner.Exporting.{own_comment}
use Rattle.pb_commands.proofs.run_decided_export.text_of.Goals as goal

not_empty : (x : ℕ) (xs : List ℕ) → (length (x ∷ xs) == 0) ≡ false
not_empty x xs = ne_eqb (length (x ∷ xs)) 0 (λ is. omega arith)

-- words of a decision are a comment
told_by : (words names : List ℕ) → words ≡ codes "Decided by " ++ names → own_comment words ≡ codes ". Decided by " ++ names
told_by words names is =
    let none : List ℕ = [] in
    ap (λ (t : List ℕ). own_comment t) is
    ∙ cond-false (length (codes "Decided by " ++ names) == 0) none (codes ". " ++ (codes "Decided by " ++ names)) (not_empty 68 (codes "ecided by " ++ names))

pub returns-clause-ok : goal.returns-clause-ok
returns-clause-ok c e election is_put =
    let rule = c.args.decided.count.rule in
    subst (λ (t : List ℕ). IfOk c.export_text.result (λ text. IsExportOf rule (rule_text rule ++ t) c.args.carried.now.further e text.items))
    (told_by c.as_str.result.now (join_with_byte 32 (names_of c.args.rule.now (Some c.args.decide.now))) (c.as_str.ensures.value ∙ c.in_ok-words.ensures))
    (c.export_text.ensures.ok e election is_put)
