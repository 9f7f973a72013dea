use Rattle.std.proofs.Common.{◌≡◌, ◌∙◌, ◌<◌, ◌++◌, ◌∷◌, [], List, ℕ, ap, subst, sym, length, map, min, rules, arith, string_bytes}
use Rattle.std.proofs.lemmas.List.{length-map}
use Rattle.pb_witness.proofs.Notes.{Found, found_tried, here_next, kept_texts, number_is, pushed}
use Rattle.pb_witness.proofs.page_notes.NumberedTexts.number_of.Goals as goal

pub invariant_of-self-inside-2 : goal.invariant_of-self-inside-2
invariant_of-self-inside-2 c =
    let items = c.self.inside.texts.items in
    let texts = map string_bytes items in
    let size = length-map items string_bytes in
    let found : Found c.self.inside.numbers texts = λ few. c.self.inside.found (omega (arith, few, size)) in
    let len : c.len.result ≡ length items = search rules in
    let next : length texts < 4294967296 → c.number_after-number.result ≡ length texts =
    number_is (length texts) c.number_after-number.result (c.number_after-number.ensures ∙ ap (λ n. min n 4294967295) (len ∙ sym size)) in
    let grown = pushed string_bytes items c.push.new.self.items c.in_ok-kept.kept c.args.text.now c.in_ok-push.ensures.items c.in_ok-kept.ensures.ok in
    let after : Found c.insert.new.self (map string_bytes c.push.new.self.items) = subst (Found c.insert.new.self) (sym grown)
    (found_tried c.insert.result c.self.inside.numbers c.insert.new.self texts c.args.text.now c.number_after-number.result found c.insert.ensures.ok c.insert.ensures.err next) in
    let new_size = length-map c.push.new.self.items string_bytes in
    ((λ few. after (omega (arith, few, new_size))), tt)

pub returns-in_err-insert-clause-kept : goal.returns-in_err-insert-clause-kept
returns-in_err-insert-clause-kept c =
    kept_texts c.args.self.now (map string_bytes c.self.inside.texts.items) (map string_bytes c.push.new.self.items) c.args.text.now c.self.view_is
    (pushed string_bytes c.self.inside.texts.items c.push.new.self.items c.in_ok-kept.kept c.args.text.now c.in_ok-push.ensures.items c.in_ok-kept.ensures.ok)

pub returns-clause-here : goal.returns-clause-here
returns-clause-here c =
    let items = c.self.inside.texts.items in
    let size = length-map items string_bytes in
    let len : c.len.result ≡ length items = search rules in
    here_next (map string_bytes items) (map string_bytes c.push.new.self.items) c.args.text.now c.number_after-number.result
    (pushed string_bytes items c.push.new.self.items c.in_ok-kept.kept c.args.text.now c.in_ok-push.ensures.items c.in_ok-kept.ensures.ok)
    (number_is (length (map string_bytes items)) c.number_after-number.result (c.number_after-number.ensures ∙ ap (λ n. min n 4294967295) (len ∙ sym size)))

pub returns-clause-kept : goal.returns-clause-kept
returns-clause-kept c =
    kept_texts c.args.self.now (map string_bytes c.self.inside.texts.items) (map string_bytes c.push.new.self.items) c.args.text.now c.self.view_is
    (pushed string_bytes c.self.inside.texts.items c.push.new.self.items c.in_ok-kept.kept c.args.text.now c.in_ok-push.ensures.items c.in_ok-kept.ensures.ok)
