use Rattle.std.proofs.Common.{◌≡◌, ◌++◌, ℕ, List, append_assoc, codes, decimal, string_bytes, ap, ◌∙◌}
use Rattle.pb_rounds.proofs.rule_words.put_terms.Goals as goal

-- a text after some part, and one more part after it
part : (base old new first more : List ℕ) → old ≡ base ++ first → new ≡ old ++ more → new ≡ base ++ (first ++ more)
part base old new first more before after = after ∙ ap (λ (t : List ℕ). t ++ more) before ∙ append_assoc base first more

pub returns : goal.returns
returns c =
    let base = string_bytes c.args.text.now in
    let step = c.args.step.now in
    let a = c.in_ok-push_str.ensures.bytes in
    let b = part base (string_bytes c.push_str.new.self) (string_bytes c.push_str-2.new.self) (codes ", raises of ") step a c.in_ok-push_str-2.ensures.bytes in
    let d = part base (string_bytes c.push_str-2.new.self) (string_bytes c.push_str-3.new.self) (codes ", raises of " ++ step) (codes ", at most ") b c.in_ok-push_str-3.ensures.bytes in
    part base (string_bytes c.push_str-3.new.self) (string_bytes c.push_str-4.new.self) (codes ", raises of " ++ step ++ codes ", at most ") (decimal c.args.most) d
    (c.in_ok-push_str-4.ensures.bytes ∙ ap (λ (t : List ℕ). string_bytes c.push_str-3.new.self ++ t) c.format.ensures.text)
