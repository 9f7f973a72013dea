use Rattle.std.proofs.Common.{◌∙◌, List, ℕ, ap, length, refl, sym}
use Rattle.std.specs.Prelude.{◌==◌, not}
use Rattle.pb_page.proofs.contents.has_added.Goals as goal

pub returns-then-has_no_shares : goal.returns-then-has_no_shares
returns-then-has_no_shares c = rw (sym (rw c.rule.ensures at c.has_no_shares.ensures) ∙ c.if-has_no_shares.true) refl

pub returns : goal.returns
returns c =
    rw (sym (rw c.rule.ensures at c.has_no_shares.ensures) ∙ c.if-has_no_shares.false)
    (ap not (c.is_empty.ensures ∙ ap (λ (places : List ℕ). length places == 0) c.added.ensures))
