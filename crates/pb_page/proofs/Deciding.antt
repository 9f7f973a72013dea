-- The parts of a page on which of two rules applies.
use Rattle.std.proofs.Common.{◌≡◌, ◌∙◌, ℕ, List, [], ◌∷◌, ◌++◌, ap, append-nil, append_assoc, sym}
use Rattle.std.specs.Prelude.{Option, Some, codes, flat_map, if◌then◌else◌}
use Rattle.std.specs.Option.{option_map_or}
use Rattle.pb_page.specs.Content.{Headed, Part, number, paragraph, say, section}
use Rattle.pb_page.specs.Inner.Counted.{begun, method_given, options_given, ties_option}
use Rattle.pb_page.specs.Inner.Decided.{decided_said, decision_given}
use Rattle.pb_page.specs.Inner.Filling.{cut, own}
use Rattle.pb_page.specs.Inner.Value.{code}
use Rattle.pb_page.specs.Page.{command, decided, decider}
use Rattle.pb_page.specs.declared.facts.Decided.{Decided}
use Rattle.pb_page.specs.declared.facts.Facts.{Facts}
use Rattle.pb_page.specs.declared.keys.TheConstants as key
use Rattle.pb_page.specs.declared.language.Language.{Language}
use Rattle.pb_page.specs.declared.templates.TheConstants.{DECIDED_OPENING, SECTION_CLOSING}
use Rattle.pb_page.proofs.Grown.{before, before_more, heads}
use Rattle.pb_rounds.specs.RuleNames.{profile_name}
use Rattle.pb_rounds.specs.declared.rule.Rule.{Rule}

command_as : (begun method ties decision : List Part) (rest : List ℕ)
    → before (begun ++ ((method ++ ties) ++ decision)) rest ≡ before (begun ++ (method ++ (ties ++ decision))) rest
command_as begun method ties decision rest = simp (append_assoc, before_more)

pub command_is : (facts : Facts) (r given : Rule) → given ≡ option_map_or (λ d. d.rule) facts.decided r → (rest : List ℕ)
    → before (begun facts.journal ++ (options_given given ++ decision_given facts.decided)) rest ≡ before (command facts r) rest
command_is facts r given is rest =
    let asked = option_map_or (λ (d : Decided). d.rule) facts.decided r in
    ap (λ (q : Rule). before (begun facts.journal ++ (options_given q ++ decision_given facts.decided)) rest) is
    ∙ command_as (begun facts.journal) (method_given asked) (ties_option asked) (decision_given facts.decided) rest

-- which of two rules applies
abbrev decided_put : Language → (inside : List Part) → List Part
decided_put l inside = heads l DECIDED_OPENING.now (key.DECIDED_HEADING ∷ []) ++ (inside ++ own SECTION_CLOSING.now)

decided_as : (l : Language) (inside : List Part) (rest : List ℕ)
    → before (decided_put l inside) rest
    ≡ before (section l (Headed [] (codes "decided") key.DECIDED_HEADING inside)) rest
unfolding cut
decided_as l inside rest = simp before_more

abbrev decided_laid : Language → (k : ℕ) → (given other : List ℕ) → (own others : ℕ) → (applies : List ℕ) → List Part
decided_laid l k given other own others applies = paragraph (say l k (code given ∷ code other ∷ number l (codes "decided_own") own
    ∷ number l (codes "decided_other") others ∷ code applies ∷ []))

pub decided_is : (l : Language) (d : Decided) (given other applies : List ℕ) (k mine others : ℕ)
    → k ≡ (if d.by_worth then key.DECIDED_BY_WORTH else key.DECIDED_BY_CHOICES) → mine ≡ d.own → others ≡ d.others → (rest : List ℕ)
    → before (decided_put l (decided_laid l k given other mine others applies)) rest
    ≡ before (decided_said l d given other applies) rest
decided_is l d given other applies k mine others k_is mine_is others_is rest =
    let said = if d.by_worth then key.DECIDED_BY_WORTH else key.DECIDED_BY_CHOICES in
    ap (λ (n : ℕ). before (decided_put l (decided_laid l n given other mine others applies)) rest) k_is
    ∙ ap (λ (n : ℕ). before (decided_put l (decided_laid l said given other n others applies)) rest) mine_is
    ∙ ap (λ (n : ℕ). before (decided_put l (decided_laid l said given other d.own n applies)) rest) others_is
    ∙ decided_as l (decided_laid l said given other d.own d.others applies) rest

pub decision_is : (facts : Facts) (r : Rule) (d : Decided) → facts.decided ≡ Some d → (rest : List ℕ)
    → before (decided_said facts.language d (profile_name d.rule ++ (codes "/decide=" ++ decider d)) (profile_name d.other) (profile_name r)) rest
    ≡ before (flat_map (section facts.language) (decided facts r)) rest
unfolding decided
decision_is facts r d is rest =
    let said = decided_said facts.language d (profile_name d.rule ++ (codes "/decide=" ++ decider d)) (profile_name d.other) (profile_name r) in
    rw is (sym (ap (λ (parts : List Part). before parts rest) (append-nil said)))
