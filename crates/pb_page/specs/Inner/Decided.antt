-- Words of private contracts on which of two rules applies.
use Rattle.std.specs.Prelude.{ℕ, List, [], ◌∷◌, codes, if◌then◌else◌, Option, map}
use Rattle.std.specs.Option.{option_map_or}
use Rattle.pb_page.specs.Content.{Headed, Part, fill, number, paragraph, say, section, text}
use Rattle.pb_page.specs.Page.{decider}
use Rattle.pb_page.specs.Inner.Value.{code}
use Rattle.pb_page.specs.declared.facts.Decided.{Decided}
use Rattle.pb_page.specs.declared.keys.TheConstants as key
use Rattle.pb_page.specs.declared.language.Language.{Language}
use Rattle.pb_rounds.specs.RuleNames.{profile_name}

-- the section, where the rules are called so
abbrev pub decided_said : Language → Decided → (given other applies : List ℕ) → List Part
decided_said l d given other applies = section l (Headed [] (codes "decided") key.DECIDED_HEADING
    (paragraph (say l (if d.by_worth then key.DECIDED_BY_WORTH else key.DECIDED_BY_CHOICES) (code given ∷ code other
    ∷ number l (codes "decided_own") d.own ∷ number l (codes "decided_other") d.others ∷ code applies ∷ []))))

-- the options by which it was decided, if it was
abbrev pub decision_given : Option Decided → List Part
decision_given decided = option_map_or (λ d. fill (codes " --decide ~ --beside ~") (map text (decider d ∷ profile_name d.other ∷ [])))
    decided []
