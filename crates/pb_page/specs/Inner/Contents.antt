-- The sections of a page as they are put, and the links to them.
use Rattle.std.specs.Prelude.{◌==◌, ℕ, Bool, false, true, List, [], ◌∷◌, ◌++◌, codes, flat_map, if◌then◌else◌, is_some, length, not}
use Rattle.pb_page.specs.Content.{Part, fill, said, section, text}
use Rattle.pb_page.specs.Inner.Counted.{voters_told}
use Rattle.pb_page.specs.Page.{added_apart, besides, budget, categories, check, decided, others, rule, winners}
use Rattle.pb_page.specs.declared.facts.Facts.{Facts}
use Rattle.pb_page.specs.declared.keys.TheConstants as key
use Rattle.pb_page.specs.declared.language.Language.{Language}
use Rattle.pb_reasons.specs.CountedElection.{CountedElectionView}
use Rattle.pb_reasons.specs.declared.raise_end.RaiseEnd.{RaiseEnd}
use Rattle.pb_rounds.specs.Count.{no_shares}

-- whether projects stand beside what is elected
abbrev pub has_added : CountedElectionView → Bool
has_added x = if no_shares x.rule.options.completion then false else not (length x.counted.added == 0)

-- a link to the section of this name, by its heading, where the page has it; and all of them
abbrev pub link_to : Language → (is_there : Bool) → (name : List ℕ) → (heading : ℕ) → List Part
link_to l is_there name heading =
    if is_there then fill (codes "<li><a href='#~'>~</a></li>\n") (text name ∷ said l heading ∷ []) else []

abbrev pub links_to : Facts → CountedElectionView → List Part
links_to facts x = let l = facts.language in link_to l true (codes "budget") key.BUDGET_HEADING
    ++ (link_to l true (codes "winners") key.WINNERS_HEADING ++ (link_to l (has_added x) (codes "added") key.ADDED_HEADING
    ++ (link_to l true (codes "others") key.OTHERS_HEADING ++ (link_to l (is_some facts.categories) (codes "categories") key.CATEGORIES_HEADING
    ++ (link_to l true (codes "voters") key.VOTERS_HEADING ++ (link_to l facts.compares (codes "compared") key.COMPARED_HEADING
    ++ (link_to l (is_some facts.decided) (codes "decided") key.DECIDED_HEADING
    ++ (link_to l true (codes "rule") key.RULE_HEADING ++ link_to l true (codes "check") key.CHECK_HEADING))))))))

unfoldable pub contents : Facts → CountedElectionView → List Part
contents facts x = fill (codes "<nav aria-label='~'>\n<ul>\n~</ul>\n</nav>\n")
    (said facts.language key.CONTENTS ∷ links_to facts x ∷ [])

-- the sections, one after the other
abbrev pub sections : Facts → CountedElectionView → RaiseEnd → List Part
sections facts x end = let l = facts.language in section l (budget l x) ++ (section l (winners facts x)
    ++ (flat_map (section l) (added_apart facts x) ++ (section l (others facts x) ++ (flat_map (section l) (categories facts x)
    ++ (voters_told l x ++ (flat_map (section l) (besides facts x) ++ (flat_map (section l) (decided facts x.rule)
    ++ (section l (rule l x end) ++ section l (check facts x.rule)))))))))
