-- The parts of a page that are put in several pieces.
use Rattle.std.proofs.Common.{◌≡◌, ◌∙◌, ℕ, false, true, List, [], ◌∷◌, ◌++◌, ap, arith, append-nil, append_assoc, inl, inr, length, refl, subst, sym}
use Rattle.std.specs.Prelude.{◌==◌, Bool, None, Option, Some, codes, decimal, flat_map, if◌then◌else◌, is_some, map}
use Rattle.std.proofs.lemmas.Bool.{cases_Bool, eq-eqb, ne_eqb}
use Rattle.std.proofs.lemmas.Grind.{flat_map-append}
use Rattle.pb_core.specs.Election.{ElectionView}
use Rattle.pb_core.specs.MoneyText.{money_text}
use Rattle.pb_page.specs.Content.{Headed, Part, Section, amount, figure, fill, item, listed, paragraph, parted, said, say, section, section_link, text}
use Rattle.pb_page.specs.Inner.Counted.{chosen, equals, figures_of, files_said, filled_up, journal_source, link_said, made_by, name_said, options_told, picture_said, recount_said, result_said, rounds_said, rounds_told, share_said, spent_said, those_said, ties_listed, voted_said, works_said}
use Rattle.pb_page.specs.Inner.Contents.{contents, has_added, link_to, links_to, sections}
use Rattle.pb_page.specs.Inner.Filling.{cut, own}
use Rattle.pb_page.specs.Page.{added_apart, beside, besides, blocks, budget, by_raises, categories, check, command, counted_in, decided, entry, others, parts, raises_ended, rule, short_key, source, summary, tie, ties, voters, winners, works}
use Rattle.pb_page.specs.Words.{sentence}
use Rattle.pb_page.specs.declared.categories.Categories.{Categories}
use Rattle.pb_page.specs.declared.facts.Decided.{Decided}
use Rattle.pb_page.specs.declared.facts.Facts.{Facts}
use Rattle.pb_page.specs.declared.figures.Figures.{Figures}
use Rattle.pb_page.specs.declared.keys.TheConstants as key
use Rattle.pb_page.specs.declared.language.Language.{Language}
use Rattle.pb_page.specs.declared.picture.TheConstants.{GROWN_SHARES, OPENING_SHARES}
use Rattle.pb_page.specs.declared.markup.divided.Divided.{Divided}
use Rattle.pb_page.specs.declared.style.TheConstants.{META, STYLE}
use Rattle.pb_page.specs.declared.templates.TheConstants.{BLOCKS_CLOSING, BLOCKS_OPENING, BUDGET_CLOSING, BUDGET_OPENING, CHECK_CLOSING, CHECK_OPENING, CLOSING, COMMAND_CLOSING, COMMAND_OPENING, CONTENTS_CLOSING, CONTENTS_OPENING, FIGURE_CLOSING, FIGURE_OPENING, HEAD_OPENING, LEAD, LEAD_CLOSING, LEAD_NEXT, LIST_CLOSING, LIST_OPENING, MAIN, NOTHING, OPTIONS, PARAGRAPH, RULE_CLOSING, RULE_OPENING, SOURCES_CLOSING, THOSE_OPENING, TIES_OPENING, TITLE, TOP}
use Rattle.pb_page.proofs.Grown.{before, before_more, heads}
use Rattle.pb_reasons.specs.AllTies.{answered_ties}
use Rattle.pb_reasons.specs.Comparison.{choices_of}
use Rattle.pb_reasons.specs.Counted.{winners_of}
use Rattle.pb_reasons.specs.CountedElection.{CountedElectionView}
use Rattle.pb_reasons.specs.declared.raise_end.NextRaise.{NextRaise}
use Rattle.pb_reasons.specs.declared.raise_end.RaiseEnd.{RaiseEnd}
use Rattle.pb_reasons.specs.declared.raise_end.RaiseEnd.TheVariants.{Over}
use Rattle.pb_reasons.specs.declared.told_tie.ToldTie.{ToldTie}
use Rattle.pb_rounds.specs.Count.{no_shares, opening_share}
use Rattle.pb_rounds.specs.RuleNames.{by_completion, by_grain, by_measure, by_ties, profile_name}
use Rattle.pb_price.specs.Supporters.{support_in}
use Rattle.pb_rounds.specs.declared.rule.Rule.{Rule}

summary_as : (voted result : List Part) (rest : List ℕ)
    → before (own LEAD.now ++ (voted ++ (own LEAD_NEXT.now ++ (result ++ own LEAD_CLOSING.now)))) rest
    ≡ before (fill (codes "<p class='lead'>~</p>\n<p class='lead'>~</p>\n") (voted ∷ result ∷ [])) rest
summary_as voted result rest = simp before_more

budget_as : (l : Language) (says blocks spent : List Part) (rest : List ℕ)
    → before (heads l BUDGET_OPENING.now (key.BUDGET_HEADING ∷ []) ++ (says ++ (own BLOCKS_OPENING.now ++ (blocks
    ++ (own BLOCKS_CLOSING.now ++ (spent ++ own BUDGET_CLOSING.now)))))) rest
    ≡ before (section l (Headed [] (codes "budget") key.BUDGET_HEADING
    (fill (codes "<figure>\n<div class='budget' role='img' aria-label='~'>\n~</div>\n<figcaption>~</figcaption>\n</figure>\n")
    (says ∷ blocks ∷ spent ∷ [])))) rest
unfolding cut
budget_as l says those spent rest = simp (append_assoc, before_more)

-- a list in an item, where it has any items
abbrev listed_all : Language → (k : ℕ) → (attributes items : List Part) → List Part
listed_all l k attributes items = fill (codes "<li>~\n<ul~>\n~</ul>\n</li>\n") (said l k ∷ attributes ∷ items ∷ [])

not_empty : {X : Type 0} (x : X) (xs : List X) → length (x ∷ xs) == 0 ≡ false
not_empty {X} x xs = ne_eqb (length (x ∷ xs)) 0 (λ is. omega arith)

no_items : {X : Type 0} (row : X → List Part) (xs : List X) → length xs == 0 ≡ true → flat_map row xs ≡ []
no_items {X} row [] none = refl
no_items {X} row (x ∷ xs) none = let never : true ≡ false = sym none ∙ not_empty x xs in cc

those_as : (l : Language) (k : ℕ) (items : List Part) (rest : List ℕ)
    → before (heads l THOSE_OPENING.now (k ∷ []) ++ (items ++ own LIST_CLOSING.now)) rest ≡ before (listed_all l k [] items) rest
unfolding cut
those_as l k items rest = simp before_more

ties_as : (l : Language) (k : ℕ) (items : List Part) (rest : List ℕ)
    → before (heads l TIES_OPENING.now (k ∷ []) ++ (items ++ own LIST_CLOSING.now)) rest
    ≡ before (listed_all l k (own (codes " class='ties'")) items) rest
unfolding cut
ties_as l k items rest = simp before_more

rule_as : (l : Language) (works rounds method filled fine ties : List Part) (rest : List ℕ)
    → before (heads l RULE_OPENING.now (key.RULE_HEADING ∷ []) ++ (works ++ (own LIST_OPENING.now ++ (rounds
    ++ (method ++ (filled ++ (fine ++ (ties ++ own RULE_CLOSING.now)))))))) rest
    ≡ before (section l (Headed [] (codes "rule") key.RULE_HEADING (fill (codes "~<ol>\n~~~~</ol>\n")
    (works ∷ rounds ∷ (method ++ filled) ∷ fine ∷ ties ∷ [])))) rest
unfolding cut
rule_as l works rounds method filled fine ties rest = simp (append_assoc, before_more)

rounds_as : (share one two three ends : List Part) (rest : List ℕ)
    → before (share ++ (one ++ (two ++ (three ++ ends)))) rest
    ≡ before (share ++ ((one ++ (two ++ (three ++ []))) ++ ends)) rest
rounds_as share one two three ends rest = simp (append_assoc, before_more)

works_as : (l : Language) (says : List Part) (picture : List ℕ) (k : ℕ) (rest : List ℕ)
    → before (says ++ (own FIGURE_OPENING.now ++ (own picture ++ heads l FIGURE_CLOSING.now (k ∷ [])))) rest
    ≡ before (says ++ fill (codes "<figure>\n~<figcaption>~</figcaption>\n</figure>\n") (own picture ∷ said l k ∷ [])) rest
unfolding cut
works_as l says picture k rest = simp before_more

link_as : (l : Language) (says : List Part) (rest : List ℕ)
    → before (says ++ heads l PARAGRAPH.now (key.PROGRAM_TOO ∷ [])) rest ≡ before (says ++ paragraph (said l key.PROGRAM_TOO)) rest
unfolding cut
link_as l says rest = simp before_more

chosen_as : (money measure completion step raises : List ℕ) (rest : List ℕ)
    → before (cut OPTIONS.now (money ∷ measure ∷ completion ∷ step ∷ raises ∷ [])) rest
    ≡ before (fill (codes "~~~ --step ~ --raises ~") (map text (money ∷ measure ∷ completion ∷ step ∷ raises ∷ []))) rest
unfolding cut
chosen_as money measure completion step raises rest = simp before_more

abbrev ordered : (money measure completion : List ℕ) → (step raises : ℕ) → List Part
ordered money measure completion step raises =
    fill (codes "~~~ --step ~ --raises ~") (map text (money ∷ measure ∷ completion ∷ decimal step ∷ decimal raises ∷ []))

abbrev money_said : Rule → List ℕ
money_said r = by_grain r.options.grain [] (codes " --money fine")

abbrev measure_said : Rule → List ℕ
measure_said r = by_measure r.options.measure [] (codes " --measure cost")

abbrev completion_said : Rule → List ℕ
completion_said r = by_completion r.options.completion r.fill_up (codes " --plain") [] (codes " --completion utilitarian") (codes " --completion add1u")

check_as : (l : Language) (file journal files link command options name made : List Part) (rest : List ℕ)
    → before (heads l CHECK_OPENING.now (key.CHECK_HEADING ∷ key.CHECK_BYTES ∷ []) ++ (file ++ (journal ++ (own SOURCES_CLOSING.now
    ++ (files ++ (link ++ (own COMMAND_OPENING.now ++ (command ++ (own COMMAND_CLOSING.now ++ (options ++ (name ++ (made ++ own CHECK_CLOSING.now)))))))))))) rest
    ≡ before (section l (Headed [] (codes "check") key.CHECK_HEADING
    (fill (codes "<p>~</p>\n<dl>\n~~</dl>\n~~<pre><code>~</code></pre>\n~~~")
    (said l key.CHECK_BYTES ∷ file ∷ journal ∷ files ∷ link ∷ command ∷ options ∷ name ∷ made ∷ [])))) rest
unfolding cut
check_as l file journal files link order options name made rest = simp (append_assoc, before_more)

-- the contents
abbrev linked : Language → (links : List Part) → List Part
linked l links = fill (codes "<nav aria-label='~'>\n<ul>\n~</ul>\n</nav>\n") (said l key.CONTENTS ∷ links ∷ [])

contents_as : (l : Language) (a b c d e f g h i j : List Part) (rest : List ℕ)
    → before (heads l CONTENTS_OPENING.now (key.CONTENTS ∷ []) ++ (a ++ (b ++ (c ++ (d ++ (e ++ (f ++ (g ++ (h ++ (i ++ (j ++ own CONTENTS_CLOSING.now))))))))))) rest
    ≡ before (linked l (a ++ (b ++ (c ++ (d ++ (e ++ (f ++ (g ++ (h ++ (i ++ j)))))))))) rest
unfolding cut
contents_as l a b c d e f g h i j rest = simp (append_assoc, before_more)

pub contents_are : (facts : Facts) (x : CountedElectionView) (with_added with_categories with_decided : Bool)
    → with_added ≡ has_added x → with_categories ≡ is_some facts.categories → with_decided ≡ is_some facts.decided → (rest : List ℕ)
    → let l = facts.language in before (heads l CONTENTS_OPENING.now (key.CONTENTS ∷ []) ++ (link_to l true (codes "budget") key.BUDGET_HEADING
    ++ (link_to l true (codes "winners") key.WINNERS_HEADING ++ (link_to l with_added (codes "added") key.ADDED_HEADING
    ++ (link_to l true (codes "others") key.OTHERS_HEADING ++ (link_to l with_categories (codes "categories") key.CATEGORIES_HEADING
    ++ (link_to l true (codes "voters") key.VOTERS_HEADING ++ (link_to l facts.compares (codes "compared") key.COMPARED_HEADING
    ++ (link_to l with_decided (codes "decided") key.DECIDED_HEADING
    ++ (link_to l true (codes "rule") key.RULE_HEADING ++ (link_to l true (codes "check") key.CHECK_HEADING ++ own CONTENTS_CLOSING.now))))))))))) rest
    ≡ before (contents facts x) rest
unfolding contents
contents_are facts x with_added with_categories with_decided added_is categories_is decided_is rest = let l = facts.language in
    rw (added_is, categories_is, decided_is) (contents_as l (link_to l true (codes "budget") key.BUDGET_HEADING) (link_to l true (codes "winners") key.WINNERS_HEADING)
    (link_to l (has_added x) (codes "added") key.ADDED_HEADING) (link_to l true (codes "others") key.OTHERS_HEADING)
    (link_to l (is_some facts.categories) (codes "categories") key.CATEGORIES_HEADING) (link_to l true (codes "voters") key.VOTERS_HEADING)
    (link_to l facts.compares (codes "compared") key.COMPARED_HEADING)
    (link_to l (is_some facts.decided) (codes "decided") key.DECIDED_HEADING) (link_to l true (codes "rule") key.RULE_HEADING)
    (link_to l true (codes "check") key.CHECK_HEADING) rest)

-- the page, a piece after the other
abbrev document : Language → (meta style title : List ℕ) → (lead links inside : List Part) → List Part
document l meta style title lead links inside =
    fill (codes "<!DOCTYPE html>\n<html lang='~' dir='~'>\n<head>\n~<title>~</title>\n<style>~</style>\n</head>\n<body>\n"
    ++ codes "<header>\n<h1 dir='auto'>~</h1>\n~<nav aria-label='~'>\n<ul>\n~</ul>\n</nav>\n</header>\n<main>\n~</main>\n</body>\n</html>\n")
    (said l key.LANG ∷ said l key.DIR ∷ own meta ∷ text title ∷ own style ∷ text title ∷ lead ∷ said l key.CONTENTS ∷ links ∷ inside ∷ [])

page_as : (l : Language) (meta style title : List ℕ) (lead links inside : List Part) (rest : List ℕ)
    → before (heads l HEAD_OPENING.now (key.LANG ∷ key.DIR ∷ []) ++ (own meta ++ (cut TITLE.now (title ∷ []) ++ (own style
    ++ (cut TOP.now (title ∷ []) ++ (lead ++ (linked l links ++ (own MAIN.now ++ (inside ++ own CLOSING.now))))))))) rest
    ≡ before (document l meta style title lead links inside) rest
unfolding cut
page_as l meta style title lead links inside rest = simp before_more

-- the same as what is counted
pub summary_is : (l : Language) (x : CountedElectionView) (f : Figures) → f ≡ figures_of x → (rest : List ℕ)
    → before (own LEAD.now ++ (voted_said l f ++ (own LEAD_NEXT.now ++ (result_said l f ++ own LEAD_CLOSING.now)))) rest ≡ before (summary l x) rest
unfolding summary
summary_is l x f is rest =
    let Same : Figures → Type 0 = λ g. before (own LEAD.now ++ (voted_said l g ++ (own LEAD_NEXT.now ++ (result_said l g ++ own LEAD_CLOSING.now)))) rest
    ≡ before (summary l x) rest in
    subst Same (sym is) (summary_as (voted_said l (figures_of x)) (result_said l (figures_of x)) rest)

abbrev surplus_name : Figures → List ℕ
surplus_name f = by_grain f.grain (codes "surplus") (codes "uncovered")

none_as : (l : Language) (f : Figures) (name : List ℕ) (left : List Part) (rest : List ℕ)
    → before (cut NOTHING.now (decimal f.won ∷ money_text f.spent ∷ name ∷ money_text f.surplus ∷ []) ++ left) rest
    ≡ before (figure (codes "won") (decimal f.won) [] ++ (figure (codes "spent") (money_text f.spent) [] ++ (figure name (money_text f.surplus) [] ++ left))) rest
unfolding cut
none_as l f name left rest = simp append_assoc

pub none_is : (l : Language) (f : Figures) (name : List ℕ) → name ≡ surplus_name f → f.won ≡ 0 → (rest : List ℕ)
    → before (cut NOTHING.now (decimal f.won ∷ money_text f.spent ∷ name ∷ money_text f.surplus ∷ []) ++ say l key.NONE_WON (amount l.costs (codes "left") f.left ∷ [])) rest
    ≡ before (result_said l f) rest
none_is l f name name_is none rest =
    let so : f.won == 0 ≡ true = eq-eqb f.won 0 none in
    rw (so, name_is) (none_as l f (surplus_name f) (say l key.NONE_WON (amount l.costs (codes "left") f.left ∷ [])) rest)

pub budget_is : (l : Language) (x : CountedElectionView) (f : Figures) → f ≡ figures_of x → (rest : List ℕ)
    → before (heads l BUDGET_OPENING.now (key.BUDGET_HEADING ∷ []) ++ (picture_said l f ++ (own BLOCKS_OPENING.now
    ++ (blocks l.costs x.election 0 (winners_of x.counted) ++ (own BLOCKS_CLOSING.now ++ (spent_said l f ++ own BUDGET_CLOSING.now)))))) rest
    ≡ before (section l (budget l x)) rest
unfolding budget
budget_is l x f is rest =
    let Same : Figures → Type 0 = λ g. before (heads l BUDGET_OPENING.now (key.BUDGET_HEADING ∷ []) ++ (picture_said l g ++ (own BLOCKS_OPENING.now
    ++ (blocks l.costs x.election 0 (winners_of x.counted) ++ (own BLOCKS_CLOSING.now ++ (spent_said l g ++ own BUDGET_CLOSING.now)))))) rest
    ≡ before (section l (budget l x)) rest in
    subst Same (sym is) (budget_as l (picture_said l (figures_of x)) (blocks l.costs x.election 0 (winners_of x.counted)) (spent_said l (figures_of x)) rest)

some_entries : (l : Language) (x : CountedElectionView) (places : List ℕ) → length places == 0 ≡ false → length (flat_map (entry l x) places) == 0 ≡ false
some_entries l x [] some = some
some_entries l x (place ∷ places) some = ne_eqb (length (flat_map (entry l x) (place ∷ places))) 0 (λ is. omega arith)

some_ties : (l : Language) (x : CountedElectionView) (all : List ToldTie) → length all == 0 ≡ false → length (flat_map (tie l x) all) == 0 ≡ false
some_ties l x [] some = some
some_ties l x (t ∷ all) some = ne_eqb (length (flat_map (tie l x) (t ∷ all))) 0 (λ is. omega arith)

pub those_are : (l : Language) (x : CountedElectionView) (k : ℕ) (places : List ℕ) → length places == 0 ≡ false → (rest : List ℕ)
    → before (heads l THOSE_OPENING.now (k ∷ []) ++ (flat_map (entry l x) places ++ own LIST_CLOSING.now)) rest
    ≡ before (those_said l x k places) rest
those_are l x k places some rest =
    let items = flat_map (entry l x) places in
    those_as l k items rest ∙ ap (λ (b : Bool). before (if b then [] else listed_all l k [] items) rest) (sym (some_entries l x places some))

pub none_of_those : (l : Language) (x : CountedElectionView) (k : ℕ) (places : List ℕ) → length places == 0 ≡ true → [] ≡ those_said l x k places
none_of_those l x k places none = sym (ap (listed l k []) (no_items (entry l x) places none))

abbrev over_said : Language → NextRaise → CountedElectionView → (share : Divided) → (new gone : List ℕ) → List Part
over_said l next x share new gone = item (say l key.OVER (parted l.amounts (codes "next_share") share ∷ amount l.costs (codes "next_cost") next.cost ∷ []))
    ++ (those_said l x key.ONLY_THEN new ++ those_said l x key.NO_MORE gone)

pub over_is : (l : Language) (x : CountedElectionView) (next : NextRaise) (share : Divided) (winners places gone : List ℕ)
    → share ≡ counted_in x false 1 next.share → winners ≡ winners_of x.counted → places ≡ next.only_then.items → gone ≡ next.no_more.items → (rest : List ℕ)
    → before (item (say l key.OVER (parted l.amounts (codes "next_share") share ∷ amount l.costs (codes "next_cost") next.cost ∷ []))
    ++ (those_said l x key.ONLY_THEN (beside winners places) ++ those_said l x key.NO_MORE gone)) rest
    ≡ before (raises_ended l x (Over next)) rest
over_is l x next share winners places gone share_is winners_is places_is gone_is rest =
    let new = beside (winners_of x.counted) next.only_then.items in let its = counted_in x false 1 next.share in
    ap (λ (d : Divided). before (over_said l next x d (beside winners places) gone) rest) share_is
    ∙ ap (λ (w : List ℕ). before (over_said l next x its (beside w places) gone) rest) winners_is
    ∙ ap (λ (p : List ℕ). before (over_said l next x its (beside (winners_of x.counted) p) gone) rest) places_is
    ∙ ap (λ (g : List ℕ). before (over_said l next x its new g) rest) gone_is

pub ties_are : (l : Language) (x : CountedElectionView) (k : ℕ) (all : List ToldTie) → k ≡ by_ties x.rule.ties key.TIES key.TIES_TIED
    → all ≡ answered_ties x → length all == 0 ≡ false → (rest : List ℕ)
    → before (heads l TIES_OPENING.now (k ∷ []) ++ (flat_map (tie l x) all ++ own LIST_CLOSING.now)) rest ≡ before (ties_listed l x) rest
ties_are l x k all k_is is some rest =
    rw (k_is, sym is, some_ties l x all some) (ties_as l (by_ties x.rule.ties key.TIES key.TIES_TIED) (flat_map (tie l x) all) rest)

pub no_ties : (l : Language) (x : CountedElectionView) (all : List ToldTie) → all ≡ answered_ties x
    → length all == 0 ≡ true → [] ≡ ties_listed l x
no_ties l x all is none = rw (sym is, no_items (tie l x) all none) refl

-- the rule for ties, and then the ties
pub told_ties_are : (l : Language) (x : CountedElectionView) (r : Rule) → r ≡ x.rule → (rest : List ℕ)
    → before (equals l r ++ ties_listed l x) rest ≡ before (ties l x) rest
unfolding ties
told_ties_are l x r is rest = ap (λ (q : Rule). before (equals l q ++ ties_listed l x) rest) is

abbrev order_said : Rule → ℕ
order_said r = by_measure r.options.measure (by_ties r.ties key.BY_VOTES key.BY_VOTES_TIED) (by_ties r.ties key.BY_COST key.BY_COST_TIED)

abbrev raises_said : Rule → (raised : ℕ) → ℕ
raises_said r raised = let raises = if raised == 0 then key.UNRAISED else key.RAISED in
    by_completion r.options.completion r.fill_up key.PLAIN raises (by_ties r.ties key.FILLED_UP key.FILLED_UP_TIED) raises

pub rounds_are : (l : Language) (x : CountedElectionView) (end : RaiseEnd) (share one two : List Part)
    → share ≡ share_said l (by_raises x.rule key.SHARE_UNRAISED key.SHARE) x.rule.options.step (counted_in x false 1 x.counted.outcome.share) x.counted.outcome.raised
    → one ≡ item (said l (order_said x.rule)) → two ≡ item (said l (raises_said x.rule x.counted.outcome.raised)) → (rest : List ℕ)
    → before (share ++ (item (said l key.SUPPORTERS) ++ (one ++ (two ++ raises_ended l x end)))) rest ≡ before (rounds_said l x end) rest
rounds_are l x end share one two share_is one_is two_is rest =
    rw (share_is, one_is, two_is) (rounds_as
    (share_said l (by_raises x.rule key.SHARE_UNRAISED key.SHARE) x.rule.options.step (counted_in x false 1 x.counted.outcome.share) x.counted.outcome.raised)
    (item (said l key.SUPPORTERS)) (item (said l (order_said x.rule)))
    (item (said l (raises_said x.rule x.counted.outcome.raised))) (raises_ended l x end) rest)

pub rounds_of_none : (l : Language) (x : CountedElectionView) (end : RaiseEnd) (n : ℕ) → n ≡ length x.election.voters → n == 0 ≡ true
    → [] ≡ rounds_told l x end
rounds_of_none l x end n is none = rw (sym is, none) refl

pub rounds_of_some : (l : Language) (x : CountedElectionView) (end : RaiseEnd) (n : ℕ) → n ≡ length x.election.voters → n == 0 ≡ false
    → (rest : List ℕ) → before (rounds_said l x end) rest ≡ before (rounds_told l x end) rest
rounds_of_some l x end n is some rest =
    ap (λ (b : Bool). before (if b then [] else rounds_said l x end) rest) (sym some ∙ ap (λ (m : ℕ). m == 0) is)

pub short_of_none : (x : CountedElectionView) (n : ℕ) → n ≡ length x.election.voters → n == 0 ≡ true → None ≡ short_key x
short_of_none x n is none = rw (sym is, none) refl

pub short_of_some : (x : CountedElectionView) (n : ℕ) (r : Rule) → n ≡ length x.election.voters → n == 0 ≡ false → r ≡ x.rule
    → (if no_shares r.options.completion then None else Some (by_raises r key.MISSING key.LEFT_SHORT)) ≡ short_key x
short_of_some x n r is some same = rw (sym is, some, same) refl

pub rule_is : (l : Language) (x : CountedElectionView) (end : RaiseEnd) (method filled fine : List Part)
    → method ≡ item (said l (by_completion x.rule.options.completion x.rule.fill_up key.METHOD_PLAIN key.METHOD_ADD1 key.METHOD_FILLED key.METHOD_ADD1))
    → filled ≡ filled_up l x.rule → fine ≡ by_grain x.rule.options.grain [] (item (said l key.FINE_MONEY)) → no_shares x.rule.options.completion ≡ false → (rest : List ℕ)
    → before (heads l RULE_OPENING.now (key.RULE_HEADING ∷ []) ++ (works l x ++ (own LIST_OPENING.now ++ (rounds_told l x end
    ++ (method ++ (filled ++ (fine ++ (ties l x ++ own RULE_CLOSING.now)))))))) rest
    ≡ before (section l (rule l x end)) rest
unfolding rule
rule_is l x end method filled fine method_is filled_is fine_is shared rest =
    rw (method_is, filled_is, fine_is, shared) (rule_as l (works l x) (rounds_told l x end)
    (item (said l (by_completion x.rule.options.completion x.rule.fill_up key.METHOD_PLAIN key.METHOD_ADD1 key.METHOD_FILLED key.METHOD_ADD1)))
    (filled_up l x.rule) (by_grain x.rule.options.grain [] (item (said l key.FINE_MONEY))) (ties l x) rest)

votes_rule_as : (l : Language) (item ties : List Part) (rest : List ℕ)
    → before (heads l RULE_OPENING.now (key.RULE_HEADING ∷ []) ++ (own LIST_OPENING.now ++ (item ++ (ties ++ own RULE_CLOSING.now)))) rest
    ≡ before (section l (Headed [] (codes "rule") key.RULE_HEADING (fill (codes "<ol>\n~~</ol>\n") (item ∷ ties ∷ [])))) rest
unfolding cut
votes_rule_as l item ties rest = simp (append_assoc, before_more)

pub votes_rule_is : (l : Language) (x : CountedElectionView) (end : RaiseEnd) (k : ℕ) → no_shares x.rule.options.completion ≡ true
    → k ≡ by_ties x.rule.ties key.MOST_VOTES_FIRST key.MOST_VOTES_TIED → (rest : List ℕ)
    → before (heads l RULE_OPENING.now (key.RULE_HEADING ∷ []) ++ (own LIST_OPENING.now ++ (item (said l k)
    ++ (ties l x ++ own RULE_CLOSING.now)))) rest
    ≡ before (section l (rule l x end)) rest
unfolding rule
votes_rule_is l x end k alone k_is rest =
    rw (k_is, alone) (votes_rule_as l (item (said l (by_ties x.rule.ties key.MOST_VOTES_FIRST key.MOST_VOTES_TIED))) (ties l x) rest)

-- what is said of shares
abbrev shares_said : Language → CountedElectionView → (k : ℕ) → List Part
shares_said l x k = works_said l k x.election.budget (length x.election.voters) (counted_in x false 1 (opening_share x.rule.options.grain x.election))

abbrev works_laid : Language → CountedElectionView → (k : ℕ) → (picture : List ℕ) → (caption : ℕ) → List Part
works_laid l x k picture caption = shares_said l x k ++ (own FIGURE_OPENING.now ++ (own picture ++ heads l FIGURE_CLOSING.now (caption ∷ [])))

pub works_of_none : (l : Language) (x : CountedElectionView) (n : ℕ) → n ≡ length x.election.voters → n == 0 ≡ true → [] ≡ works l x
unfolding works
works_of_none l x n is none = rw (sym is, none) refl

pub works_is : (l : Language) (x : CountedElectionView) (r : Rule) (k caption : ℕ) (picture : List ℕ) → r ≡ x.rule
    → length x.election.voters == 0 ≡ false → k ≡ by_raises r key.WORKS_UNRAISED key.WORKS → picture ≡ by_raises r OPENING_SHARES.now GROWN_SHARES.now
    → caption ≡ by_raises r key.WORKS_PICTURE_UNRAISED key.WORKS_PICTURE → (rest : List ℕ)
    → before (works_laid l x k picture caption) rest ≡ before (works l x) rest
unfolding works
works_is l x r k caption picture r_is some k_is picture_is caption_is rest =
    let told = by_raises x.rule key.WORKS_UNRAISED key.WORKS in let drawn = by_raises x.rule OPENING_SHARES.now GROWN_SHARES.now in
    let below = by_raises x.rule key.WORKS_PICTURE_UNRAISED key.WORKS_PICTURE in
    ap (λ (n : ℕ). before (works_laid l x n picture caption) rest) (k_is ∙ ap (λ (q : Rule). by_raises q key.WORKS_UNRAISED key.WORKS) r_is)
    ∙ ap (λ (t : List ℕ). before (works_laid l x told t caption) rest) (picture_is ∙ ap (λ (q : Rule). by_raises q OPENING_SHARES.now GROWN_SHARES.now) r_is)
    ∙ ap (λ (n : ℕ). before (works_laid l x told drawn n) rest)
    (caption_is ∙ ap (λ (q : Rule). by_raises q key.WORKS_PICTURE_UNRAISED key.WORKS_PICTURE) r_is)
    ∙ (works_as l (shares_said l x told) drawn below rest
    ∙ ap (λ (b : Bool). before (if b then [] else shares_said l x told
    ++ fill (codes "<figure>\n~<figcaption>~</figcaption>\n</figure>\n") (own drawn ∷ said l below ∷ [])) rest) (sym some))

pub link_is : (l : Language) (address : List ℕ) (rest : List ℕ)
    → before (recount_said l address ++ heads l PARAGRAPH.now (key.PROGRAM_TOO ∷ [])) rest ≡ before (recount_said l address ++ paragraph (said l key.PROGRAM_TOO)) rest
link_is l address rest = link_as l (recount_said l address) rest

pub chosen_is : (r : Rule) (money measure completion : List ℕ) (step raises : ℕ) → money ≡ money_said r → measure ≡ by_measure r.options.measure [] (codes " --measure cost")
    → completion ≡ by_completion r.options.completion r.fill_up (codes " --plain") [] (codes " --completion utilitarian") (codes " --completion add1u")
    → step ≡ r.options.step → raises ≡ r.options.max_raises → (rest : List ℕ)
    → before (cut OPTIONS.now (money ∷ measure ∷ completion ∷ decimal step ∷ decimal raises ∷ [])) rest ≡ before (chosen r) rest
chosen_is r money measure completion step raises money_is measure_is completion_is step_is raises_is rest =
    chosen_as money measure completion (decimal step) (decimal raises) rest
    ∙ ap (λ (t : List ℕ). before (ordered t measure completion step raises) rest) money_is
    ∙ ap (λ (t : List ℕ). before (ordered (money_said r) t completion step raises) rest) measure_is
    ∙ ap (λ (t : List ℕ). before (ordered (money_said r) (measure_said r) t step raises) rest) completion_is
    ∙ ap (λ (n : ℕ). before (ordered (money_said r) (measure_said r) (completion_said r) n raises) rest) step_is
    ∙ ap (λ (n : ℕ). before (ordered (money_said r) (measure_said r) (completion_said r) r.options.step n) rest) raises_is

pub check_is : (facts : Facts) (r : Rule) (rest : List ℕ) → before (heads facts.language CHECK_OPENING.now (key.CHECK_HEADING ∷ key.CHECK_BYTES ∷ [])
    ++ (source (codes "FILE: ") facts.file ++ (journal_source facts.journal ++ (own SOURCES_CLOSING.now ++ (files_said facts.language facts.files ++ (link_said facts.language facts.recount
    ++ (own COMMAND_OPENING.now ++ (command facts r ++ (own COMMAND_CLOSING.now ++ (options_told facts.language r
    ++ (name_said facts.language (profile_name r) ++ (made_by facts.language facts.program.now ++ own CHECK_CLOSING.now)))))))))))) rest
    ≡ before (section facts.language (check facts r)) rest
unfolding check
check_is facts r rest = check_as facts.language (source (codes "FILE: ") facts.file) (journal_source facts.journal) (files_said facts.language facts.files) (link_said facts.language facts.recount)
    (command facts r) (options_told facts.language r) (name_said facts.language (profile_name r)) (made_by facts.language facts.program.now) rest

-- the links to the sections, and the sections
budget_linked : (l : Language) (x : CountedElectionView) → section_link l (budget l x) ≡ link_to l true (codes "budget") key.BUDGET_HEADING
unfolding budget
budget_linked l x = refl

winners_linked : (facts : Facts) (x : CountedElectionView)
    → section_link facts.language (winners facts x) ≡ link_to facts.language true (codes "winners") key.WINNERS_HEADING
unfolding winners
winners_linked facts x = elim (cases_Bool (no_shares x.rule.options.completion)) [
  | inl alone ↦ elim (cases_Bool (length x.counted.added == 0)) [
    | inl none ↦ rw (alone, none) refl
    | inr some ↦ rw (alone, some) refl
  ]
  | inr shared ↦ elim (cases_Bool (length x.counted.outcome.elected == 0)) [
    | inl none ↦ rw (shared, none) refl
    | inr some ↦ rw (shared, some) refl
  ]
]

added_linked : (facts : Facts) (x : CountedElectionView)
    → flat_map (section_link facts.language) (added_apart facts x) ≡ link_to facts.language (has_added x) (codes "added") key.ADDED_HEADING
unfolding added_apart
added_linked facts x = elim (cases_Bool (no_shares x.rule.options.completion)) [
  | inl alone ↦ rw alone refl
  | inr shared ↦ elim (cases_Bool (length x.counted.added == 0)) [
    | inl none ↦ rw (shared, none) refl
    | inr some ↦ rw (shared, some) refl
  ]
]

others_linked : (facts : Facts) (x : CountedElectionView)
    → section_link facts.language (others facts x) ≡ link_to facts.language true (codes "others") key.OTHERS_HEADING
unfolding others
others_linked facts x = elim (cases_Bool (length (winners_of x.counted) == length x.election.projects)) [
  | inl none ↦ rw none refl
  | inr some ↦ rw some refl
]

categories_linked : (facts : Facts) (x : CountedElectionView) (all : Option Categories) → facts.categories ≡ all
    → flat_map (section_link facts.language) (categories facts x) ≡ link_to facts.language (is_some all) (codes "categories") key.CATEGORIES_HEADING
unfolding categories
categories_linked facts x (Some g) is = rw is refl
categories_linked facts x None is = rw is refl

voters_linked : (l : Language) (won : List ℕ) → section_link l (voters l won) ≡ link_to l true (codes "voters") key.VOTERS_HEADING
unfolding voters
voters_linked l won = refl

besides_linked : (facts : Facts) (x : CountedElectionView)
    → flat_map (section_link facts.language) (besides facts x) ≡ link_to facts.language facts.compares (codes "compared") key.COMPARED_HEADING
unfolding besides
besides_linked facts x = elim (cases_Bool facts.compares) [
  | inl so ↦ rw so refl
  | inr not_so ↦ rw not_so refl
]

decided_linked : (facts : Facts) (r : Rule) (all : Option Decided) → facts.decided ≡ all
    → flat_map (section_link facts.language) (decided facts r) ≡ link_to facts.language (is_some all) (codes "decided") key.DECIDED_HEADING
unfolding decided
decided_linked facts r (Some d) is = rw is refl
decided_linked facts r None is = rw is refl

rule_linked : (l : Language) (x : CountedElectionView) (end : RaiseEnd) → section_link l (rule l x end) ≡ link_to l true (codes "rule") key.RULE_HEADING
unfolding rule
rule_linked l x end = refl

check_linked : (facts : Facts) (r : Rule) → section_link facts.language (check facts r) ≡ link_to facts.language true (codes "check") key.CHECK_HEADING
unfolding check
check_linked facts r = refl

in_order : (f : Section → List Part) (b w o v r k : Section) (a c s d : List Section)
    → flat_map f (b ∷ w ∷ (a ++ (o ∷ (c ++ (v ∷ (s ++ (d ++ (r ∷ k ∷ []))))))))
    ≡ f b ++ (f w ++ (flat_map f a ++ (f o ++ (flat_map f c ++ (f v ++ (flat_map f s ++ (flat_map f d ++ (f r ++ f k))))))))
in_order f b w o v r k a c s d = simp (flat_map-append, append-nil)

abbrev each_won : CountedElectionView → List ℕ
each_won x = map (λ v. choices_of (winners_of x.counted) v.ballot) x.election.voters

abbrev all_sections : Facts → CountedElectionView → RaiseEnd → List Section
all_sections facts x end = let l = facts.language in budget l x ∷ winners facts x ∷ (added_apart facts x ++ (others facts x
    ∷ (categories facts x ++ (voters l (each_won x) ∷ (besides facts x ++ (decided facts x.rule
    ++ (rule l x end ∷ check facts x.rule ∷ [])))))))

linked_are : (facts : Facts) (x : CountedElectionView) (end : RaiseEnd)
    → flat_map (section_link facts.language) (all_sections facts x end) ≡ links_to facts x
linked_are facts x end = let l = facts.language in
    in_order (section_link l) (budget l x) (winners facts x) (others facts x) (voters l (each_won x)) (rule l x end) (check facts x.rule)
    (added_apart facts x) (categories facts x) (besides facts x) (decided facts x.rule)
    ∙ rw (
      budget_linked l x,
      winners_linked facts x,
      added_linked facts x,
      others_linked facts x,
      categories_linked facts x facts.categories refl,
      voters_linked l (each_won x),
      besides_linked facts x,
      decided_linked facts x.rule facts.decided refl,
      rule_linked l x end,
      check_linked facts x.rule,
    ) refl

sections_are : (facts : Facts) (x : CountedElectionView) (end : RaiseEnd)
    → flat_map (section facts.language) (all_sections facts x end) ≡ sections facts x end
sections_are facts x end = let l = facts.language in
    in_order (section l) (budget l x) (winners facts x) (others facts x) (voters l (each_won x)) (rule l x end) (check facts x.rule)
    (added_apart facts x) (categories facts x) (besides facts x) (decided facts x.rule)

pub page_is : (facts : Facts) (x : CountedElectionView) (end : RaiseEnd) (lang dir : List ℕ) → lang ≡ sentence facts.language.words key.LANG
    → dir ≡ sentence facts.language.words key.DIR → (rest : List ℕ)
    → before (cut HEAD_OPENING.now (lang ∷ dir ∷ []) ++ (own META.now ++ (cut TITLE.now (facts.title.now ∷ []) ++ (own STYLE.now
    ++ (cut TOP.now (facts.title.now ∷ []) ++ (summary facts.language x ++ (contents facts x ++ (own MAIN.now ++ (sections facts x end ++ own CLOSING.now))))))))) rest
    ≡ before (parts facts x end) rest
unfolding parts contents
page_is facts x end lang dir lang_is dir_is rest =
    let l = facts.language in let title = facts.title.now in
    let Page : (links all : List Part) → List ℕ = λ links all. before (document l META.now STYLE.now title (summary l x) links all) rest in
    rw (lang_is, dir_is) (page_as l META.now STYLE.now title (summary l x) (links_to facts x) (sections facts x end) rest
    ∙ ap (λ (links : List Part). Page links (sections facts x end)) (sym (linked_are facts x end))
    ∙ ap (Page (flat_map (section_link l) (all_sections facts x end))) (sym (sections_are facts x end)))
