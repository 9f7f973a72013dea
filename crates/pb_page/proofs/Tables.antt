-- The tables of a page, as they are put: pieces, and rows between them.
use Rattle.std.proofs.Common.{◌≡◌, ◌≢◌, Bool, ℕ, false, true, List, [], ◌∷◌, ◌++◌, append-nil, append_assoc, length, map, refl, sym, ◌∙◌, ap, inl, inr}
use Rattle.std.specs.Prelude.{◌==◌, Bool, None, Option, Some, codes, decimal, flat_map, if◌then◌else◌, nat_lt, slice_index}
use Rattle.std.specs.List.{range_with_len}
use Rattle.std.specs.Option.{option_map_or}
use Rattle.std.proofs.lemmas.Bool.{cases_Bool, ne_eqb}
use Rattle.pb_core.specs.Election.{ProjectView}
use Rattle.pb_core.specs.MoneyText.{money_text}
use Rattle.pb_page.specs.Amount.{grouped, rounded, shown}
use Rattle.pb_page.specs.Content.{Headed, Part, amount, bar, column, digits, figure, fill, item, number, parted, row, said, say, section, table, text, under}
use Rattle.pb_page.specs.Inner.Counted.{at_least, both_only, compared, exact_row, got_said, in_category, lacking, lost_row, more_told, nothing_told, others_opening, payment_told, told_of, went_as}
use Rattle.pb_page.specs.Inner.Filling.{cut, own}
use Rattle.pb_page.specs.Page.{added_apart, ballots_row, beside, besides, categories, category_name, category_of, category_row, cells, compared_row, counted_in, ended_row, entry, linked, links, others, project_at, row_at, short_key, titled, voters, width, winners, money_told}
use Rattle.pb_page.specs.Words.{sentence}
use Rattle.pb_page.specs.declared.categories.Categories.{Categories}
use Rattle.pb_page.specs.declared.facts.Facts.{Facts}
use Rattle.pb_page.specs.declared.in_category.InCategory.{InCategory}
use Rattle.pb_page.specs.declared.keys.TheConstants as key
use Rattle.pb_page.specs.declared.language.Language.{Language}
use Rattle.pb_page.specs.declared.templates.TheConstants.{ADDED, ADDED_OPENING, CATEGORIES_OPENING, CATEGORY, COMPARED_OPENING, COMPARED_ROW, ENTRY, HEAD_CATEGORY, HEAD_CLOSING, LINKS_CLOSING, LINKS_OPENING, NONE_LOST, NONE_WON, OTHER, OTHERS_OPENING, OTHER_CLOSING, OTHER_OPENING, PASSED_OVER, PASSED_OVER_OPENING, ROWS_CLOSING, ROW_CATEGORY, ROW_CLOSING, ROW_OPENING, SECTION_CLOSING, TABLE_CLOSING, VOTERS_OPENING, VOTERS_ROW, VOTERS_ROW_CLOSING, VOTERS_TABLE, WENT_CLOSING, WENT_OPENING, WINNER, WINNERS_OPENING, WON_BY_VOTES_OPENING}
use Rattle.pb_page.proofs.Grown.{before, before_more}
use Rattle.pb_reasons.specs.BesideVotes.{beside_votes, elected_by_votes}
use Rattle.pb_reasons.specs.Counted.{winners_of}
use Rattle.pb_reasons.specs.CountedElection.{CountedElectionView, in_file}
use Rattle.pb_reasons.specs.Money.{MoneyView, money_of, paid_together}
use Rattle.pb_page.specs.declared.markup.divided.Divided.{Divided}
use Rattle.pb_reasons.specs.Reasons.{project_reason}
use Rattle.pb_rows.specs.ExactText.{exact_text}
use Rattle.pb_reasons.specs.declared.payment.Payment.{Payment}
use Rattle.pb_reasons.specs.declared.comparison.Comparison.{Comparison}
use Rattle.pb_reasons.specs.declared.project_reason.Ending.{Ending}
use Rattle.pb_reasons.specs.declared.project_reason.Ending.TheVariants as ending
use Rattle.pb_reasons.specs.declared.project_reason.Lost.{Lost}
use Rattle.pb_reasons.specs.declared.project_reason.Won.{Won}
use Rattle.pb_reasons.specs.declared.project_reason.Added.{Added}
use Rattle.pb_reasons.specs.declared.rule_row.RuleRow.{RuleRow}
use Rattle.pb_rounds.specs.Run.{ElectedView}
use Rattle.pb_rounds.specs.Count.{no_shares}
use Rattle.pb_rounds.specs.MostVotes.{is_taken}
use Rattle.pb_rounds.specs.RuleNames.{by_ties, fills_up}

-- a piece with what the words of a language say at these keys
abbrev pub heads : Language → (piece keys : List ℕ) → List Part
heads l piece keys = cut piece (map (sentence l.words) keys)

-- one part alone
alone_is : (p : List Part) (rest : List ℕ) → before (p ++ []) rest ≡ before p rest
alone_is p rest = ap (λ (q : List Part). before q rest) (append-nil p)

-- the comparison
pub compared_row_is : (l : Language) (k : ℕ) (r : RuleRow) (rest : List ℕ)
    → before (cut COMPARED_ROW.now (sentence l.words k ∷ sentence l.words key.COMPARED_WON ∷ decimal r.projects ∷ grouped l.costs.group.now (decimal r.projects)
    ∷ sentence l.words key.COMPARED_COST ∷ money_text r.spent ∷ shown l.costs r.spent ∷ sentence l.words key.WITHOUT
    ∷ decimal r.without ∷ grouped l.costs.group.now (decimal r.without) ∷ sentence l.words key.MORE ∷ decimal r.more_choices
    ∷ grouped l.costs.group.now (decimal r.more_choices) ∷ [])) rest ≡ before (compared_row l k r) rest
unfolding cut
compared_row_is l k r rest = refl

abbrev compared_heads : Language → List Part
compared_heads l = heads l COMPARED_OPENING.now (key.COMPARED_HEADING ∷ key.COMPARED_CAPTION ∷ key.COMPARED_RULE ∷ key.COMPARED_WON ∷ key.COMPARED_COST
    ∷ key.WITHOUT ∷ key.MORE ∷ [])

compared_as : (l : Language) (one two both : List Part) (rest : List ℕ)
    → before (compared_heads l ++ (one ++ (two ++ (own ROWS_CLOSING.now ++ (both ++ own SECTION_CLOSING.now))))) rest
    ≡ before (section l (Headed (codes " class='many'") (codes "compared") key.COMPARED_HEADING (table l (codes " class='wide'")
    key.COMPARED_CAPTION key.COMPARED_RULE [] (key.COMPARED_WON ∷ key.COMPARED_COST ∷ key.WITHOUT ∷ key.MORE ∷ []) [] (one ++ two) ++ both))) rest
unfolding cut
compared_as l one two both rest = simp before_more

pub compared_are : (l : Language) (x : CountedElectionView) (rules : Comparison) → rules ≡ beside_votes x.election x.counted → (rest : List ℕ)
    → before (compared_heads l ++ (compared_row l key.EQUAL_SHARES rules.own ++ (compared_row l key.MOST_VOTES rules.other
    ++ (own ROWS_CLOSING.now ++ (both_only l x ++ own SECTION_CLOSING.now))))) rest
    ≡ before (compared l x) rest
unfolding compared
compared_are l x rules is rest =
    let all = beside_votes x.election x.counted in
    ap (λ (r : Comparison). before (compared_heads l ++ (compared_row l key.EQUAL_SHARES r.own ++ (compared_row l key.MOST_VOTES r.other
    ++ (own ROWS_CLOSING.now ++ (both_only l x ++ own SECTION_CLOSING.now))))) rest) is
    ∙ compared_as l (compared_row l key.EQUAL_SHARES all.own) (compared_row l key.MOST_VOTES all.other) (both_only l x) rest

pub both_are : (l : Language) (x : CountedElectionView) (own other again : List ℕ) → own ≡ winners_of x.counted
    → other ≡ elected_by_votes x.election → again ≡ winners_of x.counted → (rest : List ℕ)
    → before (links l x key.ONLY_BY_SHARES (beside other own) ++ links l x key.ONLY_BY_VOTES (beside again other)) rest ≡ before (both_only l x) rest
unfolding both_only
both_are l x own other again own_is other_is again_is rest =
    let won = winners_of x.counted in let voted = elected_by_votes x.election in
    ap (λ (w : List ℕ). before (links l x key.ONLY_BY_SHARES (beside other w) ++ links l x key.ONLY_BY_VOTES (beside again other)) rest) own_is
    ∙ ap (λ (o : List ℕ). before (links l x key.ONLY_BY_SHARES (beside o won) ++ links l x key.ONLY_BY_VOTES (beside again o)) rest) other_is
    ∙ ap (λ (w : List ℕ). before (links l x key.ONLY_BY_SHARES (beside voted won) ++ links l x key.ONLY_BY_VOTES (beside w voted)) rest) again_is

pub besides_are : (facts : Facts) (x : CountedElectionView) → facts.compares ≡ true → (rest : List ℕ)
    → before (compared facts.language x) rest ≡ before (flat_map (section facts.language) (besides facts x)) rest
unfolding besides compared both_only
besides_are facts x so rest = rw so (sym (alone_is (compared facts.language x) rest))

abbrev links_laid : Language → (k : ℕ) → (items : List Part) → List Part
links_laid l k items = fill (codes "<p>~</p>\n<ul>\n~</ul>\n") (said l k ∷ items ∷ [])

links_as : (l : Language) (k : ℕ) (items : List Part) (rest : List ℕ)
    → before (heads l LINKS_OPENING.now (k ∷ []) ++ (items ++ own LINKS_CLOSING.now)) rest
    ≡ before (links_laid l k items) rest
unfolding cut
links_as l k items rest = simp before_more

pub links_are : (l : Language) (x : CountedElectionView) (k : ℕ) (places : List ℕ) → length places == 0 ≡ false → (rest : List ℕ)
    → before (heads l LINKS_OPENING.now (k ∷ []) ++ (flat_map (entry l x) places ++ own LINKS_CLOSING.now)) rest ≡ before (links l x k places) rest
links_are l x k places some rest =
    let all = links_laid l k (flat_map (entry l x) places) in
    links_as l k (flat_map (entry l x) places) rest ∙ ap (λ (b : Bool). before (if b then [] else all) rest) (sym some)

pub no_links : (l : Language) (x : CountedElectionView) (k : ℕ) (places : List ℕ) → length places == 0 ≡ true → [] ≡ links l x k places
no_links l x k places none =
    let all = links_laid l k (flat_map (entry l x) places) in
    ap (λ (b : Bool). if b then [] else all) (sym none)

-- the histogram
voters_as : (l : Language) (says rows more : List Part) (rest : List ℕ)
    → before (heads l VOTERS_OPENING.now (key.VOTERS_HEADING ∷ []) ++ (says ++ (heads l VOTERS_TABLE.now (key.VOTERS_CAPTION ∷ key.CHOSEN ∷ key.VOTERS ∷ [])
    ++ (rows ++ (more ++ own TABLE_CLOSING.now))))) rest
    ≡ before (section l (Headed (codes " class='many'") (codes "voters") key.VOTERS_HEADING (says
    ++ table l [] key.VOTERS_CAPTION key.CHOSEN [] (key.VOTERS ∷ []) [] (rows ++ more)))) rest
unfolding cut
voters_as l says rows more rest = simp (append_assoc, before_more)

pub voters_are : (l : Language) (won : List ℕ) (rest : List ℕ)
    → before (heads l VOTERS_OPENING.now (key.VOTERS_HEADING ∷ []) ++ (got_said l won ++ (heads l VOTERS_TABLE.now (key.VOTERS_CAPTION ∷ key.CHOSEN ∷ key.VOTERS ∷ [])
    ++ (flat_map (exact_row l won) (range_with_len 0 9) ++ (ballots_row l key.OR_MORE 9 (at_least 9 won) won ++ own TABLE_CLOSING.now))))) rest
    ≡ before (section l (voters l won)) rest
unfolding voters
voters_are l won rest =
    voters_as l (got_said l won) (flat_map (exact_row l won) (range_with_len 0 9)) (ballots_row l key.OR_MORE 9 (at_least 9 won) won) rest

ballots_as : (says : List Part) (n wide ballots : ℕ) (shows rest : List ℕ)
    → before (cut VOTERS_ROW.now (decimal n ∷ []) ++ (says ++ cut VOTERS_ROW_CLOSING.now (decimal wide ∷ decimal ballots ∷ shows ∷ []))) rest
    ≡ before (row (fill (codes "<data value='~'>~</data>~") (text (decimal n) ∷ says ∷ bar wide ∷ []))
    (fill (codes "<td role='cell' class='n'><data value='~'>~</data></td>") (text (decimal ballots) ∷ text shows ∷ []))) rest
unfolding cut
ballots_as says n wide ballots shows rest = simp (append_assoc, before_more)

pub ballots_are : (l : Language) (k n ballots : ℕ) (won : List ℕ) (m long : ℕ) → m ≡ n → long ≡ length won → at_least n won ≢ 0 → (rest : List ℕ)
    → before (cut VOTERS_ROW.now (decimal n ∷ []) ++ (say l k (digits l m ∷ []) ++ cut VOTERS_ROW_CLOSING.now (decimal (width ballots long) ∷ decimal ballots
    ∷ grouped l.costs.group.now (decimal ballots) ∷ []))) rest
    ≡ before (ballots_row l k n ballots won) rest
ballots_are l k n ballots won m long same all some rest =
    let so : at_least n won == 0 ≡ false = ne_eqb (at_least n won) 0 some in
    rw (so, same, all) (ballots_as (say l k (digits l n ∷ [])) n (width ballots (length won)) ballots (grouped l.costs.group.now (decimal ballots)) rest)

-- the categories
categories_as : (l : Language) (rows : List Part) (rest : List ℕ)
    → before (heads l CATEGORIES_OPENING.now (key.CATEGORIES_HEADING ∷ key.CATEGORIES_CAPTION ∷ key.CATEGORY ∷ key.CATEGORY_WON ∷ key.CATEGORY_COST ∷ [])
    ++ (rows ++ own TABLE_CLOSING.now)) rest
    ≡ before (section l (Headed (codes " class='won money'") (codes "categories") key.CATEGORIES_HEADING (table l (codes " class='wide'")
    key.CATEGORIES_CAPTION key.CATEGORY [] (key.CATEGORY_WON ∷ key.CATEGORY_COST ∷ []) [] rows))) rest
unfolding cut
categories_as l rows rest = simp before_more

pub categories_are : (facts : Facts) (x : CountedElectionView) (g : Categories) → facts.categories ≡ Some g → (rest : List ℕ)
    → before (heads facts.language CATEGORIES_OPENING.now (key.CATEGORIES_HEADING ∷ key.CATEGORIES_CAPTION ∷ key.CATEGORY ∷ key.CATEGORY_WON ∷ key.CATEGORY_COST ∷ [])
    ++ (flat_map (category_row facts.language x g) (range_with_len 0 (length g.names.now)) ++ own TABLE_CLOSING.now)) rest
    ≡ before (flat_map (section facts.language) (categories facts x)) rest
unfolding categories
categories_are facts x g some rest =
    let l = facts.language in let rows = flat_map (category_row l x g) (range_with_len 0 (length g.names.now)) in
    rw some (categories_as l rows rest ∙ sym (alone_is (section l (Headed (codes " class='won money'") (codes "categories") key.CATEGORIES_HEADING
    (table l (codes " class='wide'") key.CATEGORIES_CAPTION key.CATEGORY [] (key.CATEGORY_WON ∷ key.CATEGORY_COST ∷ []) [] rows))) rest))

abbrev category_put : Language → (name : List ℕ) → (wide : ℕ) → InCategory → List Part
category_put l name wide sum = cut CATEGORY.now (name ∷ decimal wide ∷ sentence l.words key.CATEGORY_WON ∷ decimal sum.winners
    ∷ grouped l.costs.group.now (decimal sum.winners)
    ∷ sentence l.words key.CATEGORY_COST ∷ money_text sum.cost ∷ shown l.costs sum.cost ∷ [])

pub category_is : (l : Language) (x : CountedElectionView) (g : Categories) (k : ℕ) (name : List ℕ) (sum : InCategory) (wide whole : ℕ)
    → name ≡ (if length (category_name g k) == 0 then sentence l.words key.NO_CATEGORY else category_name g k)
    → sum ≡ in_category x g (winners_of x.counted) k → wide ≡ width sum.cost whole → whole ≡ x.election.budget → (rest : List ℕ)
    → before (category_put l name wide sum) rest ≡ before (category_row l x g k) rest
unfolding cut
category_is l x g k name sum wide whole name_is sum_is wide_is whole_is rest =
    let called = if length (category_name g k) == 0 then sentence l.words key.NO_CATEGORY else category_name g k in
    ap (λ (t : List ℕ). before (category_put l t wide sum) rest) name_is
    ∙ ap (λ (n : ℕ). before (category_put l called n sum) rest) (wide_is ∙ ap (width sum.cost) whole_is)
    ∙ ap (λ (s : InCategory). before (category_put l called (width s.cost x.election.budget) s) rest) sum_is

-- the tables of projects: what stands before the heads of the columns, and the whole
abbrev top : Language → (class name : List ℕ) → (heading caption : ℕ) → List Part
top l class name heading caption = fill (codes "<section~ aria-labelledby='~'>\n<h2 id='~'>~</h2>\n<table class='wide' role='table'>\n"
    ++ codes "<caption role='caption'>~</caption>\n<thead role='rowgroup'><tr role='row'>")
    (own class ∷ own name ∷ own name ∷ said l heading ∷ said l caption ∷ [])

inside_as : (l : Language) (class name : List ℕ) (heading caption : ℕ) (first own_name numbers category rows : List Part) (rest : List ℕ)
    → before (section l (Headed class name heading (fill (codes "<table~ role='table'>\n<caption role='caption'>~</caption>\n"
    ++ codes "<thead role='rowgroup'><tr role='row'>~~~~</tr></thead>\n<tbody role='rowgroup'>\n~</tbody>\n</table>\n")
    (own (codes " class='wide'") ∷ said l caption ∷ first ∷ own_name ∷ numbers ∷ category ∷ rows ∷ [])))) rest
    ≡ before (top l class name heading caption) (before first (before own_name (before numbers (before category
    (HEAD_CLOSING.now ++ before rows (TABLE_CLOSING.now ++ rest))))))
inside_as l class name heading caption first own_name numbers category rows rest = simp before_more

table_as : (opening category rows : List Part) (head_closing closing rest : List ℕ)
    → before (opening ++ (category ++ (own head_closing ++ (rows ++ own closing)))) rest
    ≡ before opening (before category (head_closing ++ before rows (closing ++ rest)))
table_as opening category rows head_closing closing rest = simp before_more

abbrev pub category_column : Facts → List Part
category_column facts = option_map_or (λ (g : Categories). column facts.language (codes " class='category'") key.CATEGORY) facts.categories []

-- a table of projects in its section, and as it is put
abbrev projects : Facts → (class name : List ℕ) → (heading caption : ℕ) → (first numbers : List ℕ) → (rows : List Part) → List Part
projects facts class name heading caption first numbers rows = let l = facts.language in
    section l (Headed class name heading (table l (codes " class='wide'") caption key.PROJECT first numbers (category_column facts) rows))

abbrev pub table_put : Facts → (opening keys : List ℕ) → (rows : List Part) → List Part
table_put facts opening keys rows =
    heads facts.language opening keys ++ (category_column facts ++ (own HEAD_CLOSING.now ++ (rows ++ own TABLE_CLOSING.now)))

abbrev firsts : Language → (keys : List ℕ) → List Part
firsts l keys = flat_map (column l (codes " class='n round'")) keys

abbrev numbered : Language → (keys : List ℕ) → List Part
numbered l keys = flat_map (column l (codes " class='n'")) keys

projects_as : (facts : Facts) (class name : List ℕ) (heading caption : ℕ) (first numbers : List ℕ) (opening keys : List ℕ) (rows : List Part)
    → ((rest : List ℕ) → before (heads facts.language opening keys) rest ≡ before (top facts.language class name heading caption)
    (before (firsts facts.language first) (before (column facts.language [] key.PROJECT) (before (numbered facts.language numbers) rest))))
    → (rest : List ℕ) → before (table_put facts opening keys rows) rest ≡ before (projects facts class name heading caption first numbers rows) rest
projects_as facts class name heading caption first numbers opening keys rows same rest =
    let l = facts.language in let category = category_column facts in
    table_as (heads l opening keys) category rows HEAD_CLOSING.now TABLE_CLOSING.now rest
    ∙ same (before category (HEAD_CLOSING.now ++ before rows (TABLE_CLOSING.now ++ rest)))
    ∙ sym (inside_as l class name heading caption (firsts l first) (column l [] key.PROJECT) (numbered l numbers) category rows rest)

pub winners_are : (facts : Facts) (x : CountedElectionView) → no_shares x.rule.options.completion ≡ false → length x.counted.outcome.elected == 0 ≡ false
    → (rest : List ℕ) → before (table_put facts WINNERS_OPENING.now
    (key.WINNERS_HEADING ∷ key.WINNERS_CAPTION ∷ key.ROUND ∷ key.PROJECT ∷ key.COST ∷ key.VOTES ∷ key.PRICE ∷ key.IN_FULL ∷ [])
    (flat_map (λ w. row_at facts x w.place) x.counted.outcome.elected)) rest
    ≡ before (section facts.language (winners facts x)) rest
unfolding winners cut
winners_are facts x shared some rest =
    projects_as facts (codes " class='won'") (codes "winners") key.WINNERS_HEADING key.WINNERS_CAPTION
    (key.ROUND ∷ []) (key.COST ∷ key.VOTES ∷ key.PRICE ∷ key.IN_FULL ∷ [])
    WINNERS_OPENING.now (key.WINNERS_HEADING ∷ key.WINNERS_CAPTION ∷ key.ROUND ∷ key.PROJECT ∷ key.COST ∷ key.VOTES ∷ key.PRICE ∷ key.IN_FULL ∷ [])
    (flat_map (λ w. row_at facts x w.place) x.counted.outcome.elected) (λ rest. refl) rest ∙ rw (shared, some) refl

pub no_winners : (facts : Facts) (x : CountedElectionView) (elected : List ElectedView) (k : ℕ) → no_shares x.rule.options.completion ≡ false → elected ≡ x.counted.outcome.elected → length elected == 0 ≡ true
    → k ≡ (if fills_up x.rule.fill_up then key.NO_ELECTED else key.NO_WINNERS) → (rest : List ℕ)
    → before (heads facts.language NONE_WON.now (key.WINNERS_HEADING ∷ k ∷ [])) rest ≡ before (section facts.language (winners facts x)) rest
unfolding winners cut
no_winners facts x elected k shared is none k_is rest = rw (shared, sym is, none, sym k_is) refl

-- the winners where nobody has a share
voted_table : (facts : Facts) (k : ℕ) (rows : List Part) (rest : List ℕ)
    → before (table_put facts WON_BY_VOTES_OPENING.now (key.WINNERS_HEADING ∷ k ∷ key.NUMBER ∷ key.PROJECT ∷ key.COST ∷ key.VOTES ∷ []) rows) rest
    ≡ before (projects facts (codes " class='won'") (codes "winners") key.WINNERS_HEADING k (key.NUMBER ∷ []) (key.COST ∷ key.VOTES ∷ []) rows) rest
unfolding cut
voted_table facts k rows rest = projects_as facts (codes " class='won'") (codes "winners") key.WINNERS_HEADING k (key.NUMBER ∷ []) (key.COST ∷ key.VOTES ∷ [])
    WON_BY_VOTES_OPENING.now (key.WINNERS_HEADING ∷ k ∷ key.NUMBER ∷ key.PROJECT ∷ key.COST ∷ key.VOTES ∷ []) rows (λ rest. refl) rest

pub voted_are : (facts : Facts) (x : CountedElectionView) (k : ℕ) → no_shares x.rule.options.completion ≡ true → length x.counted.added == 0 ≡ false
    → k ≡ by_ties x.rule.ties key.BY_MOST_VOTES key.BY_MOST_VOTES_TIED
    → (rest : List ℕ) → before (table_put facts WON_BY_VOTES_OPENING.now
    (key.WINNERS_HEADING ∷ k ∷ key.NUMBER ∷ key.PROJECT ∷ key.COST ∷ key.VOTES ∷ []) (flat_map (row_at facts x) x.counted.added)) rest
    ≡ before (section facts.language (winners facts x)) rest
unfolding winners
voted_are facts x k alone some k_is rest =
    let rows = flat_map (row_at facts x) x.counted.added in
    voted_table facts k rows rest
    ∙ ap (λ (n : ℕ). before (projects facts (codes " class='won'") (codes "winners") key.WINNERS_HEADING n (key.NUMBER ∷ []) (key.COST ∷ key.VOTES ∷ []) rows) rest) k_is
    ∙ rw (alone, some) refl

pub none_voted : (facts : Facts) (x : CountedElectionView) → no_shares x.rule.options.completion ≡ true → length x.counted.added == 0 ≡ true → (rest : List ℕ)
    → before (heads facts.language NONE_WON.now (key.WINNERS_HEADING ∷ key.NO_WINNERS ∷ [])) rest ≡ before (section facts.language (winners facts x)) rest
unfolding winners cut
none_voted facts x alone none rest = rw (alone, none) refl

added_table : (facts : Facts) (k : ℕ) (rows : List Part) (rest : List ℕ)
    → before (table_put facts ADDED_OPENING.now (key.ADDED_HEADING ∷ k ∷ key.NUMBER ∷ key.PROJECT ∷ key.COST ∷ key.VOTES ∷ []) rows) rest
    ≡ before (projects facts (codes " class='won'") (codes "added") key.ADDED_HEADING k (key.NUMBER ∷ []) (key.COST ∷ key.VOTES ∷ []) rows) rest
unfolding cut
added_table facts k rows rest = projects_as facts (codes " class='won'") (codes "added") key.ADDED_HEADING k (key.NUMBER ∷ []) (key.COST ∷ key.VOTES ∷ [])
    ADDED_OPENING.now (key.ADDED_HEADING ∷ k ∷ key.NUMBER ∷ key.PROJECT ∷ key.COST ∷ key.VOTES ∷ []) rows (λ rest. refl) rest

pub added_are : (facts : Facts) (x : CountedElectionView) (k : ℕ) → no_shares x.rule.options.completion ≡ false → length x.counted.added == 0 ≡ false
    → k ≡ by_ties x.rule.ties key.ADDED_CAPTION key.ADDED_CAPTION_TIED
    → (rest : List ℕ) → before (table_put facts ADDED_OPENING.now
    (key.ADDED_HEADING ∷ k ∷ key.NUMBER ∷ key.PROJECT ∷ key.COST ∷ key.VOTES ∷ []) (flat_map (row_at facts x) x.counted.added)) rest
    ≡ before (flat_map (section facts.language) (added_apart facts x)) rest
unfolding added_apart
added_are facts x k shared some k_is rest =
    let caption = by_ties x.rule.ties key.ADDED_CAPTION key.ADDED_CAPTION_TIED in let rows = flat_map (row_at facts x) x.counted.added in
    added_table facts k rows rest
    ∙ ap (λ (n : ℕ). before (projects facts (codes " class='won'") (codes "added") key.ADDED_HEADING n (key.NUMBER ∷ []) (key.COST ∷ key.VOTES ∷ []) rows) rest) k_is
    ∙ rw (shared, some) (sym (alone_is (projects facts (codes " class='won'") (codes "added") key.ADDED_HEADING caption (key.NUMBER ∷ []) (key.COST ∷ key.VOTES ∷ []) rows) rest))

abbrev others_put : Facts → CountedElectionView → (short : Option ℕ) → List Part
others_put facts x short = others_opening facts.language short ++ (category_column facts ++ (own HEAD_CLOSING.now
    ++ (flat_map (lost_row facts x) (in_file x) ++ own TABLE_CLOSING.now)))

abbrev others_shown : Facts → (short : Option ℕ) → (rows : List Part) → List Part
others_shown facts short rows = projects facts (codes " class='lost'") (codes "others") key.OTHERS_HEADING
    (option_map_or (λ k. key.OTHERS_CAPTION) short key.PASSED_OVER)
    [] (key.COST ∷ key.VOTES ∷ option_map_or (λ k. key.LEFT ∷ k ∷ []) short []) rows

rows_beside : (row : ℕ → List Part) (taken places : List ℕ)
    → flat_map (λ place. if is_taken taken place then [] else row place) places ≡ flat_map row (beside taken places)
rows_beside row taken [] = refl
rows_beside row taken (place ∷ places) = elim (cases_Bool (is_taken taken place)) [
  | inl is ↦ rw is (rows_beside row taken places)
  | inr other ↦ rw other (ap (λ (rows : List Part). row place ++ rows) (rows_beside row taken places))
]

others_some : (facts : Facts) (k : ℕ) (rows : List Part) (rest : List ℕ)
    → before (table_put facts OTHERS_OPENING.now (key.OTHERS_HEADING ∷ key.OTHERS_CAPTION ∷ key.PROJECT ∷ key.COST ∷ key.VOTES ∷ key.LEFT ∷ k ∷ []) rows) rest
    ≡ before (projects facts (codes " class='lost'") (codes "others") key.OTHERS_HEADING key.OTHERS_CAPTION
    [] (key.COST ∷ key.VOTES ∷ key.LEFT ∷ k ∷ []) rows) rest
unfolding cut
others_some facts k rows rest = projects_as facts (codes " class='lost'") (codes "others") key.OTHERS_HEADING key.OTHERS_CAPTION
    [] (key.COST ∷ key.VOTES ∷ key.LEFT ∷ k ∷ [])
    OTHERS_OPENING.now (key.OTHERS_HEADING ∷ key.OTHERS_CAPTION ∷ key.PROJECT ∷ key.COST ∷ key.VOTES ∷ key.LEFT ∷ k ∷ [])
    rows (λ rest. refl) rest

others_none : (facts : Facts) (rows : List Part) (rest : List ℕ)
    → before (table_put facts PASSED_OVER_OPENING.now (key.OTHERS_HEADING ∷ key.PASSED_OVER ∷ key.PROJECT ∷ key.COST ∷ key.VOTES ∷ []) rows) rest
    ≡ before (projects facts (codes " class='lost'") (codes "others") key.OTHERS_HEADING key.PASSED_OVER
    [] (key.COST ∷ key.VOTES ∷ []) rows) rest
unfolding cut
others_none facts rows rest = projects_as facts (codes " class='lost'") (codes "others") key.OTHERS_HEADING key.PASSED_OVER
    [] (key.COST ∷ key.VOTES ∷ [])
    PASSED_OVER_OPENING.now (key.OTHERS_HEADING ∷ key.PASSED_OVER ∷ key.PROJECT ∷ key.COST ∷ key.VOTES ∷ [])
    rows (λ rest. refl) rest

others_as : (facts : Facts) (x : CountedElectionView) (short : Option ℕ) (rest : List ℕ)
    → before (others_put facts x short) rest ≡ before (others_shown facts short (flat_map (lost_row facts x) (in_file x))) rest
others_as facts x (Some k) rest = others_some facts k (flat_map (lost_row facts x) (in_file x)) rest
others_as facts x None rest = others_none facts (flat_map (lost_row facts x) (in_file x)) rest

pub others_are : (facts : Facts) (x : CountedElectionView) (short : Option ℕ) → short ≡ short_key x
    → length (winners_of x.counted) == length x.election.projects ≡ false
    → (rest : List ℕ) → before (others_put facts x short) rest ≡ before (section facts.language (others facts x)) rest
unfolding others
others_are facts x short is some rest =
    ap (λ (s : Option ℕ). before (others_put facts x s) rest) is ∙ (others_as facts x (short_key x) rest
    ∙ (ap (λ (rows : List Part). before (others_shown facts (short_key x) rows) rest)
    (rows_beside (row_at facts x) (winners_of x.counted) (in_file x)) ∙ rw some refl))

pub no_others : (facts : Facts) (x : CountedElectionView) → length (winners_of x.counted) == length x.election.projects ≡ true
    → (rest : List ℕ) → before (heads facts.language NONE_LOST.now (key.OTHERS_HEADING ∷ key.NO_OTHERS ∷ [])) rest ≡ before (section facts.language (others facts x)) rest
unfolding others cut
no_others facts x none rest = rw none refl

-- the column and the cell of the category
pub head_category_is : (facts : Facts) (g : Categories) → facts.categories ≡ Some g → (rest : List ℕ)
    → before (heads facts.language HEAD_CATEGORY.now (key.CATEGORY ∷ [])) rest ≡ before (category_column facts) rest
unfolding cut
head_category_is facts g some rest = rw some refl

-- the row of a project
row_as : (place : ℕ) (id : List ℕ) (ended category : List Part) (rest : List ℕ)
    → before (cut ROW_OPENING.now (decimal place ∷ id ∷ []) ++ (ended ++ (category ++ own ROW_CLOSING.now))) rest
    ≡ before (fill (codes "<tr role='row' id='p-~' data-project='~'>~~</tr>\n") (text (decimal place) ∷ text id ∷ ended ∷ category ∷ [])) rest
unfolding cut
row_as place id ended category rest = simp before_more

abbrev category_shown : Facts → (name : List ℕ) → List Part
category_shown facts name =
    fill (codes "<td role='cell' data-label='~'><bdi dir='auto'>~</bdi></td>") (said facts.language key.CATEGORY ∷ text name ∷ [])

abbrev pub category_cell : Facts → (place : ℕ) → List Part
category_cell facts place = option_map_or (λ g. category_shown facts (category_name g (category_of g place))) facts.categories []

pub category_cell_is : (facts : Facts) (place : ℕ) (g : Categories) (name : List ℕ) → facts.categories ≡ Some g → name ≡ category_name g (category_of g place)
    → (rest : List ℕ) → before (cut ROW_CATEGORY.now (sentence facts.language.words key.CATEGORY ∷ name ∷ [])) rest ≡ before (category_cell facts place) rest
unfolding cut
category_cell_is facts place g name some is rest =
    ap (λ (t : List ℕ). before (category_shown facts t) rest) is ∙ rw some refl

-- a row has told of what was paid
abbrev went : Language → CountedElectionView → (place votes left : ℕ) → List Part
went l x place votes left = if nat_lt votes 5 then []
    else money_told l x left (money_of (paid_together x.election x.counted.outcome place))

went_is : (l : Language) (x : CountedElectionView) (place votes : ℕ) (lost : Lost)
    → went_as l x (told_of x place votes (ending.Lost lost)) lost.left ≡ went l x place votes lost.left
went_is l x place votes lost = elim (cases_Bool (nat_lt votes 5)) [
  | inl few ↦ rw few refl
  | inr many ↦ rw many refl
]

told_is : (l : Language) (x : CountedElectionView) (short : Option ℕ) (whole : ℕ) (p : ProjectView) (place votes : ℕ) (e : Ending)
    → ended_row l x short whole p votes (went_as l x (told_of x place votes e)) e ≡ ended_row l x short whole p votes (went l x place votes) e
told_is l x short whole p place votes (ending.Won w) = refl
told_is l x short whole p place votes (ending.Added a) = refl
told_is l x short whole p place votes (ending.Lost lost) =
    ap (λ (told : List Part). ended_row l x short whole p votes (λ (left : ℕ). told) (ending.Lost lost)) (went_is l x place votes lost)

pub row_is : (facts : Facts) (x : CountedElectionView) (place at there : ℕ) (p : ProjectView) (id name : List ℕ) (cost : ℕ) (short : Option ℕ) (budget votes : ℕ)
    (e : Ending) (paid : Option MoneyView) → at ≡ slice_index x.order place → there ≡ slice_index x.order place → paid ≡ told_of x place votes e
    → p ≡ project_at x.election place → id ≡ p.id → name ≡ p.name → cost ≡ p.cost → short ≡ short_key x
    → budget ≡ x.election.budget → votes ≡ (project_reason x.rule.options.grain x.election x.counted place).votes → e ≡ (project_reason x.rule.options.grain x.election x.counted place).ending
    → (rest : List ℕ)
    → before (cut ROW_OPENING.now (decimal at ∷ id ∷ []) ++ (ended_row facts.language x short budget (record { id = id; name = name; cost = cost }) votes (went_as facts.language x paid) e
    ++ (category_cell facts there ++ own ROW_CLOSING.now))) rest
    ≡ before (row_at facts x place) rest
row_is facts x place at there p id name cost short budget votes e paid at_is there_is paid_is p_is id_is name_is cost_is short_is budget_is votes_is e_is rest =
    let r = project_reason x.rule.options.grain x.election x.counted place in let q = project_at x.election place in
    let l = facts.language in let own_place = slice_index x.order place in let category = category_cell facts own_place in
    rw (at_is, there_is, paid_is, id_is, name_is, cost_is, p_is, short_is, budget_is, votes_is, e_is)
    (ap (λ (ended : List Part). before (cut ROW_OPENING.now (decimal own_place ∷ q.id ∷ []) ++ (ended ++ (category ++ own ROW_CLOSING.now))) rest)
    (told_is l x (short_key x) x.election.budget q place r.votes r.ending)
    ∙ row_as own_place q.id (ended_row l x (short_key x) x.election.budget q r.votes (went l x place r.votes) r.ending) category rest)

abbrev won_put : Language → (price : Divided) → (seen : ℕ) → ProjectView → (wide votes : ℕ) → Won → List Part
won_put l price seen p wide votes w = cut WINNER.now (sentence l.words key.ROUND ∷ decimal w.round ∷ grouped l.costs.group.now (decimal w.round) ∷ p.id ∷ p.name ∷ decimal wide
    ∷ sentence l.words key.COST ∷ money_text p.cost ∷ shown l.costs p.cost ∷ sentence l.words key.VOTES ∷ decimal votes
    ∷ grouped l.costs.group.now (decimal votes) ∷ sentence l.words key.PRICE ∷ exact_text price.amount price.divisor ∷ shown l.amounts seen
    ∷ sentence l.words key.IN_FULL ∷ decimal w.in_full ∷ grouped l.costs.group.now (decimal w.in_full) ∷ [])

pub won_is : (l : Language) (x : CountedElectionView) (short : Option ℕ) (whole : ℕ) (p : ProjectView) (price : Divided) (seen wide votes : ℕ) (w : Won)
    → seen ≡ rounded price → price ≡ counted_in x true w.exact.payers w.exact.amount → wide ≡ width p.cost whole → (rest : List ℕ)
    → before (won_put l price seen p wide votes w) rest ≡ before (ended_row l x short whole p votes (λ left. []) (ending.Won w)) rest
unfolding cut
won_is l x short whole p price seen wide votes w seen_is price_is is rest =
    let its = counted_in x true w.exact.payers w.exact.amount in
    ap (λ (n : ℕ). before (won_put l price n p wide votes w) rest) seen_is
    ∙ ap (λ (d : Divided). before (won_put l d (rounded d) p wide votes w) rest) price_is
    ∙ ap (λ (n : ℕ). before (won_put l its (rounded its) p n votes w) rest) is

abbrev added_put : Language → ProjectView → (wide votes : ℕ) → Added → List Part
added_put l p wide votes a = cut ADDED.now (sentence l.words key.NUMBER ∷ decimal a.number ∷ grouped l.costs.group.now (decimal a.number) ∷ p.id ∷ p.name ∷ decimal wide
    ∷ sentence l.words key.COST ∷ money_text p.cost ∷ shown l.costs p.cost ∷ sentence l.words key.VOTES ∷ decimal votes
    ∷ grouped l.costs.group.now (decimal votes) ∷ [])

pub added_is : (l : Language) (x : CountedElectionView) (short : Option ℕ) (whole : ℕ) (p : ProjectView) (wide votes : ℕ) (a : Added) → wide ≡ width p.cost whole → (rest : List ℕ)
    → before (added_put l p wide votes a) rest ≡ before (ended_row l x short whole p votes (λ left. []) (ending.Added a)) rest
unfolding cut
added_is l x short whole p wide votes a is rest = ap (λ (n : ℕ). before (added_put l p n votes a) rest) is

abbrev lost_head : ProjectView → (wide : ℕ) → List Part
lost_head p wide = cut OTHER_OPENING.now (p.id ∷ p.name ∷ decimal wide ∷ [])

abbrev cost_votes : Language → ProjectView → (votes : ℕ) → List Part
cost_votes l p votes = under l key.COST (amount l.costs (codes "cost") p.cost) ++ under l key.VOTES (number l (codes "votes") votes)

abbrev left_missing : Language → (short : ℕ) → (left missing : Divided) → (says : List Part) → List Part
left_missing l short left missing says = under l key.LEFT (parted l.amounts (codes "left") left)
    ++ under l short (figure (codes "missing") (exact_text missing.amount missing.divisor) says)

abbrev lost_cells : Language → (short : ℕ) → ProjectView → (votes : ℕ) → (left : Divided) → (seen : ℕ) → (missing : Divided) → (says : List Part) → List Part
lost_cells l short p votes left seen missing says = cut OTHER.now (sentence l.words key.COST ∷ money_text p.cost ∷ shown l.costs p.cost
    ∷ sentence l.words key.VOTES ∷ decimal votes ∷ grouped l.costs.group.now (decimal votes) ∷ sentence l.words key.LEFT
    ∷ exact_text left.amount left.divisor ∷ shown l.amounts seen
    ∷ sentence l.words short ∷ exact_text missing.amount missing.divisor ∷ []) ++ (says ++ own OTHER_CLOSING.now)

cells_as : (l : Language) (short : ℕ) (p : ProjectView) (votes : ℕ) (left missing : Divided) (says : List Part) (rest : List ℕ)
    → before (lost_cells l short p votes left (rounded left) missing says) rest
    ≡ before (own (codes "</th>") ++ (cost_votes l p votes ++ left_missing l short left missing says)) rest
unfolding cut
cells_as l short p votes left missing says rest = simp before_more

-- what is said of what was missing
abbrev short_said : Language → Divided → List Part
short_said l missing = say l key.SHORT (text (shown l.amounts (rounded missing)) ∷ [])

pub lacking_is : (l : Language) (x : CountedElectionView) (short : ℕ) (p : ProjectView) (votes : ℕ) (lost : Lost) (left missing : Divided) (seen n : ℕ)
    → seen ≡ rounded left → left ≡ counted_in x false 1 lost.left → missing ≡ counted_in x true 1 lost.missing → n ≡ rounded (counted_in x true 1 lost.missing) → (rest : List ℕ)
    → before (lost_cells l short p votes left seen missing (say l key.SHORT (text (shown l.amounts n) ∷ []))) rest
    ≡ before (lacking l x short p votes lost) rest
lacking_is l x short p votes lost left missing seen n seen_is left_is missing_is n_is rest =
    let its_left = counted_in x false 1 lost.left in let its_missing = counted_in x true 1 lost.missing in
    ap (λ (m : ℕ). before (lost_cells l short p votes left seen missing (say l key.SHORT (text (shown l.amounts m) ∷ []))) rest) n_is
    ∙ ap (λ (m : ℕ). before (lost_cells l short p votes left m missing (short_said l its_missing)) rest) seen_is
    ∙ ap (λ (d : Divided). before (lost_cells l short p votes d (rounded d) missing (short_said l its_missing)) rest) left_is
    ∙ ap (λ (d : Divided). before (lost_cells l short p votes its_left (rounded its_left) d (short_said l its_missing)) rest) missing_is
    ∙ cells_as l short p votes its_left its_missing (short_said l its_missing) rest

told_in : (l : Language) (p : ProjectView) (wide votes : ℕ) (told more : List Part) (rest : List ℕ)
    → before (lost_head p wide) (before told (before (own (codes "</th>") ++ (cost_votes l p votes ++ more)) rest))
    ≡ before (cells l p votes (bar wide ++ told) ++ more) rest
unfolding cut
told_in l p wide votes told more rest = simp before_more

abbrev lost_put : Language → CountedElectionView → (short : ℕ) → ProjectView → (wide votes : ℕ) → Lost → (told : List Part) → List Part
lost_put l x short p wide votes lost told = lost_head p wide ++ (told ++ lacking l x short p votes lost)

lost_as : (l : Language) (x : CountedElectionView) (short : ℕ) (p : ProjectView) (wide votes : ℕ) (lost : Lost) (told : List Part) (rest : List ℕ)
    → before (lost_put l x short p wide votes lost told) rest
    ≡ before (cells l p votes (bar wide ++ told)
    ++ left_missing l short (counted_in x false 1 lost.left) (counted_in x true 1 lost.missing) (short_said l (counted_in x true 1 lost.missing))) rest
lost_as l x short p wide votes lost told rest =
    before_more (lost_head p wide) (told ++ lacking l x short p votes lost) rest
    ∙ (ap (λ (t : List ℕ). before (lost_head p wide) t) (before_more told (lacking l x short p votes lost) rest)
    ∙ told_in l p wide votes told (left_missing l short (counted_in x false 1 lost.left) (counted_in x true 1 lost.missing)
    (short_said l (counted_in x true 1 lost.missing))) rest)

pub lost_is : (l : Language) (x : CountedElectionView) (short : Option ℕ) (k whole : ℕ) (p : ProjectView) (wide votes : ℕ) (lost : Lost) (told : ℕ → List Part)
    → short ≡ Some k → wide ≡ width (rounded (counted_in x false 1 lost.left)) p.cost → (rest : List ℕ)
    → before (lost_put l x k p wide votes lost (told lost.left)) rest
    ≡ before (ended_row l x short whole p votes told (ending.Lost lost)) rest
lost_is l x short k whole p wide votes lost told some is rest =
    ap (λ (n : ℕ). before (lost_put l x k p n votes lost (told lost.left)) rest) is
    ∙ (lost_as l x k p (width (rounded (counted_in x false 1 lost.left)) p.cost) votes lost (told lost.left) rest
    ∙ ap (λ (s : Option ℕ). before (ended_row l x s whole p votes told (ending.Lost lost)) rest) (sym some))

-- a loser's row where nobody has a share
pub passed_over_is : (l : Language) (p : ProjectView) (votes : ℕ) (rest : List ℕ)
    → before (cut PASSED_OVER.now (p.id ∷ p.name ∷ sentence l.words key.COST ∷ money_text p.cost ∷ shown l.costs p.cost
    ∷ sentence l.words key.VOTES ∷ decimal votes ∷ grouped l.costs.group.now (decimal votes) ∷ [])) rest ≡ before (cells l p votes []) rest
unfolding cut
passed_over_is l p votes rest = refl

pub passed_is : (l : Language) (x : CountedElectionView) (short : Option ℕ) (whole : ℕ) (p : ProjectView) (votes : ℕ) (lost : Lost) (told : ℕ → List Part)
    → short ≡ None → (rest : List ℕ)
    → before (cells l p votes []) rest ≡ before (ended_row l x short whole p votes told (ending.Lost lost)) rest
passed_is l x short whole p votes lost told none rest =
    ap (λ (s : Option ℕ). before (ended_row l x s whole p votes told (ending.Lost lost)) rest) (sym none)

-- where the money went
money_as : (l : Language) (payments more nothing kept : List Part) (rest : List ℕ)
    → before (heads l WENT_OPENING.now (key.WENT ∷ []) ++ (payments ++ (more ++ (nothing ++ (kept ++ own WENT_CLOSING.now))))) rest
    ≡ before (fill (codes "<details><summary>~</summary><ul>\n~~~~</ul>\n</details>") (said l key.WENT ∷ payments ∷ more ∷ nothing ∷ kept ∷ [])) rest
unfolding cut
money_as l payments more nothing kept rest = simp before_more

abbrev money_put : Language → CountedElectionView → (left : Divided) → List Payment → (more : ℕ) → (is_empty : Bool) → List Part
money_put l x left payments more is_empty = heads l WENT_OPENING.now (key.WENT ∷ []) ++ (flat_map (payment_told l x) payments ++ (more_told l x more
    ++ (nothing_told l is_empty ++ (item (say l key.KEPT (parted l.amounts (codes "kept") left ∷ [])) ++ own WENT_CLOSING.now))))

pub money_is : (l : Language) (x : CountedElectionView) (left : ℕ) (m : MoneyView) (kept : Divided) (payments : List Payment) (more : ℕ) (is_empty : Bool)
    → kept ≡ counted_in x false 1 left → payments ≡ m.most → more ≡ m.others → is_empty ≡ (length m.most == 0) → (rest : List ℕ)
    → before (money_put l x kept payments more is_empty) rest ≡ before (money_told l x left m) rest
money_is l x left m kept payments more is_empty kept_is payments_are more_is empty_is rest =
    let its = counted_in x false 1 left in
    ap (λ (d : Divided). before (money_put l x d payments more is_empty) rest) kept_is
    ∙ (ap (λ (ps : List Payment). before (money_put l x its ps more is_empty) rest) payments_are
    ∙ (ap (λ (n : ℕ). before (money_put l x its m.most n is_empty) rest) more_is
    ∙ (ap (λ (b : Bool). before (money_put l x its m.most m.others b) rest) empty_is
    ∙ money_as l (flat_map (payment_told l x) m.most) (more_told l x m.others) (nothing_told l (length m.most == 0))
    (item (say l key.KEPT (parted l.amounts (codes "kept") its ∷ []))) rest)))

abbrev more_put : Language → (paid : Divided) → List Part
more_put l paid = item (say l key.PAID_MORE (parted l.amounts (codes "paid_more") paid ∷ []))

pub more_is : (l : Language) (x : CountedElectionView) (others : ℕ) (paid : Divided) → paid ≡ counted_in x false 1 others → others ≢ 0 → (rest : List ℕ)
    → before (more_put l paid) rest ≡ before (more_told l x others) rest
more_is l x others paid is some rest =
    let so : others == 0 ≡ false = ne_eqb others 0 some in
    rw so (ap (λ (d : Divided). before (more_put l d) rest) is)

abbrev payment_put : Language → (paid : Divided) → (project : List Part) → List Part
payment_put l paid project = item (say l key.PAID (parted l.amounts (codes "paid_for") paid ∷ project ∷ []))

pub payment_is : (l : Language) (x : CountedElectionView) (p : Payment) (paid : Divided) (project : List Part) → paid ≡ counted_in x false 1 p.amount
    → project ≡ linked x p.place → (rest : List ℕ) → before (payment_put l paid project) rest ≡ before (payment_told l x p) rest
payment_is l x p paid project paid_is is rest =
    ap (λ (d : Divided). before (payment_put l d project) rest) paid_is
    ∙ ap (λ (t : List Part). before (payment_put l (counted_in x false 1 p.amount) t) rest) is

-- an entry of a list of projects
abbrev entry_shown : Language → (place : ℕ) → ProjectView → List Part
entry_shown l place p = fill (codes "<li>~ (<data value='~'>~</data>)</li>\n") (fill (codes "<a href='#p-~'>~</a>")
    (text (decimal place) ∷ titled p ∷ []) ∷ text (money_text p.cost) ∷ text (shown l.costs p.cost) ∷ [])

pub entry_is : (l : Language) (x : CountedElectionView) (place at : ℕ) (p : ProjectView) (id name : List ℕ) (cost : ℕ) → at ≡ slice_index x.order place
    → p ≡ project_at x.election place → id ≡ p.id → name ≡ p.name → cost ≡ p.cost → (rest : List ℕ)
    → before (cut ENTRY.now (decimal at ∷ id ∷ name ∷ money_text cost ∷ shown l.costs cost ∷ [])) rest ≡ before (entry l x place) rest
unfolding cut
entry_is l x place at p id name cost at_is is id_is name_is cost_is rest =
    let there = slice_index x.order place in
    ap (λ (n : ℕ). before (entry_shown l n (record { id = id; name = name; cost = cost })) rest) at_is
    ∙ ap (λ (t : List ℕ). before (entry_shown l there (record { id = t; name = name; cost = cost })) rest) id_is
    ∙ ap (λ (t : List ℕ). before (entry_shown l there (record { id = p.id; name = t; cost = cost })) rest) name_is
    ∙ ap (λ (n : ℕ). before (entry_shown l there (record { id = p.id; name = p.name; cost = n })) rest) cost_is
    ∙ ap (λ (q : ProjectView). before (entry_shown l there q) rest) is
