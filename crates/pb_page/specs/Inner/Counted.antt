-- Words of private contracts on what is counted.
use Rattle.std.specs.Prelude.{◌≡◌, ℕ, ◌<◌, ◌-◌, ◌==◌, List, [], ◌∷◌, ◌++◌, All, codes, decimal, filter}
use Rattle.std.specs.Prelude.{Option, count_by, flat_map, if◌then◌else◌, length, map, slice_index, sum_by, Bool, None, Some, false, nat_le, nat_lt, true}
use Rattle.std.specs.Borrow.{Bor}
use Rattle.std.specs.Option.{option_map_or}
use Rattle.pb_core.specs.Election.{ElectionView, ProjectView}
use Rattle.pb_core.specs.MoneyText.{money_text}
use Rattle.pb_page.specs.Amount.{grouped, rounded, shown}
use Rattle.pb_page.specs.Content.{Headed, Part, amount, digits, figure, fill, item, listed, noun_at, number, paragraph, parted, said, say, section, table, text, under}
use Rattle.pb_page.specs.Page.{ballots_row, beside, by_raises, category_of, compared_row, counted_in, entry, linked, links, row_at, source, tie}
use Rattle.pb_page.specs.Inner.Value.{code, files_link, nameless}
use Rattle.pb_page.specs.Page.{money_told, raises_ended, voters, width}
use Rattle.pb_page.specs.Inner.Filling.{cut, own}
use Rattle.pb_page.specs.Words.{sentence}
use Rattle.pb_page.specs.declared.categories.Categories.{Categories}
use Rattle.pb_page.specs.declared.facts.Facts.{Facts}
use Rattle.pb_page.specs.declared.facts.ReadText.{ReadText}
use Rattle.pb_page.specs.declared.figures.Figures.{Figures}
use Rattle.pb_page.specs.declared.in_category.InCategory.{InCategory}
use Rattle.pb_page.specs.declared.keys.TheConstants as key
use Rattle.pb_page.specs.declared.language.Language.{Language}
use Rattle.pb_page.specs.declared.project_row.ProjectRow.{ProjectRow}
use Rattle.pb_page.specs.declared.templates.TheConstants.{OTHERS_OPENING, PASSED_OVER_OPENING, VOTERS_ROW_CLOSING}
use Rattle.pb_page.specs.declared.markup.divided.Divided.{Divided}
use Rattle.pb_price.specs.Grain.{in_parts}
use Rattle.pb_price.specs.Supporters.{cost_at, support_in, support_of}
use Rattle.pb_reasons.specs.AllTies.{answered_ties}
use Rattle.pb_reasons.specs.BesideVotes.{beside_votes, elected_by_votes}
use Rattle.pb_reasons.specs.Counted.{winners_of}
use Rattle.pb_reasons.specs.CountedElection.{CountedElectionView}
use Rattle.pb_reasons.specs.Comparison.{choices_of}
use Rattle.pb_reasons.specs.Money.{MoneyView, money_of, paid_together}
use Rattle.pb_reasons.specs.Totals.{totals_of}
use Rattle.pb_reasons.specs.declared.payment.Payment.{Payment}
use Rattle.pb_reasons.specs.declared.project_reason.Ending.{Ending}
use Rattle.pb_reasons.specs.declared.project_reason.Ending.TheVariants as ending
use Rattle.pb_reasons.specs.declared.project_reason.Lost.{Lost}
use Rattle.pb_reasons.specs.declared.raise_end.NextRaise.{NextRaise}
use Rattle.pb_reasons.specs.declared.raise_end.RaiseEnd.{RaiseEnd}
use Rattle.pb_reasons.specs.declared.raise_end.RaiseEnd.TheVariants.{Over}
use Rattle.pb_rounds.specs.Count.{no_shares}
use Rattle.pb_rounds.specs.MostVotes.{is_taken}
use Rattle.pb_rounds.specs.RuleNames.{by_completion, by_grain, by_measure, by_ties, completion_name, measure_name, ties_name}
use Rattle.pb_rows.specs.ExactText.{exact_text}
use Rattle.pb_rounds.specs.declared.rule.Rule.{Rule}

-- the numbers of the whole
abbrev pub figures_of : CountedElectionView → Figures
figures_of x = let e = x.election in let totals = totals_of x.rule.options.grain e x.counted in record {
  voters = length e.voters;
  projects = length e.projects;
  won = length (winners_of x.counted);
  budget = e.budget;
  spent = totals.spent;
  left = e.budget - totals.spent;
  surplus = totals.surplus;
  parts = in_parts x.rule.options.grain (length e.voters) 1;
  grain = x.rule.options.grain;
  by_votes = no_shares x.rule.options.completion;
}

-- how many won and what was spent, or that no project won: the second sentence of the summary
abbrev pub result_said : Language → Figures → List Part
result_said l f = if f.won == 0
    then figure (codes "won") (decimal f.won) [] ++ (figure (codes "spent") (money_text f.spent) []
    ++ (figure (by_grain f.grain (codes "surplus") (codes "uncovered")) (money_text f.surplus) [] ++ say l key.NONE_WON (amount l.costs (codes "left") f.left ∷ [])))
    else say l key.WON (number l (codes "won") f.won ∷ amount l.costs (codes "spent") f.spent
    ∷ amount l.costs (codes "left") f.left ∷ noun_at l key.WINNERS f.won ∷ [])

-- what is said of the whole, in and below the picture of the budget, and of the share
abbrev pub voted_said : Language → Figures → List Part
voted_said l f = say l key.VOTED (number l (codes "voters") f.voters ∷ number l (codes "projects") f.projects
    ∷ amount l.costs (codes "budget") f.budget ∷ noun_at l key.PEOPLE f.voters ∷ noun_at l key.TOPICS f.projects ∷ [])

abbrev pub picture_said : Language → Figures → List Part
picture_said l f = say l key.PICTURE
    (text (shown l.costs f.budget) ∷ text (shown l.costs f.spent) ∷ text (shown l.costs f.left) ∷ [])

abbrev pub spent_said : Language → Figures → List Part
spent_said l f = say l (if f.won == 0 then key.BUDGET_NONE else if f.by_votes then key.BUDGET_BY_VOTES
    else by_grain f.grain key.BUDGET_CAPTION key.BUDGET_FINE) (amount l.costs (codes "spent") f.spent
    ∷ amount l.costs (codes "left") f.left ∷ parted l.amounts (by_grain f.grain (codes "surplus") (codes "uncovered"))
    (record { amount = f.surplus; divisor = f.parts; is_up = true }) ∷ [])

abbrev pub share_said : Language → (k step : ℕ) → (share : Divided) → (raises : ℕ) → List Part
share_said l k step share raises = item (say l k (parted l.amounts (codes "share") share ∷ number l (codes "raises") raises
    ∷ nameless (money_text step) (text (shown l.amounts step)) ∷ noun_at l key.TIMES raises ∷ []))

abbrev pub items_said : Language → (keys : List ℕ) → List Part
items_said l keys = flat_map (λ k. item (said l k)) keys

-- how the projects were elected: the share, two sentences on the rounds, one on the raises, and why these ended
abbrev pub rounds_said : Language → CountedElectionView → RaiseEnd → List Part
rounds_said l x end = let r = x.rule in let o = r.options in let raised = x.counted.outcome.raised in
    let raises = if raised == 0 then key.UNRAISED else key.RAISED in
    share_said l (by_raises r key.SHARE_UNRAISED key.SHARE) o.step (counted_in x false 1 x.counted.outcome.share) raised
    ++ (items_said l (key.SUPPORTERS ∷ by_measure o.measure (by_ties r.ties key.BY_VOTES key.BY_VOTES_TIED)
    (by_ties r.ties key.BY_COST key.BY_COST_TIED) ∷ by_completion o.completion r.fill_up key.PLAIN raises
    (by_ties r.ties key.FILLED_UP key.FILLED_UP_TIED) raises ∷ []) ++ raises_ended l x end)

abbrev pub rounds_told : Language → CountedElectionView → RaiseEnd → List Part
rounds_told l x end = if length x.election.voters == 0 then [] else rounds_said l x end

abbrev pub filled_up : Language → Rule → List Part
filled_up l r = flat_map (λ k. item (said l k)) (by_completion r.options.completion r.fill_up [] [] []
    (by_ties r.ties key.FILLED_UP key.FILLED_UP_TIED ∷ []))

-- by which rule equal projects come, where that is not the order of the file alone; and the ties
abbrev pub equals : Language → Rule → List Part
equals l r = by_ties r.ties [] (item (say l key.EQUALS (code (ties_name r.ties) ∷ [])))

abbrev pub ties_listed : Language → CountedElectionView → List Part
ties_listed l x = listed l (by_ties x.rule.ties key.TIES key.TIES_TIED) (own (codes " class='ties'"))
    (flat_map (tie l x) (answered_ties x))

abbrev pub works_said : Language → (k budget voters : ℕ) → (opening : Divided) → List Part
works_said l k budget voters opening = paragraph (say l k (amount l.costs (codes "budget") budget
    ∷ number l (codes "voters") voters ∷ parted l.amounts (codes "opening_share") opening ∷ []))

-- the parts of how to check a result
abbrev pub journal_source : Option ReadText → List Part
journal_source journal = option_map_or (source (codes "JOURNAL: ")) journal []

abbrev pub files_said : Language → Option (Bor (List ℕ)) → List Part
files_said l files = option_map_or (λ address. paragraph (say l key.FILES (files_link l address.now ∷ []))) files []

abbrev pub recount_said : Language → List ℕ → List Part
recount_said l address = paragraph (say l key.RECOUNT
    (fill (codes "<a href='~'>~</a>") (text address ∷ said l key.LINK ∷ []) ∷ []))

abbrev pub link_said : Language → Option (Bor (List ℕ)) → List Part
link_said l recount = option_map_or (λ address. recount_said l address.now ++ paragraph (said l key.PROGRAM_TOO))
    recount (paragraph (said l key.PROGRAM))

abbrev pub begun : Option ReadText → List Part
begun journal = option_map_or (λ j. own (codes "pb_app audit FILE JOURNAL --digests --require-shut")) journal
    (own (codes "sha256sum FILE\npb_app projects FILE"))

abbrev pub options_put : Language → (k by : ℕ) → (measure : List ℕ) → (after : ℕ) → (completion : List ℕ) → (step limit : ℕ) → List Part
options_put l k by measure after completion step limit = paragraph (say l k (said l by ∷ text measure ∷ said l after ∷ text completion
    ∷ amount l.amounts (codes "step") step ∷ number l (codes "limit") limit ∷ []))

abbrev pub options_said : Language → Rule → List Part
options_said l r = let o = r.options in options_put l (by_raises r key.OPTIONS_UNRAISED key.OPTIONS)
    (by_measure o.measure key.MEASURE_VOTES key.MEASURE_COST) (measure_name o.measure) (by_completion o.completion r.fill_up
    key.COMPLETION_NONE key.COMPLETION_ADD1 key.COMPLETION_UTILITARIAN key.COMPLETION_ADD1U) (completion_name o.completion r.fill_up)
    o.step o.max_raises

-- the options of the command, and in words
abbrev pub chosen : Rule → List Part
chosen r = let o = r.options in fill (codes "~~~ --step ~ --raises ~") (map text (by_grain o.grain [] (codes " --money fine") ∷ by_measure o.measure [] (codes " --measure cost")
    ∷ by_completion o.completion r.fill_up (codes " --plain") [] (codes " --completion utilitarian") (codes " --completion add1u")
    ∷ decimal o.step ∷ decimal o.max_raises ∷ []))

abbrev pub ties_option : Rule → List Part
ties_option r = by_ties r.ties [] (fill (codes " --ties ~") (text (ties_name r.ties) ∷ []))

abbrev pub method_given : Rule → List Part
method_given r = if no_shares r.options.completion then own (codes " --rule most-votes") else chosen r

abbrev pub options_given : Rule → List Part
options_given r = method_given r ++ ties_option r

abbrev pub options_told : Language → Rule → List Part
options_told l r = if no_shares r.options.completion then [] else options_said l r

abbrev pub name_said : Language → List ℕ → List Part
name_said l name = paragraph (say l key.RULE_NAME (code name ∷ []))

abbrev pub made_by : Language → List ℕ → List Part
made_by l program = paragraph (say l key.MADE_BY (text program ∷ []))

-- the comparison, where it is asked for
unfoldable pub both_only : Language → CountedElectionView → List Part
both_only l x = let own = winners_of x.counted in let other = elected_by_votes x.election in
    links l x key.ONLY_BY_SHARES (beside other own) ++ links l x key.ONLY_BY_VOTES (beside own other)

unfoldable pub compared : Language → CountedElectionView → List Part
compared l x = let rules = beside_votes x.election x.counted in
    section l (Headed (codes " class='many'") (codes "compared") key.COMPARED_HEADING (table l (codes " class='wide'") key.COMPARED_CAPTION
    key.COMPARED_RULE [] (key.COMPARED_WON ∷ key.COMPARED_COST ∷ key.WITHOUT ∷ key.MORE ∷ []) []
    (compared_row l key.EQUAL_SHARES rules.own ++ compared_row l key.MOST_VOTES rules.other)
    ++ both_only l x))

-- the projects at these places, below what is said of them
abbrev pub those_said : Language → CountedElectionView → (k : ℕ) → (places : List ℕ) → List Part
those_said l x k places = listed l k [] (flat_map (entry l x) places)

-- on how many ballots so many choices won, and so many or more; and what the voters got
abbrev pub exactly : ℕ → List ℕ → ℕ
exactly n won = count_by (λ k. k == n) won

abbrev pub at_least : ℕ → List ℕ → ℕ
at_least n won = count_by (λ k. nat_le n k) won

abbrev pub voters_told : Language → CountedElectionView → List Part
voters_told l x = section l (voters l (map (λ v. choices_of (winners_of x.counted) v.ballot) x.election.voters))

-- how many voters have a winner among theirs; and the row of so many winners
abbrev pub got_said : Language → List ℕ → List Part
got_said l won = paragraph (say l key.GOT (digits l (at_least 1 won) ∷ number l (codes "voters") (length won)
    ∷ digits l (exactly 0 won) ∷ noun_at l key.ALL (length won) ∷ noun_at l key.HAVE (at_least 1 won)
    ∷ noun_at l key.LACK (exactly 0 won) ∷ []))

abbrev pub ballots_end : Language → (ballots voters : ℕ) → List Part
ballots_end l ballots voters =
    cut VOTERS_ROW_CLOSING.now (decimal (width ballots voters) ∷ decimal ballots ∷ grouped l.costs.group.now (decimal ballots) ∷ [])

abbrev pub exact_row : Language → List ℕ → ℕ → List Part
exact_row l won n = ballots_row l key.EXACTLY n (exactly n won) won

-- what is told of where the money of a project's supporters went, and how
abbrev pub told_of : CountedElectionView → (place votes : ℕ) → Ending → Option MoneyView
told_of x place votes (ending.Won w) = None
told_of x place votes (ending.Added a) = None
told_of x place votes (ending.Lost lost) =
    if nat_lt votes 5 then None else Some (money_of (paid_together x.election x.counted.outcome place))

abbrev pub went_as : Language → CountedElectionView → Option MoneyView → (left : ℕ) → List Part
went_as l x paid left = option_map_or (money_told l x left) paid []

abbrev pub payment_told : Language → CountedElectionView → Payment → List Part
payment_told l x p = item (say l key.PAID (parted l.amounts (codes "paid_for") (counted_in x false 1 p.amount) ∷ linked x p.place ∷ []))

abbrev pub more_told : Language → CountedElectionView → ℕ → List Part
more_told l x others = if others == 0 then [] else item (say l key.PAID_MORE (parted l.amounts (codes "paid_more") (counted_in x false 1 others) ∷ []))

abbrev pub nothing_told : Language → Bool → List Part
nothing_told l is_empty = if is_empty then item (said l key.PAID_NOTHING) else []

-- the project of a row; and the row of a place in the table of the others
abbrev pub project_of : ProjectRow → ProjectView
project_of r = record { id = r.id.now; name = r.name.now; cost = r.cost }

abbrev pub lost_row : Facts → CountedElectionView → ℕ → List Part
lost_row facts x place = if is_taken (winners_of x.counted) place then [] else row_at facts x place

-- the projects that a raise more would elect, and those that it would elect no more, are the election's
abbrev pub KnowsPlaces : ElectionView → RaiseEnd → Type 0
KnowsPlaces e end = (next : NextRaise) → end ≡ Over next → All (λ place. place < length e.projects) next.only_then.items
    × All (λ place. place < length e.projects) next.no_more.items

-- which of these winners are of a category, and what it has of them
abbrev pub winners_in : CountedElectionView → Categories → List ℕ → ℕ → List ℕ
winners_in x g winners k = filter (λ place. category_of g (slice_index x.order place) == k) winners

abbrev pub in_category : CountedElectionView → Categories → List ℕ → ℕ → InCategory
in_category x g winners k =
    let those = winners_in x g winners k in
    record { winners = length those; cost = sum_by (cost_at (support_of x.election)) those }

-- the cells of a loser behind its head: its cost and votes, what its supporters have left, and what is missing
abbrev pub lacking : Language → CountedElectionView → (short : ℕ) → ProjectView → (votes : ℕ) → Lost → List Part
lacking l x short p votes lost = let missing = counted_in x true 1 lost.missing in own (codes "</th>") ++ ((under l key.COST (amount l.costs (codes "cost") p.cost)
    ++ under l key.VOTES (number l (codes "votes") votes)) ++ (under l key.LEFT (parted l.amounts (codes "left") (counted_in x false 1 lost.left))
    ++ under l short (figure (codes "missing") (exact_text missing.amount missing.divisor) (say l key.SHORT (text (shown l.amounts (rounded missing)) ∷ [])))))

-- the head of the table of the others
abbrev pub others_opening : Language → (short : Option ℕ) → List Part
others_opening l short = option_map_or (λ k. cut OTHERS_OPENING.now (map (sentence l.words) (key.OTHERS_HEADING ∷ key.OTHERS_CAPTION
    ∷ key.PROJECT ∷ key.COST ∷ key.VOTES ∷ key.LEFT ∷ k ∷ []))) short
    (cut PASSED_OVER_OPENING.now (map (sentence l.words) (key.OTHERS_HEADING ∷ key.PASSED_OVER ∷ key.PROJECT ∷ key.COST ∷ key.VOTES ∷ [])))
