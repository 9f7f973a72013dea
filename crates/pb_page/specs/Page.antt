-- The page of a result: its elements, and which figure is in which.
use Rattle.std.specs.Prelude.{◌≡◌, ℕ, ◌+◌, ◌-◌, ◌*◌, ◌/◌, ◌||◌, ◌==◌, List, [], ◌∷◌, ◌++◌, Bool, codes, count_by, decimal, false, true}
use Rattle.std.specs.Prelude.{filter, flat_map, if◌then◌else◌, length, map, max, min, nat_le, nat_lt, not, slice_get, slice_index, slice_index_or}
use Rattle.std.specs.Prelude.{None, Option, Some, sum_by}
use Rattle.std.specs.List.{range_with_len}
use Rattle.std.specs.Option.{option_map_or}
use Rattle.pb_core.specs.Election.{ElectionView, ProjectView}
use Rattle.pb_core.specs.MoneyText.{money_text}
use Rattle.pb_page.specs.Amount.{rounded, shown}
use Rattle.pb_page.specs.Content.{Headed, Part, Section, amount, bar, column, digits, figure, fill, item, listed, parted}
use Rattle.pb_page.specs.Content.{noun_at, number, paragraph, row, said, say, section, section_link, table, text, under}
use Rattle.pb_page.specs.Words.{sentence}
use Rattle.pb_page.specs.declared.markup.form.Form.{Form}
use Rattle.pb_page.specs.declared.markup.divided.Divided.{Divided}
use Rattle.pb_price.specs.Grain.{in_parts}
use Rattle.pb_price.specs.Supporters.{cost_at, support_in, support_of}
use Rattle.pb_reasons.specs.AllTies.{answered_ties}
use Rattle.pb_reasons.specs.BesideVotes.{beside_votes, elected_by_votes}
use Rattle.pb_reasons.specs.Counted.{winners_of}
use Rattle.pb_reasons.specs.Comparison.{choices_of}
use Rattle.pb_reasons.specs.CountedElection.{CountedElectionView, in_file}
use Rattle.pb_reasons.specs.Money.{MoneyView, money_of, paid_together}
use Rattle.pb_reasons.specs.RaiseEnd.{IsRaiseEnd}
use Rattle.pb_reasons.specs.Reasons.{project_reason}
use Rattle.pb_reasons.specs.Totals.{totals_of}
use Rattle.pb_reasons.specs.declared.raise_end.RaiseEnd.{RaiseEnd}
use Rattle.pb_reasons.specs.declared.raise_end.RaiseEnd.TheVariants.{Plain, Exhausted, Over}
use Rattle.pb_reasons.specs.declared.rule_row.RuleRow.{RuleRow}
use Rattle.pb_reasons.specs.declared.project_reason.Ending.{Ending}
use Rattle.pb_reasons.specs.declared.project_reason.Ending.TheVariants.{Won, Added, Lost}
use Rattle.pb_reasons.specs.declared.told_tie.ToldTie.{ToldTie}
use Rattle.pb_rounds.specs.MostVotes.{is_taken}
use Rattle.pb_rounds.specs.Count.{no_shares, opening_share}
use Rattle.pb_rounds.specs.RuleNames.{by_completion, by_grain, by_measure, by_ties, completion_name, fills_up, measure_name}
use Rattle.pb_rows.specs.ExactText.{exact_text}
use Rattle.pb_rounds.specs.RuleNames.{profile_name, ties_name}
use Rattle.pb_rounds.specs.declared.rule.Rule.{Rule}
use Rattle.pb_page.specs.declared.categories.Categories.{Categories}
use Rattle.pb_page.specs.declared.facts.Decided.{Decided}
use Rattle.pb_page.specs.declared.facts.Facts.{Facts}
use Rattle.pb_page.specs.declared.facts.ReadText.{ReadText}
use Rattle.pb_page.specs.declared.keys.TheConstants as key
use Rattle.pb_page.specs.declared.language.Language.{Language}
use Rattle.pb_page.specs.declared.picture.TheConstants.{GROWN_SHARES, OPENING_SHARES}
use Rattle.pb_page.specs.declared.style.TheConstants.{META, STYLE}

-- how wide an amount is: ten thousandths of the whole, at most all of them
abbrev pub width : ℕ → ℕ → ℕ
width amount whole = min (amount * 10000 / max whole 1) 10000

-- an amount of the parts that are counted, for each of so many payers, rounded up or down
abbrev pub counted_in : CountedElectionView → (is_up : Bool) → (payers amount : ℕ) → Divided
counted_in x is_up payers amount = record { amount = amount; divisor = in_parts x.rule.options.grain (length x.election.voters) payers; is_up = is_up }

-- the project at this place
abbrev pub project_at : ElectionView → ℕ → ProjectView
project_at e place = slice_index_or e.projects place (record { id = []; name = []; cost = 0 })

-- a project by its id and its name
abbrev pub titled : ProjectView → List Part
titled p = fill (codes "<span class='id' dir='auto'>~</span> <bdi dir='auto'>~</bdi>") (text p.id ∷ text p.name ∷ [])

-- a link to the row of the project at this place, which has its place in the file
abbrev pub linked : CountedElectionView → ℕ → List Part
linked x place = fill (codes "<a href='#p-~'>~</a>") (text (decimal (slice_index x.order place)) ∷ titled (project_at x.election place) ∷ [])

-- the number of a project's category, as many as there are where it is in none; and the text of a category
abbrev pub category_of : Categories → (place : ℕ) → ℕ
category_of g place = slice_index_or g.of_project.now place (length g.names.now)

abbrev pub category_name : Categories → ℕ → List ℕ
category_name g k = option_map_or (λ text. text.now) (slice_get g.names.now k) []

-- one of two things, by whether a rule raises shares; so what stands above what projects were short, where voters have
-- shares
abbrev pub by_raises : {A : Type 0} → Rule → (unraised raised : A) → A
by_raises r unraised raised = by_completion r.options.completion r.fill_up unraised raised unraised raised

abbrev pub short_key : CountedElectionView → Option ℕ
short_key x = if (length x.election.voters == 0) || no_shares x.rule.options.completion then None
    else Some (by_raises x.rule key.MISSING key.LEFT_SHORT)

-- those of these places that are not taken
abbrev pub beside : (taken places : List ℕ) → List ℕ
beside taken places = filter (λ place. not (is_taken taken place)) places

-- the winners' parts of the budget, in their order, each behind what those before it cost, and by its name, or its id
-- where it has none
abbrev pub blocks : Form → ElectionView → ℕ → List ℕ → List Part
blocks form e before [] = []
blocks form e before (place ∷ winners) = let p = project_at e place in
    fill (codes "<span style='--from:~;--wide:~' title='~: ~'><bdi dir='auto'>~</bdi></span>\n") (map text (decimal (width before e.budget)
    ∷ decimal (width p.cost e.budget) ∷ (if length p.name == 0 then p.id else p.name) ∷ shown form p.cost ∷ p.id ∷ []))
    ++ blocks form e (before + cost_at (support_of e) place) winners

module _ (l : Language) where
  -- what the rows of projects share: their id, name, bar, cost and votes
  abbrev pub cells : ProjectView → (votes : ℕ) → (more : List Part) → List Part
  cells p votes more = fill (codes "<th role='rowheader' scope='row'>~~</th>~~") (titled p ∷ more
      ∷ under l key.COST (amount l.costs (codes "cost") p.cost) ∷ under l key.VOTES (number l (codes "votes") votes) ∷ [])

  -- the row of so many winners, by what is said of them, on that many ballots; none where no ballot has so many
  -- or more
  abbrev pub ballots_row : (k n ballots : ℕ) → List ℕ → List Part
  ballots_row k n ballots won = if count_by (nat_le n) won == 0 then [] else
      row (fill (codes "<data value='~'>~</data>~") (text (decimal n) ∷ say l k (digits l n ∷ []) ∷ bar (width ballots (length won)) ∷ []))
      (fill (codes "<td role='cell' class='n'><data value='~'>~</data></td>") (text (decimal ballots) ∷ digits l ballots ∷ []))

  -- how many of each voter's choices won: how many voters have a winner among theirs, and how many each has
  unfoldable pub voters : (won : List ℕ) → Section
  voters won = let some = count_by (nat_le 1) won in let none = count_by (λ k. k == 0) won in
      Headed (codes " class='many'") (codes "voters") key.VOTERS_HEADING (paragraph (say l key.GOT (digits l some
      ∷ number l (codes "voters") (length won) ∷ digits l none ∷ noun_at l key.ALL (length won) ∷ noun_at l key.HAVE some
      ∷ noun_at l key.LACK none ∷ [])) ++ table l [] key.VOTERS_CAPTION key.CHOSEN [] (key.VOTERS ∷ []) []
      (flat_map (λ n. ballots_row key.EXACTLY n (count_by (λ k. k == n) won) won) (range_with_len 0 9)
      ++ ballots_row key.OR_MORE 9 (count_by (nat_le 9) won) won))

  -- the row of a rule, beside another
  abbrev pub compared_row : ℕ → RuleRow → List Part
  compared_row k r = row (said l k) (under l key.COMPARED_WON (number l (codes "rule_projects") r.projects)
      ++ (under l key.COMPARED_COST (amount l.costs (codes "rule_cost") r.spent) ++ (under l key.WITHOUT (number l (codes "without") r.without)
      ++ under l key.MORE (number l (codes "more_choices") r.more_choices))))

-- the row of a project up to its category, by how it ended
module _ (l : Language) (x : CountedElectionView) (short : Option ℕ) (whole : ℕ) (p : ProjectView) (votes : ℕ) (went : ℕ → List Part) where
  abbrev pub ended_row : Ending → List Part
  ended_row (Won w) = under l key.ROUND (number l (codes "round") w.round)
      ++ (cells l p votes (bar (width p.cost whole)) ++ (under l key.PRICE (parted l.amounts (codes "price") (counted_in x true w.exact.payers w.exact.amount))
      ++ under l key.IN_FULL (number l (codes "in_full") w.in_full)))
  ended_row (Added a) = under l key.NUMBER (number l (codes "added") a.number) ++ cells l p votes (bar (width p.cost whole))
  ended_row (Lost lost) = let missing = counted_in x true 1 lost.missing in option_map_or (λ k. cells l p votes (bar (width (rounded (counted_in x false 1 lost.left)) p.cost)
      ++ went lost.left) ++ (under l key.LEFT (parted l.amounts (codes "left") (counted_in x false 1 lost.left))
      ++ under l k (figure (codes "missing") (exact_text missing.amount missing.divisor) (say l key.SHORT (text (shown l.amounts (rounded missing)) ∷ [])))))
      short (cells l p votes [])

module _ (l : Language) (x : CountedElectionView) where
  -- an entry of a list: the link to a project, and its cost; and such a list below what is said of it, where there are any
  abbrev pub entry : ℕ → List Part
  entry place = let cost = (project_at x.election place).cost in
      fill (codes "<li>~ (<data value='~'>~</data>)</li>\n") (linked x place ∷ text (money_text cost) ∷ text (shown l.costs cost) ∷ [])

  abbrev pub links : (k : ℕ) → (places : List ℕ) → List Part
  links k places = if length places == 0 then [] else fill (codes "<p>~</p>\n<ul>\n~</ul>\n") (said l k ∷ flat_map entry places ∷ [])

  -- where the money of a project's supporters went, and what they have left
  abbrev pub money_told : (left : ℕ) → MoneyView → List Part
  money_told left m = fill (codes "<details><summary>~</summary><ul>\n~~~~</ul>\n</details>") (said l key.WENT
      ∷ flat_map (λ p. item (say l key.PAID (parted l.amounts (codes "paid_for") (counted_in x false 1 p.amount) ∷ linked x p.place ∷ []))) m.most
      ∷ (if m.others == 0 then [] else item (say l key.PAID_MORE (parted l.amounts (codes "paid_more") (counted_in x false 1 m.others) ∷ [])))
      ∷ (if length m.most == 0 then item (said l key.PAID_NOTHING) else []) ∷ item (say l key.KEPT (parted l.amounts (codes "kept") (counted_in x false 1 left) ∷ [])) ∷ [])

  -- the row of a category, by its number: how many of the winners are of it, and what these cost together
  abbrev pub category_row : Categories → ℕ → List Part
  category_row g k = let name = category_name g k in
      let those = filter (λ place. category_of g (slice_index x.order place) == k) (winners_of x.counted) in
      let cost = sum_by (cost_at (support_of x.election)) those in row (fill (codes "<bdi dir='auto'>~</bdi>~")
      (text (if length name == 0 then sentence l.words key.NO_CATEGORY else name) ∷ bar (width cost x.election.budget) ∷ []))
      (under l key.CATEGORY_WON (number l (codes "category_won") (length those)) ++ under l key.CATEGORY_COST (amount l.costs (codes "category_cost") cost))

  -- what was voted on, who voted, how many won and what was spent; or that no project won, with the numbers for
  -- programs
  unfoldable pub summary : List Part
  summary = let e = x.election in let totals = totals_of x.rule.options.grain e x.counted in let left = e.budget - totals.spent in
      let won = length (winners_of x.counted) in fill (codes "<p class='lead'>~</p>\n<p class='lead'>~</p>\n")
      (say l key.VOTED (number l (codes "voters") (length e.voters) ∷ number l (codes "projects") (length e.projects)
      ∷ amount l.costs (codes "budget") e.budget ∷ noun_at l key.PEOPLE (length e.voters) ∷ noun_at l key.TOPICS (length e.projects) ∷ [])
      ∷ (if won == 0 then figure (codes "won") (decimal won) [] ++ (figure (codes "spent") (money_text totals.spent) []
      ++ (figure (by_grain x.rule.options.grain (codes "surplus") (codes "uncovered")) (money_text totals.surplus) [] ++ say l key.NONE_WON (amount l.costs (codes "left") left ∷ [])))
      else say l key.WON (number l (codes "won") won ∷ amount l.costs (codes "spent") totals.spent
      ∷ amount l.costs (codes "left") left ∷ noun_at l key.WINNERS won ∷ [])) ∷ [])

  -- the picture of the budget, with what it says to those who can't see it, and what is said below it
  unfoldable pub budget : Section
  budget = let e = x.election in let totals = totals_of x.rule.options.grain e x.counted in let left = e.budget - totals.spent in
      Headed [] (codes "budget") key.BUDGET_HEADING
      (fill (codes "<figure>\n<div class='budget' role='img' aria-label='~'>\n~</div>\n<figcaption>~</figcaption>\n</figure>\n")
      (say l key.PICTURE (map (λ h. text (shown l.costs h)) (e.budget ∷ totals.spent ∷ left ∷ [])) ∷ blocks l.costs e 0 (winners_of x.counted)
      ∷ say l (if length (winners_of x.counted) == 0 then key.BUDGET_NONE else if no_shares x.rule.options.completion then key.BUDGET_BY_VOTES
      else by_grain x.rule.options.grain key.BUDGET_CAPTION key.BUDGET_FINE) (amount l.costs (codes "spent") totals.spent
      ∷ amount l.costs (codes "left") left ∷ parted l.amounts (by_grain x.rule.options.grain (codes "surplus") (codes "uncovered"))
      (counted_in x true 1 totals.surplus) ∷ []) ∷ []))

  -- why the raises ended: what would be elected with one more, which projects that have not won only then, and which of
  -- the elected no more
  abbrev pub raises_ended : RaiseEnd → List Part
  raises_ended Plain = []
  raises_ended Exhausted = item (said l key.EXHAUSTED)
  raises_ended (Over next) = item (say l key.OVER (parted l.amounts (codes "next_share") (counted_in x false 1 next.share) ∷ amount l.costs (codes "next_cost") next.cost ∷ []))
      ++ (listed l key.ONLY_THEN [] (flat_map entry (beside (winners_of x.counted) next.only_then.items))
      ++ listed l key.NO_MORE [] (flat_map entry next.no_more.items))

  -- a tie: its round, or that it was in filling up, the project that was chosen, and the other; and the ties, behind the rule
  -- for ties, where that is not the order of the file alone
  abbrev pub tie : ToldTie → List Part
  tie told = let t = told.tie in let r = x.rule in let both = linked x t.winner ∷ linked x t.other ∷ [] in item (option_map_or (λ round. say l
      (by_measure r.options.measure (by_ties r.ties key.TIE_BY_VOTES key.TIE_BY_VOTES_TIED) (by_ties r.ties key.TIE_BY_COST key.TIE_BY_COST_TIED))
      (number l (codes "round") round ∷ both)) t.round (say l (if no_shares r.options.completion
      then by_ties r.ties key.TIE_WON key.TIE_WON_TIED else by_ties r.ties key.TIE_ADDED key.TIE_ADDED_TIED) both))

  unfoldable pub ties : List Part
  ties = let t = x.rule.ties in by_ties t [] (item (say l key.EQUALS (fill (codes "<code>~</code>") (text (ties_name t) ∷ []) ∷ [])))
      ++ listed l (by_ties t key.TIES key.TIES_TIED) (codes " class='ties'" ∷ []) (flat_map tie (answered_ties x))

  -- what shares are, as this election has them, in words and in a picture; nothing where nobody voted
  unfoldable pub works : List Part
  works = let e = x.election in if length e.voters == 0 then []
      else paragraph (say l (by_raises x.rule key.WORKS_UNRAISED key.WORKS) (amount l.costs (codes "budget") e.budget
      ∷ number l (codes "voters") (length e.voters) ∷ parted l.amounts (codes "opening_share") (counted_in x false 1 (opening_share x.rule.options.grain e)) ∷ []))
      ++ fill (codes "<figure>\n~<figcaption>~</figcaption>\n</figure>\n") ((by_raises x.rule OPENING_SHARES.now GROWN_SHARES.now ∷ [])
      ∷ said l (by_raises x.rule key.WORKS_PICTURE_UNRAISED key.WORKS_PICTURE) ∷ [])

  -- that; where somebody voted how the share came about, which project is elected first, whether shares were raised and
  -- why that ended; what the rule is called, how the rest was filled up, and the ties
  unfoldable pub rule : RaiseEnd → Section
  rule end = let r = x.rule in let o = r.options in let raised = x.counted.outcome.raised in
      let raises = if raised == 0 then key.UNRAISED else key.RAISED in let items = flat_map (λ k. item (said l k)) in
      let filled = by_ties r.ties key.FILLED_UP key.FILLED_UP_TIED in
      Headed [] (codes "rule") key.RULE_HEADING (if no_shares o.completion
      then fill (codes "<ol>\n~~</ol>\n") (item (said l (by_ties r.ties key.MOST_VOTES_FIRST key.MOST_VOTES_TIED)) ∷ ties ∷ [])
      else fill (codes "~<ol>\n~~~~</ol>\n") (works ∷ (if length x.election.voters == 0
      then [] else item (say l (by_raises r key.SHARE_UNRAISED key.SHARE) (parted l.amounts (codes "share") (counted_in x false 1 x.counted.outcome.share)
      ∷ number l (codes "raises") raised ∷ fill (codes "<data value='~'>~</data>") (map text (money_text o.step ∷ shown l.amounts o.step ∷ []))
      ∷ noun_at l key.TIMES raised ∷ [])) ++ (items (key.SUPPORTERS
      ∷ by_measure o.measure (by_ties r.ties key.BY_VOTES key.BY_VOTES_TIED) (by_ties r.ties key.BY_COST key.BY_COST_TIED)
      ∷ by_completion o.completion r.fill_up key.PLAIN raises filled raises ∷ []) ++ raises_ended end))
      ∷ items (by_completion o.completion r.fill_up key.METHOD_PLAIN key.METHOD_ADD1 key.METHOD_FILLED
      key.METHOD_ADD1 ∷ by_completion o.completion r.fill_up [] [] [] (filled ∷ [])) ∷ by_grain o.grain [] (item (said l key.FINE_MONEY)) ∷ ties ∷ []))

-- a text that was counted
abbrev pub source : (name : List ℕ) → ReadText → List Part
source name s = fill (codes "<dt>~<bdi dir='auto'>~</bdi>, SHA-256</dt>\n<dd><code>~</code></dd>\n")
    (map text (name ∷ s.name.now ∷ s.digest.now ∷ []))

-- what decides which of two rules applies, as the option for that calls it
abbrev pub decider : Decided → List ℕ
decider d = if d.by_worth then codes "worth" else codes "choices"

module _ (facts : Facts) (r : Rule) where
  -- where it was decided that this rule applies: between which rules, and how many voters have more by each
  unfoldable pub decided : List Section
  decided = let l = facts.language in let name = λ (t : List ℕ). fill (codes "<code>~</code>") (text t ∷ []) in
      option_map_or (λ d. Headed [] (codes "decided") key.DECIDED_HEADING (paragraph (say l
      (if d.by_worth then key.DECIDED_BY_WORTH else key.DECIDED_BY_CHOICES) (name (profile_name d.rule ++ (codes "/decide=" ++ decider d))
      ∷ name (profile_name d.other) ∷ number l (codes "decided_own") d.own ∷ number l (codes "decided_other") d.others
      ∷ name (profile_name r) ∷ []))) ∷ []) facts.decided []

  -- the command that counts it, with the options that were given
  abbrev pub command : List Part
  command = let given = option_map_or (λ d. d.rule) facts.decided r in let o = given.options in
      option_map_or (λ j. codes "pb_app audit FILE JOURNAL --digests --require-shut" ∷ []) facts.journal (codes "sha256sum FILE\npb_app projects FILE" ∷ [])
      ++ ((if no_shares o.completion then codes " --rule most-votes" ∷ []
      else fill (codes "~~~ --step ~ --raises ~") (map text (by_grain o.grain [] (codes " --money fine") ∷ by_measure o.measure [] (codes " --measure cost")
      ∷ by_completion o.completion given.fill_up (codes " --plain") [] (codes " --completion utilitarian") (codes " --completion add1u")
      ∷ decimal o.step ∷ decimal o.max_raises ∷ []))) ++ (by_ties given.ties [] (fill (codes " --ties ~") (text (ties_name given.ties) ∷ []))
      ++ option_map_or (λ d. fill (codes " --decide ~ --beside ~") (map text (decider d ∷ profile_name d.other ∷ []))) facts.decided []))

  -- what was counted, where it is published and where a page recounts it, the command that does, its options again in
  -- words, and the program that made the page
  unfoldable pub check : Section
  check = let l = facts.language in let o = r.options in Headed [] (codes "check") key.CHECK_HEADING
      (fill (codes "<p>~</p>\n<dl>\n~~</dl>\n~~<pre><code>~</code></pre>\n~~~") (said l key.CHECK_BYTES ∷ source (codes "FILE: ") facts.file
      ∷ option_map_or (source (codes "JOURNAL: ")) facts.journal [] ∷ option_map_or (λ address. paragraph (say l key.FILES
      (fill (codes "<a class='files' href='~'>~</a>") (text address.now ∷ said l key.FILES_LINK ∷ []) ∷ []))) facts.files []
      ∷ option_map_or (λ address. paragraph (say l key.RECOUNT (fill (codes "<a href='~'>~</a>") (text address.now ∷ said l key.LINK ∷ []) ∷ []))
      ++ paragraph (said l key.PROGRAM_TOO)) facts.recount (paragraph (said l key.PROGRAM)) ∷ command
      ∷ (if no_shares o.completion then [] else paragraph (say l (by_raises r key.OPTIONS_UNRAISED key.OPTIONS)
      (said l (by_measure o.measure key.MEASURE_VOTES key.MEASURE_COST) ∷ text (measure_name o.measure)
      ∷ said l (by_completion o.completion r.fill_up key.COMPLETION_NONE key.COMPLETION_ADD1 key.COMPLETION_UTILITARIAN key.COMPLETION_ADD1U)
      ∷ text (completion_name o.completion r.fill_up) ∷ amount l.amounts (codes "step") o.step ∷ number l (codes "limit") o.max_raises ∷ [])))
      ∷ paragraph (say l key.RULE_NAME (fill (codes "<code>~</code>") (text (profile_name r) ∷ []) ∷ [])) ∷ paragraph (say l key.MADE_BY (text facts.program.now ∷ [])) ∷ []))

module _ (facts : Facts) (x : CountedElectionView) where
  -- the row of the project at this place; where the money of its supporters went is told of five or more
  abbrev pub row_at : ℕ → List Part
  row_at place = let l = facts.language in let e = x.election in let p = project_at e place in
      let at = slice_index x.order place in let r = project_reason x.rule.options.grain e x.counted place in
      fill (codes "<tr role='row' id='p-~' data-project='~'>~~</tr>\n") (text (decimal at) ∷ text p.id
      ∷ ended_row l x (short_key x) e.budget p r.votes (λ left. if nat_lt r.votes 5 then []
      else money_told l x left (money_of (paid_together e x.counted.outcome place))) r.ending
      ∷ option_map_or (λ g. fill (codes "<td role='cell' data-label='~'><bdi dir='auto'>~</bdi></td>")
      (said l key.CATEGORY ∷ text (category_name g (category_of g at)) ∷ [])) facts.categories [] ∷ [])

  -- a table of projects: where there are categories, with a column for them; that of the added, in their order
  abbrev pub projects : (caption : ℕ) → (before more : List ℕ) → (rows : List Part) → List Part
  projects caption before more rows = let l = facts.language in table l (codes " class='wide'") caption key.PROJECT before
      (key.COST ∷ key.VOTES ∷ more) (option_map_or (λ g. column l (codes " class='category'") key.CATEGORY) facts.categories []) rows

  abbrev pub added : (caption : ℕ) → List Part
  added caption = projects caption (key.NUMBER ∷ []) [] (flat_map row_at x.counted.added)

  -- the winners, who are the elected in order of election, or where nobody has a share the added; what is added to the
  -- elected, where there is any; and the other projects, in the order of the file
  unfoldable pub winners : Section
  winners = let elected = x.counted.outcome.elected in let some = Headed (codes " class='won'") (codes "winners") key.WINNERS_HEADING in
      let none = λ (k : ℕ). Headed [] (codes "winners") key.WINNERS_HEADING (paragraph (said facts.language k)) in
      if no_shares x.rule.options.completion then if length x.counted.added == 0 then none key.NO_WINNERS
      else some (added (by_ties x.rule.ties key.BY_MOST_VOTES key.BY_MOST_VOTES_TIED)) else if length elected == 0
      then none (if fills_up x.rule.fill_up then key.NO_ELECTED else key.NO_WINNERS) else some (projects key.WINNERS_CAPTION
      (key.ROUND ∷ []) (key.PRICE ∷ key.IN_FULL ∷ []) (flat_map (λ w. row_at w.place) elected))

  unfoldable pub added_apart : List Section
  added_apart = if no_shares x.rule.options.completion || (length x.counted.added == 0) then [] else Headed (codes " class='won'")
      (codes "added") key.ADDED_HEADING (added (by_ties x.rule.ties key.ADDED_CAPTION key.ADDED_CAPTION_TIED)) ∷ []

  unfoldable pub others : Section
  others = let short = short_key x in if length (winners_of x.counted) == length x.election.projects
      then Headed [] (codes "others") key.OTHERS_HEADING (paragraph (said facts.language key.NO_OTHERS))
      else Headed (codes " class='lost'") (codes "others") key.OTHERS_HEADING (projects (option_map_or (λ k. key.OTHERS_CAPTION) short key.PASSED_OVER)
      [] (option_map_or (λ k. key.LEFT ∷ k ∷ []) short []) (flat_map row_at (beside (winners_of x.counted) (in_file x))))

  -- a row for each category, where there are categories
  unfoldable pub categories : List Section
  categories = let l = facts.language in option_map_or (λ g. Headed (codes " class='won money'") (codes "categories") key.CATEGORIES_HEADING
      (table l (codes " class='wide'") key.CATEGORIES_CAPTION key.CATEGORY [] (key.CATEGORY_WON ∷ key.CATEGORY_COST ∷ []) []
      (flat_map (category_row l x g) (range_with_len 0 (length g.names.now)))) ∷ []) facts.categories []

  -- where it is asked for the count beside most votes first, and those that one of the two elects and the other does not
  unfoldable pub besides : List Section
  besides = let l = facts.language in let e = x.election in let rules = beside_votes e x.counted in
      let own = winners_of x.counted in let other = elected_by_votes e in if facts.compares
      then Headed (codes " class='many'") (codes "compared") key.COMPARED_HEADING (table l (codes " class='wide'") key.COMPARED_CAPTION
      key.COMPARED_RULE [] (key.COMPARED_WON ∷ key.COMPARED_COST ∷ key.WITHOUT ∷ key.MORE ∷ []) []
      (compared_row l key.EQUAL_SHARES rules.own ++ compared_row l key.MOST_VOTES rules.other)
      ++ (links l x key.ONLY_BY_SHARES (beside other own) ++ links l x key.ONLY_BY_VOTES (beside own other))) ∷ [] else []

  -- all parts of a page, where the raises ended so: the sentences on the whole, a link to each section, and the sections
  unfoldable pub parts : RaiseEnd → List Part
  parts end = let l = facts.language in let title = text facts.title.now in
      let each_won = map (λ v. choices_of (winners_of x.counted) v.ballot) x.election.voters in let sections = budget l x ∷ winners
      ∷ (added_apart ++ (others ∷ (categories ++ (voters l each_won ∷ (besides ++ (decided facts x.rule ++ (rule l x end ∷ check facts x.rule ∷ []))))))) in
      fill (codes "<!DOCTYPE html>\n<html lang='~' dir='~'>\n<head>\n~<title>~</title>\n<style>~</style>\n</head>\n<body>\n"
      ++ codes "<header>\n<h1 dir='auto'>~</h1>\n~<nav aria-label='~'>\n<ul>\n~</ul>\n</nav>\n</header>\n<main>\n~</main>\n</body>\n</html>\n")
      (said l key.LANG ∷ said l key.DIR ∷ (META.now ∷ []) ∷ title ∷ (STYLE.now ∷ []) ∷ title ∷ summary l x ∷ said l key.CONTENTS
      ∷ flat_map (section_link l) sections ∷ flat_map (section l) sections ∷ [])

-- the page of a counted election with these facts, in their language; it says why the raises of the count ended
abbrev pub IsPage : CountedElectionView → Facts → List ℕ → Type 0
IsPage x facts page = (end : RaiseEnd) × IsRaiseEnd x.election x.rule.options x.counted.outcome end
    × (page ≡ flat_map (λ part. part) (parts facts x end))
