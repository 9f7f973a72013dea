-- What the parts of a page are where the code has told its cases apart.
use Rattle.std.proofs.Common.{◌≡◌, ◌∙◌, ℕ, List, [], ap, length, refl, sym}
use Rattle.std.specs.Prelude.{◌∷◌, ◌==◌, Option, None, Some, codes, decimal, if◌then◌else◌, map, slice_index, true}
use Rattle.std.specs.Option.{option_map_or}
use Rattle.pb_core.specs.Election.{ElectionView, ProjectView}
use Rattle.pb_page.specs.Amount.{shown}
use Rattle.pb_page.specs.Content.{Part, amount, fill, item, number, parted, say, text}
use Rattle.pb_page.specs.Inner.Filling.{cut}
use Rattle.pb_page.specs.Inner.Counted.{options_put, options_said, share_said, spent_said, works_said}
use Rattle.pb_page.specs.Inner.Value.{called}
use Rattle.pb_page.specs.Page.{blocks, by_raises, linked, project_at, tie, titled, width}
use Rattle.pb_page.specs.declared.figures.Figures.{Figures}
use Rattle.pb_page.specs.declared.keys.TheConstants as key
use Rattle.pb_page.specs.declared.language.Language.{Language}
use Rattle.pb_page.specs.declared.templates.TheConstants.{BUDGET_PART}
use Rattle.pb_page.proofs.Grown.{before}
use Rattle.pb_reasons.specs.CountedElection.{CountedElectionView}
use Rattle.pb_reasons.specs.declared.told_tie.ToldTie.{ToldTie}
use Rattle.pb_page.specs.declared.markup.divided.Divided.{Divided}
use Rattle.pb_rounds.specs.Count.{no_shares}
use Rattle.pb_rounds.specs.RuleNames.{by_completion, by_grain, by_measure, by_ties, completion_name, measure_name}
use Rattle.pb_rounds.specs.declared.rule.Rule.{Rule}

pub share_is : (l : Language) (r q : Rule) (share t : Divided) (raised n : ℕ) → r ≡ q → share ≡ t → raised ≡ n
    → share_said l (by_raises r key.SHARE_UNRAISED key.SHARE) r.options.step share raised
    ≡ share_said l (by_raises q key.SHARE_UNRAISED key.SHARE) q.options.step t n
share_is l r q share t raised n same_rule same_share same_raised =
    ap (λ (p : Rule). share_said l (by_raises p key.SHARE_UNRAISED key.SHARE) p.options.step share raised) same_rule
    ∙ ap (λ (d : Divided). share_said l (by_raises q key.SHARE_UNRAISED key.SHARE) q.options.step d raised) same_share
    ∙ ap (λ (m : ℕ). share_said l (by_raises q key.SHARE_UNRAISED key.SHARE) q.options.step t m) same_raised

pub share_put : (l : Language) (r : Rule) (k step : ℕ) (share : Divided) (raises raised : ℕ) → k ≡ by_raises r key.SHARE_UNRAISED key.SHARE → step ≡ r.options.step
    → raises ≡ raised → (rest : List ℕ) → before (share_said l k step share raises) rest
    ≡ before (share_said l (by_raises r key.SHARE_UNRAISED key.SHARE) r.options.step share raised) rest
share_put l r k step share raises raised k_is step_is raises_is rest =
    let said = by_raises r key.SHARE_UNRAISED key.SHARE in
    ap (λ (n : ℕ). before (share_said l n step share raises) rest) k_is
    ∙ ap (λ (n : ℕ). before (share_said l said n share raises) rest) step_is
    ∙ ap (λ (n : ℕ). before (share_said l said r.options.step share n) rest) raises_is

pub options_are : (l : Language) (r : Rule) (k by : ℕ) (measure : List ℕ) (after : ℕ) (completion : List ℕ) (limit : ℕ)
    → k ≡ by_raises r key.OPTIONS_UNRAISED key.OPTIONS → by ≡ by_measure r.options.measure key.MEASURE_VOTES key.MEASURE_COST
    → measure ≡ measure_name r.options.measure
    → after ≡ by_completion r.options.completion r.fill_up key.COMPLETION_NONE key.COMPLETION_ADD1 key.COMPLETION_UTILITARIAN key.COMPLETION_ADD1U
    → completion ≡ completion_name r.options.completion r.fill_up → limit ≡ r.options.max_raises → (rest : List ℕ)
    → before (options_put l k by measure after completion r.options.step limit) rest ≡ before (options_said l r) rest
options_are l r k by measure after completion limit k_is by_is measure_is after_is completion_is limit_is rest =
    let o = r.options in let said = by_raises r key.OPTIONS_UNRAISED key.OPTIONS in let its = by_measure o.measure key.MEASURE_VOTES key.MEASURE_COST in
    let then_its = by_completion o.completion r.fill_up key.COMPLETION_NONE key.COMPLETION_ADD1 key.COMPLETION_UTILITARIAN key.COMPLETION_ADD1U in
    ap (λ (n : ℕ). before (options_put l n by measure after completion o.step limit) rest) k_is
    ∙ ap (λ (n : ℕ). before (options_put l said n measure after completion o.step limit) rest) by_is
    ∙ ap (λ (t : List ℕ). before (options_put l said its t after completion o.step limit) rest) measure_is
    ∙ ap (λ (n : ℕ). before (options_put l said its (measure_name o.measure) n completion o.step limit) rest) after_is
    ∙ ap (λ (t : List ℕ). before (options_put l said its (measure_name o.measure) then_its t o.step limit) rest) completion_is
    ∙ ap (λ (n : ℕ). before (options_put l said its (measure_name o.measure) then_its (completion_name o.completion r.fill_up) o.step n) rest) limit_is

abbrev spent_laid : Language → Figures → (k : ℕ) → (name : List ℕ) → (surplus : ℕ) → List Part
spent_laid l f k name surplus = say l k (amount l.costs (codes "spent") f.spent ∷ amount l.costs (codes "left") f.left
    ∷ parted l.amounts name (record { amount = surplus; divisor = f.parts; is_up = true }) ∷ [])

pub spent_put : (l : Language) (g f : Figures) (k : ℕ) (name : List ℕ) (surplus : ℕ) → g ≡ f → k ≡ (if f.won == 0 then key.BUDGET_NONE
    else if f.by_votes then key.BUDGET_BY_VOTES else by_grain f.grain key.BUDGET_CAPTION key.BUDGET_FINE)
    → name ≡ by_grain f.grain (codes "surplus") (codes "uncovered") → surplus ≡ f.surplus → (rest : List ℕ)
    → before (spent_laid l g k name surplus) rest ≡ before (spent_said l f) rest
spent_put l g f k name surplus same k_is name_is surplus_is rest =
    let caption = if f.won == 0 then key.BUDGET_NONE else if f.by_votes then key.BUDGET_BY_VOTES
    else by_grain f.grain key.BUDGET_CAPTION key.BUDGET_FINE in
    ap (λ (h : Figures). before (spent_laid l h k name surplus) rest) same
    ∙ ap (λ (n : ℕ). before (spent_laid l f n name surplus) rest) k_is
    ∙ ap (λ (t : List ℕ). before (spent_laid l f caption t surplus) rest) name_is
    ∙ ap (λ (n : ℕ). before (spent_laid l f caption (by_grain f.grain (codes "surplus") (codes "uncovered")) n) rest) surplus_is

pub works_put : (l : Language) (k budget voters : ℕ) (opening share : Divided) (e : ElectionView) → budget ≡ e.budget → voters ≡ length e.voters
    → opening ≡ share → (rest : List ℕ)
    → before (works_said l k budget voters opening) rest ≡ before (works_said l k e.budget (length e.voters) share) rest
works_put l k budget voters opening share e budget_is voters_is opening_is rest =
    ap (λ (n : ℕ). before (works_said l k n voters opening) rest) budget_is
    ∙ ap (λ (n : ℕ). before (works_said l k e.budget n opening) rest) voters_is
    ∙ ap (λ (d : Divided). before (works_said l k e.budget (length e.voters) d) rest) opening_is

-- a link to the row of a project, of this id and this name
abbrev link_shown : (place : ℕ) → (id name : List ℕ) → List Part
link_shown place id name =
    fill (codes "<a href='#p-~'>~</a>") (text (decimal place) ∷ titled (record { id = id; name = name; cost = 0 }) ∷ [])

pub link_is : (x : CountedElectionView) (place at : ℕ) (id name : List ℕ) → at ≡ slice_index x.order place
    → id ≡ (project_at x.election place).id → name ≡ (project_at x.election place).name → link_shown at id name ≡ linked x place
link_is x place at id name at_is id_is name_is =
    let there = slice_index x.order place in let p = project_at x.election place in
    ap (λ (n : ℕ). link_shown n id name) at_is ∙ ap (λ (t : List ℕ). link_shown there t name) id_is
    ∙ ap (λ (t : List ℕ). link_shown there p.id t) name_is

-- what is said of a tie: its keys, and the rest
abbrev round_key : Rule → ℕ
round_key r = by_measure r.options.measure (by_ties r.ties key.TIE_BY_VOTES key.TIE_BY_VOTES_TIED) (by_ties r.ties key.TIE_BY_COST key.TIE_BY_COST_TIED)

abbrev added_key : Rule → ℕ
added_key r = if no_shares r.options.completion then by_ties r.ties key.TIE_WON key.TIE_WON_TIED else by_ties r.ties key.TIE_ADDED key.TIE_ADDED_TIED

abbrev tie_in : Language → CountedElectionView → (winner other : List Part) → Option ℕ → List Part
tie_in l x winner other at = item (option_map_or (λ round. say l (round_key x.rule) (number l (codes "round") round ∷ winner ∷ other ∷ [])) at
    (say l (added_key x.rule) (winner ∷ other ∷ [])))

tie_as : (l : Language) (x : CountedElectionView) (t : ToldTie) (at : Option ℕ) (winner other : List Part) → at ≡ t.tie.round
    → winner ≡ linked x t.tie.winner → other ≡ linked x t.tie.other → (rest : List ℕ)
    → before (tie_in l x winner other at) rest ≡ before (tie l x t) rest
tie_as l x t at winner other at_is winner_is other_is rest =
    ap (λ (r : Option ℕ). before (tie_in l x winner other r) rest) at_is
    ∙ ap (λ (w : List Part). before (tie_in l x w other t.tie.round) rest) winner_is
    ∙ ap (λ (o : List Part). before (tie_in l x (linked x t.tie.winner) o t.tie.round) rest) other_is

pub tie_is : (l : Language) (x : CountedElectionView) (t : ToldTie) (k round : ℕ) (winner other : List Part)
    → k ≡ round_key x.rule → t.tie.round ≡ Some round → winner ≡ linked x t.tie.winner → other ≡ linked x t.tie.other → (rest : List ℕ)
    → before (item (say l k (number l (codes "round") round ∷ winner ∷ other ∷ []))) rest ≡ before (tie l x t) rest
tie_is l x t k round winner other k_is at_is winner_is other_is rest =
    ap (λ (n : ℕ). before (item (say l n (number l (codes "round") round ∷ winner ∷ other ∷ []))) rest) k_is
    ∙ tie_as l x t (Some round) winner other (sym at_is) winner_is other_is rest

pub added_tie_is : (l : Language) (x : CountedElectionView) (t : ToldTie) (k : ℕ) (winner other : List Part)
    → k ≡ added_key x.rule → t.tie.round ≡ None → winner ≡ linked x t.tie.winner → other ≡ linked x t.tie.other → (rest : List ℕ)
    → before (item (say l k (winner ∷ other ∷ []))) rest ≡ before (tie l x t) rest
added_tie_is l x t k winner other k_is at_is winner_is other_is rest =
    ap (λ (n : ℕ). before (item (say l n (winner ∷ other ∷ []))) rest) k_is
    ∙ tie_as l x t None winner other (sym at_is) winner_is other_is rest

-- a winner's part of the budget
abbrev block_shown : Language → (from wide : ℕ) → (name id : List ℕ) → (cost : ℕ) → List Part
block_shown l from wide name id cost =
    fill (codes "<span style='--from:~;--wide:~' title='~: ~'><bdi dir='auto'>~</bdi></span>\n")
    (map text (decimal from ∷ decimal wide ∷ name ∷ shown l.costs cost ∷ id ∷ []))

pub block_is : (l : Language) (e : ElectionView) (before_it place : ℕ) (p : ProjectView) (from wide : ℕ) (name id : List ℕ) (cost whole : ℕ)
    → from ≡ width before_it whole → wide ≡ width cost whole → whole ≡ e.budget → cost ≡ p.cost → name ≡ called p → id ≡ p.id → p ≡ project_at e place
    → (rest : List ℕ) → before (cut BUDGET_PART.now (decimal from ∷ decimal wide ∷ name ∷ shown l.costs cost ∷ id ∷ [])) rest
    ≡ before (blocks l.costs e before_it (place ∷ [])) rest
unfolding cut
block_is l e before_it place p from wide name id cost whole from_is wide_is whole_is cost_is name_is id_is is rest =
    ap (λ (n : ℕ). before (block_shown l n wide name id cost) rest) from_is
    ∙ ap (λ (n : ℕ). before (block_shown l (width before_it whole) n name id cost) rest) wide_is
    ∙ ap (λ (w : ℕ). before (block_shown l (width before_it w) (width cost w) name id cost) rest) whole_is
    ∙ ap (λ (n : ℕ). before (block_shown l (width before_it e.budget) (width n e.budget) name id n) rest) cost_is
    ∙ ap (λ (t : List ℕ). before (block_shown l (width before_it e.budget) (width p.cost e.budget) t id p.cost) rest) name_is
    ∙ ap (λ (t : List ℕ). before (block_shown l (width before_it e.budget) (width p.cost e.budget) (called p) t p.cost) rest) id_is
    ∙ ap (λ (q : ProjectView). before (block_shown l (width before_it e.budget) (width q.cost e.budget) (called q) q.id q.cost) rest) is
