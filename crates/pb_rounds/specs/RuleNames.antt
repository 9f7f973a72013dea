-- What rules are called: on the command line, by one name, in an exported file by Pabulib's word, and there in words.
use Rattle.std.specs.Char.{is_ascii_alphanumeric}
use Rattle.std.specs.List.{list_all}
use Rattle.std.specs.Prelude.{ℕ, ◌++◌, ◌&&◌, ◌||◌, ◌==◌, Bool, false, true, List, [], codes, decimal, if◌then◌else◌, length, nat_le, nat_lt}
use Rattle.std.specs.Option.{option_map_or}
use Rattle.std.specs.Ordering.{flip_args, nat_cmp, on, then_cmp}
use Rattle.std.specs.Str.{bytes_eq}
use Rattle.std.specs.declared.cmp.Ordering.{Ordering}
use Rattle.std.specs.declared.cmp.Ordering.TheVariants.{Equal}
use Rattle.pb_core.specs.MoneyText.{money_text}
use Rattle.pb_price.specs.declared.grain.Grain.{Grain}
use Rattle.pb_price.specs.declared.grain.Grain.TheVariants.{Hundredths, Fine}
use Rattle.pb_price.specs.Supporters.{SupportView, cost_at}
use Rattle.pb_rounds.specs.Count.{no_shares}
use Rattle.pb_rounds.specs.MostVotes.{votes_at}
use Rattle.pb_rounds.specs.declared.measure.Measure.{Measure}
use Rattle.pb_rounds.specs.declared.measure.Measure.TheVariants.{Votes, Cost}
use Rattle.pb_rounds.specs.declared.options.Completion.{Completion}
use Rattle.pb_rounds.specs.declared.options.Completion.TheVariants.{Add1}
use Rattle.pb_rounds.specs.declared.rule.FillUp.{FillUp}
use Rattle.pb_rounds.specs.declared.rule.FillUp.TheVariants.{Nothing, MostVotes}
use Rattle.pb_rounds.specs.declared.rule.Rule.{Rule}
use Rattle.pb_rounds.specs.declared.tie_rule.TieKeys.{TieKeys}
use Rattle.pb_rounds.specs.declared.tie_rule.TieKeys.TheVariants as tie
use Rattle.pb_rounds.specs.declared.tie_rule.TieRule.{TieRule}
use Rattle.pb_rounds.specs.declared.rule_names.TheConstants.{VOTES, COST, NONE, ADD1, UTILITARIAN, ADD1U, MV, HUNDREDTHS, FINE}

-- one thing for each measure, and for each money; and one for each completion, in the order of their names (without
-- shares, as without raises)
abbrev pub by_measure : {A : Type 0} → Measure → (votes cost : A) → A
by_measure Votes votes cost = votes
by_measure Cost votes cost = cost

abbrev pub by_grain : {A : Type 0} → Grain → (hundredths fine : A) → A
by_grain Hundredths hundredths fine = hundredths
by_grain Fine hundredths fine = fine

abbrev pub by_completion : {A : Type 0} → Completion → FillUp → (none add1 utilitarian add1u : A) → A
by_completion Add1 Nothing none add1 utilitarian add1u = add1
by_completion Add1 MostVotes none add1 utilitarian add1u = add1u
by_completion completion Nothing none add1 utilitarian add1u = none
by_completion completion MostVotes none add1 utilitarian add1u = utilitarian

-- whether projects may be added to the elected
abbrev pub fills_up : FillUp → Bool
fills_up Nothing = false
fills_up MostVotes = true

-- the name of a measure, and of a completion
abbrev pub measure_name : Measure → List ℕ
measure_name m = by_measure m VOTES.now COST.now

abbrev pub completion_name : Completion → FillUp → List ℕ
completion_name c f = if no_shares c then MV.now else by_completion c f NONE.now ADD1.now UTILITARIAN.now ADD1U.now

-- the seeds of lots: 1 to 64 of A-Z, a-z, 0-9 and `-`
abbrev pub is_seed : List ℕ → Bool
is_seed seed = nat_lt 0 (length seed) && (nat_le (length seed) 64
    && list_all (λ byte. is_ascii_alphanumeric byte || (byte == 45)) seed)

-- the keys that break ties: their name, and how two projects compare by them: by votes the most first, by cost the
-- least first, by one and then the other, or by none of them
abbrev pub keys_of : TieKeys → List ℕ × (SupportView → ℕ → ℕ → Ordering)
keys_of tie.Nothing = (codes "file", λ s place other. Equal)
keys_of tie.Votes = (codes "votes", λ s. flip_args (on (votes_at s) nat_cmp))
keys_of tie.Cost = (codes "cost", λ s. on (cost_at s) nat_cmp)
keys_of tie.VotesThenCost = (codes "votes,cost", λ s. then_cmp (flip_args (on (votes_at s) nat_cmp)) (on (cost_at s) nat_cmp))
keys_of tie.CostThenVotes = (codes "cost,votes", λ s. then_cmp (on (cost_at s) nat_cmp) (flip_args (on (votes_at s) nat_cmp)))

-- what stands before the seed of a lot behind them, and the name of a rule for ties
abbrev pub lot_name : TieKeys → List ℕ
lot_name tie.Nothing = codes "lot:"
lot_name k = (keys_of k).0 ++ codes ",lot:"

abbrev pub ties_name : TieRule → List ℕ
ties_name ties = option_map_or (λ seed. lot_name ties.keys ++ seed.bytes) ties.lot (keys_of ties.keys).0

-- one name for a rule, which says nothing of the most raises
abbrev pub profile_name : Rule → List ℕ
profile_name rule = let o = rule.options in let step = codes "/step=" ++ money_text o.step in
    let ties = codes "/ties=" ++ ties_name rule.ties in
    if no_shares o.completion then (if fills_up rule.fill_up then codes "MV" else codes "NS") ++ ties else
    codes "ES/" ++ (measure_name o.measure ++ (codes "/" ++ (completion_name o.completion rule.fill_up ++ (codes "/" ++ (by_grain o.grain HUNDREDTHS.now FINE.now
    ++ (by_completion o.completion rule.fill_up [] step [] step ++ ties))))))

-- Pabulib's word for a rule, if it has one
abbrev pub rule_word : Completion → FillUp → List ℕ
rule_word c f = if no_shares c then (if fills_up f then codes "greedy" else codes "unknown") else
    by_completion c f (codes "equalshares") (codes "equalshares/add1") (codes "unknown") (codes "unknown")

-- a rule in words: its measure, its raises, and whether what is left is filled up
abbrev pub method_text : Rule → List ℕ
method_text rule = let o = rule.options in
    let none = codes ", no raises" in let filled = codes ", filled up by votes" in
    let raises = codes ", raises of " ++ money_text o.step ++ codes ", at most " ++ decimal o.max_raises in
    if no_shares o.completion then (if fills_up rule.fill_up then codes "most votes first" else codes "no shares") else
    by_measure o.measure (codes "equal shares by price") (codes "equal shares by price over cost")
    ++ (by_completion o.completion rule.fill_up none raises (none ++ filled) (raises ++ filled) ++ by_grain o.grain [] (codes ", in fine money"))

-- one of two things, by whether the order of the file alone decides ties
abbrev pub by_ties : {A : Type 0} → TieRule → (by_file other : A) → A
by_ties ties by_file other = if bytes_eq (ties_name ties) (codes "file") then by_file else other

-- the same, and its rule for ties, where that is not the order of the file alone
abbrev pub rule_text : Rule → List ℕ
rule_text rule = method_text rule ++ by_ties rule.ties [] (codes ", ties by " ++ ties_name rule.ties)
