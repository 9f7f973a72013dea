-- The name of a rule by its parts.
use Rattle.std.specs.Char.{is_ascii_alphanumeric}
use Rattle.std.specs.Prelude.{ℕ, ◌++◌, ◌||◌, ◌==◌, Bool, List, [], codes, if◌then◌else◌}
use Rattle.pb_core.specs.MoneyText.{money_text}
use Rattle.pb_price.specs.declared.grain.Grain.{Grain}
use Rattle.pb_rounds.specs.Count.{no_shares}
use Rattle.pb_rounds.specs.RuleNames.{by_completion, by_grain, completion_name, fills_up, keys_of, measure_name}
use Rattle.pb_rounds.specs.declared.measure.Measure.{Measure}
use Rattle.pb_rounds.specs.declared.options.Completion.{Completion}
use Rattle.pb_rounds.specs.declared.rule.FillUp.{FillUp}
use Rattle.pb_rounds.specs.declared.rule_names.TheConstants.{FINE, HUNDREDTHS}
use Rattle.pb_rounds.specs.declared.tie_rule.TieKeys.{TieKeys}

-- a byte of a seed
abbrev pub is_seed_byte : ℕ → Bool
is_seed_byte byte = is_ascii_alphanumeric byte || (byte == 45)

-- the name of keys that break ties
abbrev pub keys_name : TieKeys → List ℕ
keys_name k = (keys_of k).0

-- the name of a money
abbrev pub grain_name : Grain → List ℕ
grain_name g = by_grain g HUNDREDTHS.now FINE.now

-- the name of a rule of these parts, of which the last is the name of its rule for ties
abbrev pub named : Measure → Grain → Completion → FillUp → ℕ → List ℕ → List ℕ
named m g c f s t = let step = codes "/step=" ++ money_text s in let ties = codes "/ties=" ++ t in
    if no_shares c then (if fills_up f then codes "MV" else codes "NS") ++ ties else
    codes "ES/" ++ (measure_name m ++ (codes "/" ++ (completion_name c f ++ (codes "/" ++ (grain_name g
    ++ (by_completion c f [] step [] step ++ ties))))))
