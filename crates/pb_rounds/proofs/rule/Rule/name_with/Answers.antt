use Rattle.std.proofs.Common.{◌≡◌, ◌∙◌, ◌++◌, ℕ, List, [], ap, codes, refl, rules, string_bytes}
use Rattle.pb_core.specs.MoneyText.{money_text}
use Rattle.pb_rounds.specs.Inner.RuleNames.{grain_name, named}
use Rattle.pb_price.specs.declared.grain.Grain.{Grain}
use Rattle.pb_rounds.specs.RuleNames.{completion_name, measure_name}
use Rattle.pb_rounds.specs.declared.measure.Measure.{Measure}
use Rattle.pb_rounds.specs.declared.options.Completion.{Completion}
use Rattle.pb_rounds.specs.declared.options.Completion.TheVariants.{Plain, Add1, NoShares}
use Rattle.pb_rounds.specs.declared.rule.FillUp.{FillUp}
use Rattle.pb_rounds.specs.declared.rule.FillUp.TheVariants.{Nothing, MostVotes}
use Rattle.pb_rounds.proofs.rule.Rule.name_with.Goals as goal

-- the name of a rule with shares, of these parts
abbrev with_shares : Measure → Grain → Completion → FillUp → (step ties : List ℕ) → List ℕ
with_shares m g c f step t =
    codes "ES/" ++ (measure_name m ++ (codes "/" ++ (completion_name c f ++ (codes "/" ++ (grain_name g ++ (step ++ (codes "/ties=" ++ t)))))))

-- the name of a rule without raises, and of one with them
without_raises : (m : Measure) (g : Grain) (c : Completion) (f : FillUp) (s : ℕ) (t : List ℕ) → c ≡ Plain → with_shares m g c f [] t ≡ named m g c f s t
without_raises m g Plain Nothing s t is = refl
without_raises m g Plain MostVotes s t is = refl
without_raises m g Add1 f s t is = absurd (search rules)
without_raises m g NoShares f s t is = absurd (search rules)

with_raises : (m : Measure) (g : Grain) (c : Completion) (f : FillUp) (s : ℕ) (t : List ℕ) → c ≡ Add1 → with_shares m g c f (codes "/step=" ++ money_text s) t ≡ named m g c f s t
with_raises m g Plain f s t is = absurd (search rules)
with_raises m g Add1 Nothing s t is = refl
with_raises m g Add1 MostVotes s t is = refl
with_raises m g NoShares f s t is = absurd (search rules)

-- a name by its parts
by_parts : (m : Measure) (g : Grain) (c : Completion) (f : FillUp) (measure completion grain step t text : List ℕ) → measure ≡ measure_name m → completion ≡ completion_name c f
    → grain ≡ grain_name g → text ≡ codes "ES/" ++ (measure ++ (codes "/" ++ (completion ++ (codes "/" ++ (grain ++ (step ++ (codes "/ties=" ++ t)))))))
    → text ≡ with_shares m g c f step t
by_parts m g c f measure completion grain step t text is_measure is_completion is_grain is =
    is ∙ ap (λ x. codes "ES/" ++ (x ++ (codes "/" ++ (completion ++ (codes "/" ++ (grain ++ (step ++ (codes "/ties=" ++ t)))))))) is_measure
    ∙ ap (λ x. codes "ES/" ++ (measure_name m ++ (codes "/" ++ (x ++ (codes "/" ++ (grain ++ (step ++ (codes "/ties=" ++ t)))))))) is_completion
    ∙ ap (λ x. codes "ES/" ++ (measure_name m ++ (codes "/" ++ (completion_name c f ++ (codes "/" ++ (x ++ (step ++ (codes "/ties=" ++ t)))))))) is_grain

pub returns-in_ok-format-in-Plain : goal.returns-in_ok-format-in-Plain
returns-in_ok-format-in-Plain c =
    let rule = c.args.self.now in
    let o = rule.options in
    by_parts o.measure o.grain o.completion rule.fill_up c.measure_name-measure.result.now c.completion_name-completion.result.now c.grain_name-grain.result.now [] c.args.ties.now
    (string_bytes c.in_ok-format-in-Plain.field-0) c.measure_name-measure.ensures c.completion_name-completion.ensures c.grain_name-grain.ensures c.in_ok-format-in-Plain.ensures.ok
    ∙ without_raises o.measure o.grain o.completion rule.fill_up o.step c.args.ties.now c.in-Plain.is

pub returns-in_ok-name-in-Add1 : goal.returns-in_ok-name-in-Add1
returns-in_ok-name-in-Add1 c =
    let rule = c.args.self.now in
    let o = rule.options in
    by_parts o.measure o.grain o.completion rule.fill_up c.measure_name-measure.result.now c.completion_name-completion.result.now c.grain_name-grain.result.now
    (codes "/step=" ++ string_bytes c.in_ok-step-in-Add1.step) c.args.ties.now
    (string_bytes c.in_ok-name-in-Add1.field-0) c.measure_name-measure.ensures c.completion_name-completion.ensures c.grain_name-grain.ensures
    c.in_ok-name-in-Add1.ensures.ok
    ∙ ap (λ x. with_shares o.measure o.grain o.completion rule.fill_up (codes "/step=" ++ x) c.args.ties.now) c.in_ok-step-in-Add1.ensures
    ∙ with_raises o.measure o.grain o.completion rule.fill_up o.step c.args.ties.now c.in-Add1.is
