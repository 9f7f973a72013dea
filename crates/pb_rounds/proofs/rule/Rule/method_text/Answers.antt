use Rattle.std.proofs.Common.{◌≡◌, ◌++◌, ◌∙◌, ℕ, List, [], ap, codes, decimal, rules, string_bytes}
use Rattle.std.specs.Prelude.{if◌then◌else◌}
use Rattle.std.proofs.lemmas.List.{append-nil, append_assoc}
use Rattle.pb_core.specs.MoneyText.{money_text}
use Rattle.pb_price.specs.declared.grain.Grain.{Grain}
use Rattle.pb_rounds.specs.Count.{no_shares}
use Rattle.pb_rounds.specs.RuleNames.{by_completion, by_grain, by_measure, fills_up}
use Rattle.pb_rounds.specs.declared.options.Completion.{Completion}
use Rattle.pb_rounds.specs.declared.options.Completion.TheVariants.{Plain, Add1, NoShares}
use Rattle.pb_rounds.specs.declared.rule.FillUp.{FillUp}
use Rattle.pb_rounds.specs.declared.rule.FillUp.TheVariants.{Nothing, MostVotes}
use Rattle.pb_rounds.proofs.rule.Rule.method_text.Goals as goal
use Rattle.pb_rounds.proofs.rule.Rule.method_text.Goals.{in-Votes, in-Cost, in-Plain+in_ok-push_str-in-Plain, in-Add1+in_ok-put_raises-in-Add1}

abbrev filled : FillUp → List ℕ
filled f = if fills_up f then codes ", filled up by votes" else []

abbrev money : Grain → List ℕ
money g = by_grain g [] (codes ", in fine money")

-- a rule in words, by what is said of its measure, its raises and its money
abbrev said : (m : List ℕ) → Completion → FillUp → (raises last : List ℕ) → List ℕ
said m c f raises last =
    let none = codes ", no raises" in let filled = codes ", filled up by votes" in
    if no_shares c then (if fills_up f then codes "most votes first" else codes "no shares") else
    m ++ (by_completion c f none raises (none ++ filled) (raises ++ filled) ++ last)

-- the parts in the order in which they are put
in_order : (m raises : List ℕ) (f : FillUp) (last : List ℕ) → m ++ raises ++ filled f ++ last ≡ m ++ (raises ++ filled f ++ last)
in_order m raises f last = ap (λ t. t ++ last) (append_assoc m raises (filled f)) ∙ append_assoc m (raises ++ filled f) last

without_raises : (m : List ℕ) (c : Completion) (f : FillUp) (raises last : List ℕ) → c ≡ Plain
    → m ++ codes ", no raises" ++ filled f ++ last ≡ said m c f raises last
without_raises m Plain Nothing raises last is = in_order m (codes ", no raises") Nothing last
without_raises m Plain MostVotes raises last is = in_order m (codes ", no raises") MostVotes last
without_raises m Add1 f raises last is = absurd (search rules)
without_raises m NoShares f raises last is = absurd (search rules)

with_raises : (m : List ℕ) (c : Completion) (f : FillUp) (raises last : List ℕ) → c ≡ Add1 → m ++ raises ++ filled f ++ last ≡ said m c f raises last
with_raises m Plain f raises last is = absurd (search rules)
with_raises m Add1 Nothing raises last is = in_order m raises Nothing last ∙ ap (λ t. m ++ (t ++ last)) (append-nil raises)
with_raises m Add1 MostVotes raises last is = in_order m raises MostVotes last
with_raises m NoShares f raises last is = absurd (search rules)

pub returns : goal.returns
returns c =
    let rule = c.args.self.now in
    let o = rule.options in
    let m : List ℕ = by_measure o.measure (codes "equal shares by price") (codes "equal shares by price over cost") in
    let raises : List ℕ = codes ", raises of " ++ money_text o.step ++ codes ", at most " ++ decimal o.max_raises in
    let words : c.match-self-3.words.now ≡ m = elim c.match-self-3.branch [ in-Votes w ↦ search rules | in-Cost w ↦ search rules ] in
    let text : string_bytes c.in_ok-text.text ≡ m = c.in_ok-text.ensures.ok ∙ words in
    c.in_ok-put_grain.ensures ∙ ap (λ t. t ++ money o.grain) c.in_ok-put_fill_up.ensures
    ∙ elim c.match-self-4.branch [
      | in-Plain+in_ok-push_str-in-Plain w ↦
          ap (λ t. t ++ filled rule.fill_up ++ money o.grain)
          (ap string_bytes w.text-is ∙ w.in_ok-push_str-in-Plain.ensures.bytes ∙ ap (λ t. t ++ codes ", no raises") text)
          ∙ without_raises m o.completion rule.fill_up raises (money o.grain) (search rules)
      | in-Add1+in_ok-put_raises-in-Add1 w ↦
          ap (λ t. t ++ filled rule.fill_up ++ money o.grain)
          (ap string_bytes w.text-is ∙ w.in_ok-put_raises-in-Add1.ensures ∙ ap (λ t. t ++ raises) text)
          ∙ with_raises m o.completion rule.fill_up raises (money o.grain) w.in-Add1.is
    ]
