use Rattle.std.proofs.Common.{◌≡◌, ℕ, ◌*◌, ◌/◌, length, refl, sym, ap, ◌∙◌, arith}
use Rattle.std.specs.Prelude.{◌==◌, if◌then◌else◌}
use Rattle.std.proofs.lemmas.Bool.{eq-eqb, ne_eqb}
use Rattle.pb_price.specs.Grain.{in_parts}
use Rattle.pb_price.specs.declared.grain.Grain.{Grain}
use Rattle.pb_rounds.proofs.Completing.{opening_small, parts_times}
use Rattle.pb_rounds.proofs.count.opening_share.Goals as goal

no_voter : (voters all : ℕ) → voters ≡ 0 → 0 ≡ (if voters == 0 then 0 else all / voters)
no_voter voters all none = rw (eq-eqb voters 0 none) refl

some_voter : (grain : Grain) (voters budget : ℕ) → (voters ≡ 0 → ⊥) → (parts n k : ℕ) → parts ≡ in_parts grain voters 1 → n ≡ budget → k ≡ voters
    → parts * n / k ≡ (if voters == 0 then 0 else in_parts grain voters budget / voters)
some_voter grain voters budget some parts n k parts_is n_is k_is =
    rw (ne_eqb voters 0 some) (ap (λ m. m * n / k) parts_is ∙ ap (λ m. in_parts grain voters 1 * m / k) n_is ∙ ap (λ m. m / k) (parts_times grain voters budget) ∙ ap (λ m. in_parts grain voters budget / m) k_is)

pub overflow_cast-voters : goal.overflow_cast-voters
overflow_cast-voters g c = omega (arith, ap length c.voters.ensures.voters, c.voters.ensures.is_election.few_voters)

pub returns-then-voters-eq0-clause-is_election : goal.returns-then-voters-eq0-clause-is_election
returns-then-voters-eq0-clause-is_election g c = c.voters.ensures.is_election

pub returns-clause-is_election : goal.returns-clause-is_election
returns-clause-is_election g c = c.voters.ensures.is_election

pub returns-then-voters-eq0-clause-share : goal.returns-then-voters-eq0-clause-share
returns-then-voters-eq0-clause-share g c =
    no_voter (length c.args.election.now.voters) (in_parts c.args.grain (length c.args.election.now.voters) c.args.election.now.budget)
    (ap length (sym c.voters.ensures.voters) ∙ c.if-voters-eq0.true)

pub overflow_cast-result : goal.overflow_cast-result
overflow_cast-result g c =
    let share = some_voter c.args.grain (length c.args.election.now.voters) c.args.election.now.budget (λ none. c.if-voters-eq0.false (ap length c.voters.ensures.voters ∙ none))
    c.from.result c.from-2.result c.from-3.result (c.from.ensures ∙ c.parts-parts.ensures.parts ∙ ap (λ n. in_parts c.args.grain n 1) (ap length c.voters.ensures.voters))
    (c.from-2.ensures ∙ c.budget.view_is ∙ c.budget-budget.ensures.budget) (c.from-3.ensures ∙ ap length c.voters.ensures.voters) in
    let small = opening_small c.args.grain c.args.election.now c.voters.ensures.is_election.budget_bounded in
    omega (arith, share, small)

pub returns-clause-share : goal.returns-clause-share
returns-clause-share g c =
    some_voter c.args.grain (length c.args.election.now.voters) c.args.election.now.budget (λ none. c.if-voters-eq0.false (ap length c.voters.ensures.voters ∙ none))
    c.from.result c.from-2.result c.from-3.result (c.from.ensures ∙ c.parts-parts.ensures.parts ∙ ap (λ n. in_parts c.args.grain n 1) (ap length c.voters.ensures.voters))
    (c.from-2.ensures ∙ c.budget.view_is ∙ c.budget-budget.ensures.budget) (c.from-3.ensures ∙ ap length c.voters.ensures.voters)

pub returns-clause-small : goal.returns-clause-small
returns-clause-small g c =
    let share = some_voter c.args.grain (length c.args.election.now.voters) c.args.election.now.budget (λ none. c.if-voters-eq0.false (ap length c.voters.ensures.voters ∙ none))
    c.from.result c.from-2.result c.from-3.result (c.from.ensures ∙ c.parts-parts.ensures.parts ∙ ap (λ n. in_parts c.args.grain n 1) (ap length c.voters.ensures.voters))
    (c.from-2.ensures ∙ c.budget.view_is ∙ c.budget-budget.ensures.budget) (c.from-3.ensures ∙ ap length c.voters.ensures.voters) in
    let small = opening_small c.args.grain c.args.election.now c.voters.ensures.is_election.budget_bounded in
    omega (arith, share, small)
