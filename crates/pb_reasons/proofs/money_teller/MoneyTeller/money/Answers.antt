use Rattle.std.proofs.Common.{◌≡◌, ◌<◌, ◌∙◌, ℕ, List, ap, arith, length, subst, sym}
use Rattle.std.specs.Prelude.{IfOk, slice_index, sum_by}
use Rattle.std.proofs.lemmas.List.{get_or-replicate, length-replicate}
use Rattle.pb_core.specs.Election.{ElectionView}
use Rattle.pb_price.specs.Supporters.{support_of, supporters_at}
use Rattle.pb_rounds.specs.Outcome.{OutcomeView}
use Rattle.pb_reasons.specs.CountedElection.{CountedElectionView}
use Rattle.pb_reasons.specs.Inner.Money.{ArePayments, sums_for}
use Rattle.pb_reasons.specs.Money.{money_of, paid_together}
use Rattle.pb_reasons.specs.Reasons.{paid_for}
use Rattle.pb_reasons.specs.declared.payment.Payment.{Payment}
use Rattle.pb_reasons.proofs.Moneys.{all_known, one_each, summed_is, supporters_are_voters, together_is}
use Rattle.pb_reasons.proofs.Tellable.{counted_can_be_told}
use Rattle.pb_reasons.proofs.money_teller.MoneyTeller.money.Goals as goal

pub sum_up-requires-clause-voters : goal.sum_up-requires-clause-voters
sum_up-requires-clause-voters c =
    let k = c.self.inside.count.now in
    let counted = c.election.ensures.is_counted in
    let are : ArePayments k c.as_slice.result.now = c.as_slice.ensures.value ∙ c.self.invariant in
    let known : c.args.place < length k.election.projects = subst (λ (x : CountedElectionView). c.args.place < length x.election.projects) (sym c.self.view_is) c.requires in
    let voters = supporters_are_voters k.rule.options.grain k.election k.counted.outcome (counted_can_be_told k counted) c.supporters.result.now c.of-supporters.ensures.is_support
    c.supporters.ensures c.args.place known c.of-supporters.result.now c.of-supporters.ensures.supporters in
    λ i d below. let voter = voters i d below in omega (arith, voter, one_each k c.as_slice.result.now are counted.is_election)

pub sum_up-requires-clause-known : goal.sum_up-requires-clause-known
sum_up-requires-clause-known c =
    let k = c.self.inside.count.now in
    let counted = c.election.ensures.is_counted in
    let are : ArePayments k c.as_slice.result.now = c.as_slice.ensures.value ∙ c.self.invariant in
    let projects = ap length (c.projects-projects.ensures.projects ∙ ap (λ (e : ElectionView). e.projects) c.election.ensures.election) in
    let size : length c.in_ok-sums.sums.items ≡ length k.election.projects = omega (arith, ap length (c.in_ok-sums.ensures.items_if_clones_equal (λ y same. same)), length-replicate {A = ℕ} (length c.projects-projects.result.now) 0, projects) in
    rw size (all_known k c.as_slice.result.now are counted.is_election)

pub largest-requires : goal.largest-requires
largest-requires c =
    let k = c.self.inside.count.now in
    let counted = c.election.ensures.is_counted in
    let projects = ap length (c.projects-projects.ensures.projects ∙ ap (λ (e : ElectionView). e.projects) c.election.ensures.election) in
    let size = ap length (c.in_ok-sums.ensures.items_if_clones_equal (λ y same. same)) ∙ length-replicate {A = ℕ} (length c.projects-projects.result.now) 0 ∙ projects in
    let sums = ap length c.as_slice-2.ensures.value ∙ c.in_ok-sum_up.ensures.one_each ∙ size in
    let elected = c.as_slice-elected.ensures.value ∙ ap (λ (o : OutcomeView). o.elected) (c.behind-count.view_is ∙ c.outcome.ensures.outcome) in
    rw (elected, sums) ((counted_can_be_told k counted).known)

pub returns : goal.returns
returns c =
    let k = c.self.inside.count.now in
    let e = k.election in
    let o = k.counted.outcome in
    let place = c.args.place in
    let counted = c.election.ensures.is_counted in
    let told = counted_can_be_told k counted in
    let are : ArePayments k c.as_slice.result.now = c.as_slice.ensures.value ∙ c.self.invariant in
    let known : place < length e.projects = subst (λ (x : CountedElectionView). place < length x.election.projects) (sym c.self.view_is) c.requires in
    let list = c.of-supporters.result.now in
    let voters = supporters_are_voters k.rule.options.grain e o told c.supporters.result.now c.of-supporters.ensures.is_support c.supporters.ensures place known list c.of-supporters.ensures.supporters in
    let projects = ap length (c.projects-projects.ensures.projects ∙ ap (λ (v : ElectionView). v.projects) c.election.ensures.election) in
    let own : list ≡ supporters_at (support_of e) place = rw c.supporters.ensures at c.of-supporters.ensures.supporters in
    let sums : (other : ℕ) → other < length e.projects → slice_index c.as_slice-2.result.now other ≡ sum_by (paid_for e o other) (supporters_at (support_of e) place) =
    λ other below.
    let none : slice_index c.in_ok-sums.sums.items other ≡ 0 = rw (c.in_ok-sums.ensures.items_if_clones_equal (λ y same. same)) (get_or-replicate (length c.projects-projects.result.now) other 0 0 (omega (arith, below, projects))) in
    let summed = c.in_ok-sum_up.ensures.summed other in
    let paid = summed_is k c.as_slice.result.now are counted.is_election other below list voters in
    let read = ap (λ (xs : List ℕ). slice_index xs other) c.as_slice-2.ensures.value in
    let all : slice_index c.as_slice-2.result.now other ≡ sum_by (paid_for e o other) list = omega (arith, none, summed, paid, read) in
    all ∙ ap (sum_by (paid_for e o other)) own in
    let elected = c.as_slice-elected.ensures.value ∙ ap (λ (v : OutcomeView). v.elected) (c.behind-count.view_is ∙ c.outcome.ensures.outcome) in
    let those = ap (sums_for c.as_slice-2.result.now) elected ∙ together_is e o place c.as_slice-2.result.now told.known sums
    ∙ ap (λ (x : CountedElectionView). paid_together x.election x.counted.outcome place) c.self.view_is in
    subst (λ (all : List Payment). IfOk c.largest.result (λ money. money ≡ money_of all)) those c.largest.ensures
