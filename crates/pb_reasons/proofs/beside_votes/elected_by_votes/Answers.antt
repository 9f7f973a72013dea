use Rattle.std.proofs.Common.{◌≡◌, ◌∙◌, List, [], ℕ, ap, subst}
use Rattle.std.specs.Prelude.{IfOk}
use Rattle.pb_core.specs.Election.{ElectionView}
use Rattle.pb_price.specs.Supporters.{SupportView, support_of}
use Rattle.pb_rounds.specs.MostVotes.{most_votes_first}
use Rattle.pb_reasons.specs.BesideVotes.{elected_by_votes}
use Rattle.pb_reasons.proofs.EachGrain.{same_most_votes}
use Rattle.pb_reasons.proofs.beside_votes.elected_by_votes.Goals as goal

pub returns : goal.returns
returns c =
    let x = c.args.count.now in
    let budget = c.budget.ensures.budget ∙ ap (λ (e : ElectionView). e.budget) c.election.ensures.election in
    let same : most_votes_first c.supporters.result.now [] c.budget.result ≡ elected_by_votes x.election =
    ap (λ (s : SupportView). most_votes_first s [] c.budget.result) c.supporters.ensures
    ∙ same_most_votes x.rule.options.grain x.election [] c.budget.result ∙ ap (most_votes_first (support_of x.election) []) budget in
    subst (λ (places : List ℕ). IfOk c.most_votes_first.result (λ found. found.items ≡ places)) same c.most_votes_first.ensures
