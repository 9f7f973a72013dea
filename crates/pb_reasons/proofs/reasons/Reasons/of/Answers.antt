use Rattle.std.proofs.Common.{◌≡◌, ◌<◌, ◌∙◌, ℕ, All, ap, length, subst, sym, rules}
use Rattle.std.proofs.lemmas.List.{length-map}
use Rattle.pb_core.specs.Election.{ProjectView}
use Rattle.pb_price.specs.Supporters.{SupportView}
use Rattle.pb_rounds.specs.Run.{ElectedView}
use Rattle.pb_reasons.proofs.reasons.Reasons.of.Goals as goal

pub replay-requires : goal.replay-requires
replay-requires c =
    let elected : c.as_slice-elected.result.now ≡ c.args.outcome.now.elected = search rules in
    let costs = ap (λ (s : SupportView). length s.costs) c.in_ok-supporters.ensures ∙ length-map c.args.election.now.projects (λ (p : ProjectView). p.cost) in
    subst (λ (n : ℕ). All (λ (w : ElectedView). w.place < n) c.as_slice-elected.result.now) (sym costs)
    (subst (All (λ (w : ElectedView). w.place < length c.args.election.now.projects)) (sym elected) c.requires.known)
