use Rattle.std.proofs.Common.{◌≡◌, ◌<◌, [], length, Contains, subst, sym}
use Rattle.pb_core.specs.Election.{ElectionView, project_ids, most_projects}
use Rattle.pb_core.proofs.Elections.{IsElection-push_project}
use Rattle.pb_core.proofs.election.Election.add_project.Goals as goal

pub invariant_of-self-2 : goal.invariant_of-self-2
invariant_of-self-2 g c =
    let is_same = sym c.self.view_is in
    rw c.in_ok-push.ensures.items
    (IsElection-push_project _ c.args.project c.self.invariant c.cost-checked.ensures.is_project
    (subst (λ (e : ElectionView). e.voters ≡ []) is_same c.requires.no_voter_yet)
    (subst (λ (e : ElectionView). length e.projects < most_projects) is_same c.requires.room)
    (subst (λ (e : ElectionView). ¬ Contains (project_ids e) c.args.project.id) is_same c.requires.new_id))
