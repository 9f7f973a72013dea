use Rattle.std.proofs.Common.{◌≡◌, ◌∙◌, ap}
use Rattle.pb_reasons.specs.Counted.{CountedView}
use Rattle.pb_reasons.proofs.Results.{result_is_added}
use Rattle.pb_reasons.proofs.kept.Kept.of.Goals as goal

pub numbers_of-requires : goal.numbers_of-requires
numbers_of-requires c =
    let are = result_is_added c.args.election.now c.args.counted.now c.projects-projects.ensures.is_election c.requires.counted in
    let added : c.as_slice.result.now ≡ c.args.counted.now.added = c.as_slice.ensures.value ∙ ap (λ (v : CountedView). v.added) c.counted.view_is in
    rw (added, c.projects-projects.ensures.projects) are.known
