use Rattle.std.proofs.Common.{ℕ, List, Ok, subst, sym}
use Rattle.std.specs.Prelude.{All}
use Rattle.pb_core.specs.Election.{ElectionView}
use Rattle.pb_reasons.specs.Inner.Losers.{AreAsked, HasLost}
use Rattle.pb_reasons.proofs.LosersSearched.{these_found}
use Rattle.pb_reasons.proofs.changes.losers.what_if_losers.Goals as goal

pub returns-in_ok-found-in-Ok-clause-found : goal.returns-in_ok-found-in-Ok-clause-found
returns-in_ok-found-in-Ok-clause-found g c =
    let e = c.args.election in
    let rule = c.args.recounts.now.rule in
    these_found e rule (λ found. found.items) c.args.first c.as_slice.result.now (Ok c.in_ok-found-in-Ok.field-0) c.asked.new.election c.in-Ok.ensures.kept c.projects-projects.ensures.is_election
    (subst (AreAsked e rule c.args.first) (sym c.as_slice.ensures.value) c.in-Ok.ensures.asked) c.in_ok-found-in-Ok.ensures.places c.in_ok-found-in-Ok.ensures.each

pub searched-found-requires-after_bounds : goal.searched-found-requires-after_bounds
searched-found-requires-after_bounds g c κs within =
    let rule = c.args.recounts.now.rule in
    subst (λ (e : ElectionView). All (HasLost e rule) c.as_slice.result.now) (sym c.in-Ok.ensures.kept)
    (subst (λ (places : List ℕ). All (HasLost c.args.election rule) places) (sym c.as_slice.ensures.value) c.in-Ok.ensures.asked.lost)
