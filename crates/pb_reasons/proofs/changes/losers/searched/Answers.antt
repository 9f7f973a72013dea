use Rattle.pb_reasons.proofs.LosersSearched.{each_found}
use Rattle.pb_reasons.proofs.changes.losers.searched.Goals as goal

pub returns-clause-each : goal.returns-clause-each
returns-clause-each g c =
    each_found c.args.election c.args.recounts.now.rule (λ found. found.items) c.in_ok-changing.changing c.args.places.now c.search_each-found.result
    c.in_ok-changing.ensures c.requires c.search_each-found.ensures.places c.search_each-found.ensures.each
