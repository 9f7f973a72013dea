use Rattle.pb_price.proofs.ClaimSteps.{opens}
use Rattle.pb_price.proofs.claims.Claims.open.Goals as goal

pub of_words-requires : goal.of_words-requires
of_words-requires g c = opens c.args.batch.pieces c.args.batch.workers c.requires
