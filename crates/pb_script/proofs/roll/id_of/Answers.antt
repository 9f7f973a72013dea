use Rattle.std.proofs.Common.{◌∙◌, List, ℕ, ap, refl, Bor}
use Rattle.std.specs.Str.{trim}
use Rattle.csv.specs.Records.{fields_of}
use Rattle.pb_script.proofs.Rolls.{first_is}
use Rattle.pb_script.proofs.roll.id_of.Goals as goal

pub returns : goal.returns
returns c =
    c.trim.ensures.trim ∙ ap trim (ap (λ (t : Bor (List ℕ)). t.now) c.unwrap_or.ensures ∙ first_is (λ (t : Bor (List ℕ)). t.now) c.get.result _ (fields_of c.args.row.now) c.get.ensures.value refl)
