use Rattle.std.proofs.Common.{◌≡◌, List, [], ℕ, Bor, Option, subst}
use Rattle.std.specs.Prelude.{option_map, unwrap_or}
use Rattle.csv.specs.Records.{fields_of}
use Rattle.pb_read.specs.Rows.{field}
use Rattle.pb_export.proofs.KeptFields.{field_there}
use Rattle.pb_export.proofs.carried.bytes_at.Goals as goal

pub returns-in-Some : goal.returns-in-Some
returns-in-Some c =
    let fields = fields_of c.args.record.now in
    subst (λ (got : Option (Bor (List ℕ))). unwrap_or (option_map (λ b. b.now) got) [] ≡ field fields c.args.place) c.in-Some.is
    (field_there (λ (b : Bor (List ℕ)). b.now) c.get.result fields c.args.place c.get.ensures.value)

pub returns-in-None : goal.returns-in-None
returns-in-None c =
    let fields = fields_of c.args.record.now in
    subst (λ (got : Option (Bor (List ℕ))). unwrap_or (option_map (λ b. b.now) got) [] ≡ field fields c.args.place) c.in-None.is
    (field_there (λ (b : Bor (List ℕ)). b.now) c.get.result fields c.args.place c.get.ensures.value)
