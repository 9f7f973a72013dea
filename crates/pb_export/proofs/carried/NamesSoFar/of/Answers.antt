use Rattle.std.proofs.Common.{◌<◌, [], ℕ, List, Bor, ap, sym, ◌∙◌, length, map}
use Rattle.std.specs.FinMap as finite
use Rattle.std.specs.Prelude.{is_some}
use Rattle.std.specs.Char.{to_ascii_lowercase}
use Rattle.std.proofs.lemmas.List.{get_or-map, length-map}
use Rattle.pb_ids.specs.Inner.Places.{Places, get_none}
use Rattle.pb_export.proofs.NewColumns.{come_small, on_ok}
use Rattle.pb_export.proofs.carried.NamesSoFar.of.Goals as goal

pub loop-name-init : goal.loop-name-init
loop-name-init c = λ small name. ap is_some (ap (λ (m : Places). finite.get m (map to_ascii_lowercase name)) c.new-came.ensures ∙ get_none (map to_ascii_lowercase name))

pub loop-name-preserved : goal.loop-name-preserved
loop-name-preserved c = λ small.
    let names : List (List ℕ) = map (λ (b : Bor (List ℕ)). b.now) c.args.names.now in
    let i = c.loop-name.name-index in
    let here : i < length names = rw (length-map c.args.names.now (λ (b : Bor (List ℕ)). b.now)) c.loop-name-test.true in
    come_small c.loop-name.came c.insert.new.self names i _ here small (sym (get_or-map (λ (b : Bor (List ℕ)). b.now) c.args.names.now i _ [] c.loop-name-test.true))
    (c.loop-name.invariant small) (on_ok c.insert.result (sym c.is_err.ensures.value ∙ c.if-is_err.false) c.insert.ensures.ok)
