use Rattle.std.proofs.Common.{◌≡◌, ℕ, List, ap, sym, ◌∙◌, map}
use Rattle.std.specs.FinMap as finite
use Rattle.std.specs.Prelude.{is_some}
use Rattle.std.specs.Char.{to_ascii_lowercase}
use Rattle.std.specs.Result.{is_err}
use Rattle.pb_ids.specs.Inner.Places.{Places}
use Rattle.pb_export.proofs.NewColumns.{came_before, comes_now, on_ok}
use Rattle.pb_export.proofs.carried.NamesSoFar.number_of.Goals.{in-Some, in-None}
use Rattle.pb_export.proofs.carried.NamesSoFar.number_of.Goals as goal

pub returns : goal.returns
returns c = λ other.
    let came = c.args.self.now.came in
    let low = map to_ascii_lowercase c.args.name.now in
    let small : c.as_str.result.now ≡ low = c.as_str.ensures.value ∙ c.in_ok-small.ensures.ok in
    elim c.match-before.branch [
      | in-Some w ↦ rw w.self-is (came_before came low w.in-Some.field-0 (sym (c.get-before.ensures ∙ ap (finite.get came) small) ∙ w.in-Some.is) other)
      | in-None w ↦
          let put = on_ok w.insert-taken.result (ap is_err (sym w.taken-is ∙ c.in_ok-taken.was)) w.insert-taken.ensures.ok in
          rw w.self-is (ap (λ (m : Places). is_some (finite.get m other)) (put ∙ ap (λ (t : List ℕ). finite.insert came t c.args.number) (w.as_str-in-None.ensures.value ∙ c.in_ok-small.ensures.ok))
          ∙ comes_now came low c.args.number other)
    ]
