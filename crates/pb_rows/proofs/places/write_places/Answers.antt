use Rattle.std.proofs.Common.{◌≡◌, ◌∙◌, ◌++◌, ◌∷◌, ◌<◌, [], ℕ, List, length, take, get_or, decimal, sym, ap, arith, append_assoc, string_bytes}
use Rattle.std.proofs.lemmas.List.{append-nil}
use Rattle.pb_rows.proofs.PlacesText.{places_text-first, places_text-next}
use Rattle.pb_rows.specs.Numbers.{places_text}
use Rattle.pb_rows.proofs.places.write_places.Goals as goal
use Rattle.pb_rows.proofs.places.write_places.Goals.{then-i-gt0+in_ok-push_str, else-i-gt0}

pub loop-i-init : goal.loop-i-init
unfolding places_text
loop-i-init g c = sym (append-nil _)

-- a text after some part, and one more part after it
grown : (base old new part more : List ℕ) → old ≡ base ++ part → new ≡ old ++ more → new ≡ base ++ (part ++ more)
grown base old new part more before after = after ∙ ap (λ (t : List ℕ). t ++ more) before ∙ append_assoc base part more

pub loop-i-preserved : goal.loop-i-preserved
loop-i-preserved g c =
    let inv = c.loop-i.invariant in
    let within : c.loop-i.i < length c.args.places.now = c.loop-i-test.true in
    let before = string_bytes c.args.text.now in
    let part = places_text (take c.loop-i.i c.args.places.now) in
    let place = decimal (get_or c.args.places.now c.loop-i.i 0) in
    let wrote = rw c.format.ensures.text at c.in_ok-push_str-2.ensures.bytes in
    elim c.if-i-gt0.branch [
      | then-i-gt0+in_ok-push_str w ↦
          let comma = grown before (string_bytes c.loop-i.text) (string_bytes c.if-i-gt0.text) part (44 ∷ []) inv (rw w.text-is w.in_ok-push_str.ensures.bytes) in
          rw (places_text-next c.args.places.now c.loop-i.i w.if-i-gt0.true within)
          (grown before (string_bytes c.if-i-gt0.text) (string_bytes c.push_str-in-loop-i.new.self) (part ++ 44 ∷ []) place comma wrote)
      | else-i-gt0 w ↦
          rw (places_text-first c.args.places.now c.loop-i.i (omega (arith, w.if-i-gt0.false)) within)
          (grown before (string_bytes c.if-i-gt0.text) (string_bytes c.push_str-in-loop-i.new.self) part place (rw w.text-is inv) wrote)
    ]
