use Rattle.std.proofs.Common.{◌≡◌, ◌<◌, ◌++◌, [], ℕ, List, codes, get_or, inl, inr, length, map, string_bytes, refl, ◌∙◌, ap, sym, arith}
use Rattle.std.specs.Prelude.{◌⊎◌, slice_index_or}
use Rattle.std.proofs.lemmas.List.{get_or-map}
use Rattle.pb_core.specs.Election.{ProjectView}
use Rattle.pb_export.proofs.VoteText.{text_put}
use Rattle.pb_export.proofs.write_pb.vote_text.Goals as goal
use Rattle.pb_export.proofs.write_pb.vote_text.Goals.{then-i-gt0+in_ok-push_str, else-i-gt0}

pub loop-i-preserved : goal.loop-i-preserved
loop-i-preserved c =
    let projects = c.args.projects.now in
    let ids = map (λ (p : ProjectView). p.id) projects in
    let places = c.args.places.now in
    let i = c.loop-i.i in
    let place = get_or places i 0 in
    let p = c.index-projects-place.result in
    let before = string_bytes c.loop-i.text in
    let start = string_bytes c.if-i-gt0.text in
    let known : place < length projects = c.requires i 0 c.loop-i-test.true in
    let id : c.id.result.now ≡ slice_index_or ids place [] =
    c.id.ensures.id ∙ ap (λ (q : ProjectView). q.id) c.index-projects-place.is ∙ sym (get_or-map (λ (q : ProjectView). q.id) projects place p [] known) in
    let begins : ((0 < i) × (start ≡ before ++ codes ",")) ⊎ ((i ≡ 0) × (start ≡ before)) = elim c.if-i-gt0.branch [
      | then-i-gt0+in_ok-push_str w ↦ inl (w.if-i-gt0.true, rw w.text-is w.in_ok-push_str.ensures.bytes)
      | else-i-gt0 w ↦ inr (omega (arith, w.if-i-gt0.false), rw w.text-is refl)
    ] in
    text_put ids places i c.loop-i-test.true before start (string_bytes c.push_str-in-loop-i.new.self) c.loop-i.invariant begins
    (c.in_ok-push_str-2.ensures.bytes ∙ ap (λ (t : List ℕ). start ++ t) id)
