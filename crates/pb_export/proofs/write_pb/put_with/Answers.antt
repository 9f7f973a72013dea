use Rattle.std.proofs.Common.{◌≡◌, ◌+◌, ◌∷◌, ◌++◌, [], ℕ, List, append-nil, append_assoc, map, ap, ◌∙◌, subst, sym, arith}
use Rattle.std.specs.List.{range_with_len}
use Rattle.std.specs.Str.{IsUtf8}
use Rattle.std.proofs.lemmas.List.{map-append}
use Rattle.std.proofs.lemmas.List.FromFn.{map-range_with_len_more}
use Rattle.csv.specs.Records.{AllText}
use Rattle.pb_rows.specs.Reading.{Fields}
use Rattle.pb_export.specs.Inner.Behind.{field_of}
use Rattle.pb_export.proofs.write_pb.put_with.Goals as goal

text_put : (fields : Fields) (field : List ℕ) → AllText fields → IsUtf8 field → AllText (fields ++ field ∷ [])
unfolding AllText
text_put [] field are is = (is, tt)
text_put (first ∷ fields) field are is = (are.0, text_put fields field are.1 is)

-- one text more
texts_more : (f : ℕ → List ℕ) (n : ℕ) → AllText (map f (range_with_len 0 n)) → IsUtf8 (f n) → AllText (map f (range_with_len 0 (n + 1)))
texts_more f n are is = subst AllText (sym (map-range_with_len_more f 0 n n (omega arith))) (text_put (map f (range_with_len 0 n)) (f n) are is)

-- one field more, whose text is the next one
fields_more : {X : Type 0} (old new : List X) (x : X) (g : X → List ℕ) (own : Fields) (f : ℕ → List ℕ) (n : ℕ) → map g old ≡ own ++ map f (range_with_len 0 n) → new ≡ old ++ x ∷ [] → g x ≡ f n → map g new ≡ own ++ map f (range_with_len 0 (n + 1))
fields_more old new x g own f n before put is =
    ap (map g) put ∙ map-append g old (x ∷ []) ∙ ap (λ (t : Fields). t ++ g x ∷ []) before ∙ append_assoc own (map f (range_with_len 0 n)) (g x ∷ [])
    ∙ ap (λ (t : List ℕ). own ++ (map f (range_with_len 0 n) ++ t ∷ [])) is ∙ ap (λ (t : Fields). own ++ t) (sym (map-range_with_len_more f 0 n n (omega arith)))

pub loop-place-init : goal.loop-place-init
unfolding AllText
loop-place-init c =
    (rw (c.in_ok-extend_from_slice.ensures.items, c.new-fields.ensures.items) (sym (append-nil _)), tt)

pub loop-place-preserved : goal.loop-place-preserved
loop-place-preserved c =
    let further = c.args.further in
    let place = c.loop-place.place in (
      fields_more c.loop-place.fields.items c.push.new.self.items c.field.result (λ field. field.now) _ (field_of further) place c.loop-place.invariant.0 c.in_ok-push.ensures.items c.field.ensures,
      texts_more (field_of further) place c.loop-place.invariant.1 (subst IsUtf8 c.field.ensures c.field.utf8),
    )

pub returns-clause-text : goal.returns-clause-text
returns-clause-text c =
    let end : c.loop-place.place ≡ c.args.further.columns = omega (arith, c.loop-place.auto.place-end, c.loop-place-test.false) in
    let all = rw (c.as_slice.ensures.value, c.loop-place.invariant.0) at c.in_ok-put_row.ensures.text in
    rw end at all

pub returns-clause-are_text : goal.returns-clause-are_text
returns-clause-are_text c =
    let end : c.loop-place.place ≡ c.args.further.columns = omega (arith, c.loop-place.auto.place-end, c.loop-place-test.false) in
    subst (λ n. AllText (map (field_of c.args.further) (range_with_len 0 n))) end c.loop-place.invariant.1
