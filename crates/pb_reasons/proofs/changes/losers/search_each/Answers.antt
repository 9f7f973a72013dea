use Rattle.std.proofs.Common.{◌≡◌, ◌∙◌, ◌++◌, ◌∷◌, ◌<◌, [], ℕ, List, Ok, Result, ap, arith, get_or, length, map, subst, sym, take, rules}
use Rattle.std.specs.Prelude.{All, slice_index}
use Rattle.std.proofs.lemmas.List.{map_push, take_more}
use Rattle.std.proofs.lemmas.List.Elements.{All-push}
use Rattle.pb_core.specs.declared.no_memory.NoMemory.{NoMemory}
use Rattle.pb_reasons.specs.WhatIf.{Seen}
use Rattle.pb_reasons.specs.Inner.Losers.{IsAnswer, IsSearched}
use Rattle.pb_reasons.specs.declared.changes.loser.Loser.{Loser}
use Rattle.pb_reasons.proofs.changes.losers.search_each.Goals as goal

pub loop-answer-preserved : goal.loop-answer-preserved
loop-answer-preserved g c =
    let before = c.loop-answer.invariant in
    let rule = c.args.recounts.now.rule in
    let s : Seen = c.args.changing.now in
    let places = c.args.places.now in
    let i = c.loop-answer.answer-index in
    let items = c.loop-answer.found.items in
    let l : Loser = c.in_ok-loser.loser in
    let place_of : Loser → ℕ = λ f. f.place in
    let answers = c.in_ok-answers.answers.items in
    let d : Result Loser NoMemory = Ok l in
    let told : get_or answers i d ≡ Ok l = search rules in
    let within : i < length answers = search rules in
    let is : IsAnswer s rule (slice_index places i) (Ok l) = subst (IsAnswer s rule (slice_index places i)) told (c.in_ok-answers.ensures.each i d within) in
    let few : i < length places = omega (arith, within, c.in_ok-answers.ensures.one_each) in
    record {
      each = subst (All (IsSearched s rule)) (sym c.in_ok-keep.ensures) (All-push (IsSearched s rule) items l before.each is.searched);
      places = ap (map place_of) c.in_ok-keep.ensures ∙ map_push place_of items l ∙ ap (λ (xs : List ℕ). xs ++ l.place ∷ []) before.places
          ∙ ap (λ (n : ℕ). take i places ++ n ∷ []) is.about_it ∙ sym (take_more places i 0 few);
    }
