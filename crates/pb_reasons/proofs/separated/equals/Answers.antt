use Rattle.std.proofs.Common.{◌≡◌, ◌∙◌, ◌++◌, ◌∷◌, [], ◌==◌, ◌&&◌, ℕ, Bool, false, List, ap, slice_index_or, subst, sym}
use Rattle.std.specs.Prelude.{filter, not}
use Rattle.std.specs.List.{range_with_len}
use Rattle.pb_price.proofs.BuiltLists.{range_with_len_more}
use Rattle.pb_price.specs.Supporters.{cost_at}
use Rattle.pb_rounds.specs.MostVotes.{votes_at}
use Rattle.pb_reasons.specs.Inner.AllTies.{is_equal_to}
use Rattle.pb_reasons.proofs.Far.{none_kept, one_kept}
use Rattle.pb_reasons.proofs.separated.equals.Goals as goal
use Rattle.pb_reasons.proofs.separated.equals.Goals.{then-is_free_equal+in_ok-push, else-is_free_equal}

pub loop-place-preserved : goal.loop-place-preserved
loop-place-preserved c =
    let s = c.args.supporters.now in
    let place = c.loop-place.place in
    let test = is_equal_to s c.args.taken.now c.args.winner in
    let known = c.loop-place-test.true in
    let flag = c.in_ok-is_taken.ensures.flagged place known in
    let here : c.is_free_equal.result ≡ test place =
    c.is_free_equal.ensures
    ∙ ap (λ b. not b && ((votes_at s place == votes_at s c.args.winner) && (cost_at s place == cost_at s c.args.winner))) (ap (λ (fs : List Bool). slice_index_or fs place false) c.deref.ensures.value ∙ flag) in
    subst (λ (ps : List ℕ). c.if-is_free_equal.others.items ≡ filter test ps) (sym (range_with_len_more place)) (elim c.if-is_free_equal.branch [
      | then-is_free_equal+in_ok-push w ↦
          rw (w.others-is, w.in_ok-push.ensures.items) (ap (λ (xs : List ℕ). xs ++ place ∷ []) c.loop-place.invariant ∙ sym (one_kept test (range_with_len 0 place) place (sym here ∙ w.if-is_free_equal.true)))
      | else-is_free_equal w ↦
          rw w.others-is (c.loop-place.invariant ∙ sym (none_kept test (range_with_len 0 place) place (sym here ∙ w.if-is_free_equal.false)))
    ])
