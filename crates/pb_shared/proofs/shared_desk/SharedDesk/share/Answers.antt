use Rattle.std.proofs.Common.{◌≡◌, ◌+◌, [], length, slice_get, inl, ⊎_elim, refl, sym, ap, ◌∙◌, arith, add-one, length-append}
use Rattle.pb_shared.specs.Clerk.{new_sheet}
use Rattle.pb_shared.specs.Inner.Rule.{seated}
use Rattle.pb_shared.specs.Steps.{knowing}
use Rattle.pb_shared.specs.Inner.Plays.{dealt_left, dealt_right}
use Rattle.pb_shared.specs.Seats.{clerk_view}
use Rattle.pb_shared.specs.Inner.SharedView.{shared_view}
use Rattle.pb_shared.specs.Inner.Seats.{newcomer}
use Rattle.pb_shared.specs.declared.seat_view.Role.TheVariants.{Stock}
use Rattle.pb_shared.proofs.Offers.{deals_at, comes_next, of_newcomers}
use Rattle.pb_shared.proofs.shared_desk.SharedDesk.share.Goals as goal

pub split_seat-seat-requires : goal.split_seat-seat-requires
split_seat-seat-requires c =
    let laid = c.in-Ok-lay_table.ensures.ok in
    let words = laid.table.words in
    let clerks = laid.clerks_is in
    let below = c.loop-number-test.true in
    let key = c.in-Ok-lay_table.laid.0.shared.key in
    (c.loop-number.invariant.0, omega arith, deals_at key key _ c.loop-number.number _ refl c.loop-number.invariant.1 (omega arith))

pub loop-number-preserved : goal.loop-number-preserved
loop-number-preserved c =
    let so_far = c.loop-number.invariant in
    let t = c.in-Ok-lay_table.laid.0.shared in
    let n = c.loop-number.number in
    let split = c.split_seat-seat.ensures in
    let next : clerk_view c.split_seat-seat.result.table_id c.split_seat-seat.result.me ≡ newcomer (shared_view t.table_id t.key) n = λ i. clerk_view ((split.3 ∙ so_far.0) i) ((split.4 ∙ ap (λ z. (knowing z (dealt_right z), [])) so_far.1) i) in
    let items = c.push_reserved.ensures.items in (
      split.0 ∙ so_far.0,
      ap (λ m. m.0) split.2 ∙ (ap (λ z. knowing z (dealt_left z)) so_far.1 ∙ ap (λ k. seated Stock t.key (new_sheet t.key.desk.value.journal k)) (sym (add-one n))),
      (let count = so_far.2 in ap length items ∙ (length-append c.loop-number.seated.items _ ∙ ap (λ k. k + 1) count)),
      (let room = so_far.3 in let same = c.push_reserved.ensures.capacity in omega arith),
      λ k below. ap (λ l. slice_get l k) items ∙ comes_next (shared_view t.table_id t.key) c.loop-number.seated.items _ n so_far.2 so_far.4 next k below,
    )

pub returns-clause-own : goal.returns-clause-own
returns-clause-own c =
    let so_far = c.loop-number.invariant in
    let t = c.in-Ok-lay_table.laid.0.shared in
    of_newcomers (shared_view t.table_id t.key) c.loop-number.seated.items c.loop-number.number so_far.2 so_far.4

pub loop-number-init : goal.loop-number-init
loop-number-init c =
    let laid = c.in-Ok-lay_table.ensures.ok in
    (laid.seat_of, ap (λ m. m.0) laid.first, ap length c.in-Ok.ensures.items, c.in-Ok.ensures.capacity, λ k below. absurd (omega arith))

pub returns-clause-ok : goal.returns-clause-ok
returns-clause-ok c =
    let so_far = c.loop-number.invariant in
    let laid = c.in-Ok-lay_table.ensures.ok in
    let clerks = laid.clerks_is in
    let over = c.loop-number-test.false in
    let most = c.loop-number.auto.number-end in
    (laid.desk_is, clerks, ((let count = so_far.2 in omega arith), λ i below. so_far.4 i (omega arith)))

pub returns-then-clerks-eq0-clause-err : goal.returns-then-clerks-eq0-clause-err
returns-then-clerks-eq0-clause-err c = inl (refl, λ are. ⊎_elim (λ none. let some = are.0 in omega arith) (λ many. let few = are.1 in let more = many.1 in omega arith) c.then-clerks-eq0.either)
