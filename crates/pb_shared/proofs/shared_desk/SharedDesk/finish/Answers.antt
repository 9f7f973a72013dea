use Rattle.std.proofs.Common.{◌≡◌, ◌∙◌, ◌++◌, ◌∷◌, [], All, length, map, ap, sym, subst, arith, refl, append_assoc}
use mathlib.Core.List.{append-nil}
use Rattle.pb_shared.specs.Clerk.{ClerkView}
use Rattle.pb_shared.specs.declared.seat_view.SeatView.{SeatView}
use Rattle.pb_shared.proofs.Offers.{clerk_sits}
use Rattle.pb_shared.proofs.SeatSteps.{comes_to_finish, hands_back}
use Rattle.pb_shared.proofs.Finishes.{all_mid, emptied, ends, is_held, merges, not_held}
use Rattle.pb_shared.proofs.shared_desk.SharedDesk.finish.Goals as goal

pub load_new_seat-word-requires : goal.load_new_seat-word-requires
load_new_seat-word-requires c = let words = c.self.invariant.words in (omega arith, comes_to_finish c.self.inside.table.shared.key _)

pub join_seat-requires : goal.join_seat-requires
join_seat-requires c =
    let words = c.self.invariant.words in
    let so_far = c.loop-clerk.invariant in
    let clerk = c.in-Some.clerk in
    let left = c.pop.new.self.items in
    let all : left ++ clerk ∷ so_far.0 ≡ c.args.clerks.items = sym (append_assoc left (clerk ∷ []) so_far.0) ∙ (ap (λ l. l ++ so_far.0) (sym c.in-Some.ensures.items) ∙ so_far.1) in
    let own = all_mid (λ (k : ClerkView). k.desk ≡ c.args.self) left clerk so_far.0 (subst (All (λ (k : ClerkView). k.desk ≡ c.args.self)) (sym all) c.requires.own) in (
      so_far.4 ∙ c.load_new_seat-word.ensures.0,
      clerk_sits _ _ _ c.clerk.inside.seat.me _ _ c.clerk.view_is own c.self.view_is,
      c.clerk.invariant.empty,
      omega arith,
      hands_back c.self.inside.table.shared.key _ _ _ _ so_far.3 c.clerk.invariant.role c.clerk.invariant.free,
    )

pub returns-then-word-ne0-clause-err : goal.returns-then-word-ne0-clause-err
returns-then-word-ne0-clause-err c =
    let so_far = c.loop-clerk.invariant in
    let none_left : length c.loop-clerk.clerks.items ≡ 0 = let ok = c.loop-clerk.clerks.ok in let n = c.in_default.ensures.cases.0 in omega arith in
    let taken = emptied c.loop-clerk.clerks.items so_far.0 c.args.clerks.items none_left so_far.1 in
    let last = ends c.self.inside.table.shared.key c.loop-clerk.seat.id c.loop-clerk.seat.me.0 _ _ c.word-word.result c.take-slot.result so_far.3 c.close_with-closed.ensures.values.2 c.word-word.ensures c.take-slot.ensures.value in
    is_held c.self.inside.table.shared.key c.self.inside.table.shared.table_id _ _ _ _ _ _ last c.self.view_is (so_far.2 ∙ ap (map (λ (k : ClerkView). k.sheet)) taken) c.if-word-ne0.true

pub returns-then-word-ne0-clause-all : goal.returns-then-word-ne0-clause-all
returns-then-word-ne0-clause-all c = λ all.
    let so_far = c.loop-clerk.invariant in
    let none_left : length c.loop-clerk.clerks.items ≡ 0 = let ok = c.loop-clerk.clerks.ok in let n = c.in_default.ensures.cases.0 in omega arith in
    let taken = emptied c.loop-clerk.clerks.items so_far.0 c.args.clerks.items none_left so_far.1 in
    let last = ends c.self.inside.table.shared.key c.loop-clerk.seat.id c.loop-clerk.seat.me.0 _ _ c.word-word.result c.take-slot.result so_far.3 c.close_with-closed.ensures.values.2 c.word-word.ensures c.take-slot.ensures.value in
    absurd (not_held c.args.self c.args.clerks.items c.word-word.result all
    (is_held c.self.inside.table.shared.key c.self.inside.table.shared.table_id _ _ _ _ _ _ last c.self.view_is (so_far.2 ∙ ap (map (λ (k : ClerkView). k.sheet)) taken) c.if-word-ne0.true))

pub unwrap-requires : goal.unwrap-requires
unwrap-requires c =
    let so_far = c.loop-clerk.invariant in
    let last = ends c.self.inside.table.shared.key c.loop-clerk.seat.id c.loop-clerk.seat.me.0 _ _ c.word-word.result c.take-slot.result so_far.3 c.close_with-closed.ensures.values.2 c.word-word.ensures c.take-slot.ensures.value in
    rw (last.back c.if-word-ne0.false) refl

pub returns-clause-ok : goal.returns-clause-ok
returns-clause-ok c =
    let so_far = c.loop-clerk.invariant in
    let none_left : length c.loop-clerk.clerks.items ≡ 0 = let ok = c.loop-clerk.clerks.ok in let n = c.in_default.ensures.cases.0 in omega arith in
    let taken = emptied c.loop-clerk.clerks.items so_far.0 c.args.clerks.items none_left so_far.1 in
    let last = ends c.self.inside.table.shared.key c.loop-clerk.seat.id c.loop-clerk.seat.me.0 _ _ c.word-word.result c.take-slot.result so_far.3 c.close_with-closed.ensures.values.2 c.word-word.ensures c.take-slot.ensures.value in
    merges c.self.inside.table.shared.key c.self.inside.table.shared.table_id _ _ _ _ _ _ _ last c.self.view_is (so_far.2 ∙ ap (map (λ (k : ClerkView). k.sheet)) taken) c.if-word-ne0.false c.unwrap.ensures

pub loop-clerk-init : goal.loop-clerk-init
loop-clerk-init c =
    let guest = c.load_new_seat-word.ensures.2.1 in
    ([], append-nil c.args.clerks.items, ap (λ (v : SeatView). v.returned) guest, ap (λ (v : SeatView). v.role) guest, refl)

pub loop-clerk-preserved : goal.loop-clerk-preserved
loop-clerk-preserved c =
    let so_far = c.loop-clerk.invariant in
    let clerk = c.in-Some.clerk in
    let left = c.pop.new.self.items in
    let both = c.join_seat.ensures.2 in (
      clerk ∷ so_far.0,
      sym (append_assoc left (clerk ∷ []) so_far.0) ∙ (ap (λ l. l ++ so_far.0) (sym c.in-Some.ensures.items) ∙ so_far.1),
      ap (λ m. m.0.returned) both ∙ (λ i. (c.clerk.view_is i).sheet ∷ so_far.2 i),
      ap (λ m. m.0.role) both ∙ so_far.3,
      c.join_seat.ensures.0 ∙ so_far.4,
    )
