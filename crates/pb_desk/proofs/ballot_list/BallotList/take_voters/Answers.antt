use Rattle.std.proofs.Common.{◌≡◌, ◌∙◌, ◌+◌, ◌++◌, [], ◌∷◌, suc, None, Option, Some, ap, drop, length, refl, slice_get, subst, sym, add-one, arith}
use Rattle.std.specs.FinMap as map
use Rattle.std.specs.Option.{option_map, IfSome, IsSome}
use Rattle.std.proofs.lemmas.List.{drop_all}
use Rattle.std.proofs.lemmas.Option.{slice_get_read}
use Rattle.pb_core.specs.Election.{VoterView}
use Rattle.pb_desk.specs.Inner.Legal.{voters_of}
use Rattle.pb_desk.specs.Inner.Slots.{filed, IsListing}
use Rattle.pb_desk.specs.Inner.Sources.{ballots_at, IsOwnVoter}
use Rattle.pb_desk.specs.declared.source.Source.{Source}
use Rattle.pb_desk.specs.declared.source.Source.TheVariants.{Opening, Entry}
use Rattle.pb_desk.proofs.Closings.{after_entry, after_opening, entry_taken, opening_taken, room_left, taken_all, within_journal, within_opening, within_turned, pair_of, AreDistinct-sources, IsSoFar-start}
use Rattle.pb_desk.proofs.Slots.{filed-drop, none_after, NoneTwice-filed}
use Rattle.pb_desk.proofs.ballot_list.BallotList.take_voters.Goals as goal
use Rattle.pb_desk.proofs.ballot_list.BallotList.take_voters.Goals.{in-Some, in-Opening, in-Entry, in-None}

pub overflow_sub-count-in-Opening : goal.overflow_sub-count-in-Opening
overflow_sub-count-in-Opening g c =
    let slots = c.as_slice-slots.result.now in
    let k = c.loop-slot.slot-index in
    let opening = c.args.opening.items in
    let id = c.in-Some._voter in
    let at = slice_get_read slots (length slots) k c.slot-item.result refl c.loop-slot-test.true c.slot-item.is ∙ ap Some c.in-Some.is in
    let rest = filed (drop (suc k) slots) in
    let here : slice_get slots k ≡ Some (Some (id, Opening c.in-Opening.place)) = at ∙ ap (λ (s : Source). Some (Some (id, s))) c.in-Opening.is in
    let left = rw (filed-drop slots k (Some (id, Opening c.in-Opening.place)) here) at c.loop-slot.invariant.0.left in
    let below = within_opening opening opening c.loop-slot.turned.items c.loop-slot.journal.items c.loop-slot.voters.items id rest c.in-Opening.place left in
    omega (arith, below)

pub take_opening-voter-requires : goal.take_opening-voter-requires
take_opening-voter-requires g c =
    let slots = c.as_slice-slots.result.now in
    let k = c.loop-slot.slot-index in
    let opening = c.args.opening.items in
    let id = c.in-Some._voter in
    let at = slice_get_read slots (length slots) k c.slot-item.result refl c.loop-slot-test.true c.slot-item.is ∙ ap Some c.in-Some.is in
    let rest = filed (drop (suc k) slots) in
    let here : slice_get slots k ≡ Some (Some (id, Opening c.in-Opening.place)) = at ∙ ap (λ (s : Source). Some (Some (id, s))) c.in-Opening.is in
    let left = rw (filed-drop slots k (Some (id, Opening c.in-Opening.place)) here) at c.loop-slot.invariant.0.left in
    let long : c.len-count.result ≡ length opening = omega arith in
    within_turned opening opening c.loop-slot.turned.items c.loop-slot.journal.items c.loop-slot.voters.items id rest c.in-Opening.place c.len-count.result long left

pub take_entry-voter-requires : goal.take_entry-voter-requires
take_entry-voter-requires g c =
    let slots = c.as_slice-slots.result.now in
    let k = c.loop-slot.slot-index in
    let opening = c.args.opening.items in
    let id = c.in-Some._voter in
    let at = slice_get_read slots (length slots) k c.slot-item.result refl c.loop-slot-test.true c.slot-item.is ∙ ap Some c.in-Some.is in
    let rest = filed (drop (suc k) slots) in
    let here : slice_get slots k ≡ Some (Some (id, Entry c.in-Entry.index)) = at ∙ ap (λ (s : Source). Some (Some (id, s))) c.in-Entry.is in
    let left = rw (filed-drop slots k (Some (id, Entry c.in-Entry.index)) here) at c.loop-slot.invariant.0.left in
    within_journal opening opening c.loop-slot.turned.items c.loop-slot.journal.items c.loop-slot.voters.items id rest c.in-Entry.index left

pub unwrap-requires : goal.unwrap-requires
unwrap-requires g c =
    let slots = c.as_slice-slots.result.now in
    let k = c.loop-slot.slot-index in
    let opening = c.args.opening.items in
    let id = c.in-Some._voter in
    let at = slice_get_read slots (length slots) k c.slot-item.result refl c.loop-slot-test.true c.slot-item.is ∙ ap Some c.in-Some.is in
    let rest = filed (drop (suc k) slots) in
    let P : Option VoterView → Type 0 = IsSome in
    let long : c.len-count.result ≡ length opening = omega arith in
    elim c.match-source.branch [
      | in-Opening w ↦
          let here : slice_get slots k ≡ Some (Some (id, Opening w.in-Opening.place)) = at ∙ ap (λ (s : Source). Some (Some (id, s))) w.in-Opening.is in
          let left = rw (filed-drop slots k (Some (id, Opening w.in-Opening.place)) here) at c.loop-slot.invariant.0.left in
          subst P (sym (w.voter-is ∙ w.take_opening-voter.ensures.voter ∙ opening_taken opening opening c.loop-slot.turned.items c.loop-slot.journal.items c.loop-slot.voters.items id rest w.in-Opening.place c.len-count.result long left)) refl
      | in-Entry w ↦
          let here : slice_get slots k ≡ Some (Some (id, Entry w.in-Entry.index)) = at ∙ ap (λ (s : Source). Some (Some (id, s))) w.in-Entry.is in
          let left = rw (filed-drop slots k (Some (id, Entry w.in-Entry.index)) here) at c.loop-slot.invariant.0.left in
          subst P (sym (w.voter-is ∙ entry_taken opening opening c.loop-slot.turned.items c.loop-slot.journal.items c.loop-slot.voters.items id rest w.in-Entry.index w.take_entry-voter.result left w.take_entry-voter.ensures.voter)) refl
    ]

pub unwrap-requires-in-Some : goal.unwrap-requires-in-Some
unwrap-requires-in-Some g c =
    let slots = c.as_slice-slots.result.now in
    let k = c.loop-slot.slot-index in
    let opening = c.args.opening.items in
    let id = c.in-Some._voter in
    let at = slice_get_read slots (length slots) k c.slot-item.result refl c.loop-slot-test.true c.slot-item.is ∙ ap Some c.in-Some.is in
    let rest = filed (drop (suc k) slots) in
    let taken = rw (filed-drop slots k (Some (id, c.in-Some.source)) at) at c.loop-slot.invariant.0.taken in
    let fewer = room_left opening c.args.journal.items c.loop-slot.journal.items (filed slots) c.loop-slot.voters.items (id, c.in-Some.source) rest taken in
    let room = c.loop-slot.invariant.1 in
    c.push.ensures.succeeds (omega (arith, fewer, room))

pub loop-slot-preserved : goal.loop-slot-preserved
loop-slot-preserved g c =
    let inside = c.self.inside in
    let slots = c.as_slice-slots.result.now in
    let k = c.loop-slot.slot-index in
    let opening = c.args.opening.items in
    let all = voters_of (ballots_at opening c.args.journal.items (filed slots)) in
    let turned = c.loop-slot.turned.items in
    let journal = c.loop-slot.journal.items in
    let done = c.loop-slot.voters.items in
    let rest = filed (drop (suc k) slots) in
    let next : filed (drop (k + 1) slots) ≡ rest = ap (λ n. filed (drop n slots)) (add-one k) in
    let stands = slice_get_read slots (length slots) k c.slot-item.result refl c.loop-slot-test.true c.slot-item.is in
    let long : c.len-count.result ≡ length opening = omega arith in
    let is : IsListing (map.get inside.slot_of) slots inside.count = rw c.as_slice-slots.ensures.value c.self.invariant in
    let room = c.loop-slot.invariant.1 in
    elim c.match-slot.branch [
      | in-Some w ↦
          let id = w.in-Some._voter in
          let at = stands ∙ ap Some w.in-Some.is in
          let pushed : w.push.new.self.items ≡ done ++ w.unwrap.result ∷ [] = rw w.unwrap-in-Some.ensures at w.push.ensures.items in
          let done_is = (λ i. (w.voters-is i).items) ∙ pushed in
          let grows = w.push.ensures.capacity in
          elim w.match-source.branch [
            | in-Opening v ↦
                let place = v.in-Opening.place in
                let here : slice_get slots k ≡ Some (Some (id, Opening place)) = at ∙ ap (λ (s : Source). Some (Some (id, s))) v.in-Opening.is in
                let so_far = rw (filed-drop slots k (Some (id, Opening place)) here) at c.loop-slot.invariant.0 in
                let taken = sym v.take_opening-voter.ensures.voter ∙ sym v.voter-is ∙ w.unwrap.ensures in (
                  after_opening opening all turned journal done id rest place c.len-count.result w.unwrap.result _ _ _ _ c.requires.own so_far long taken
                      ((λ i. (w.turned-is i).items) ∙ (λ i. (v.turned-is i).items) ∙ v.take_opening-voter.ensures.left)
                      ((λ i. (w.journal-is i).items) ∙ (λ i. (v.journal-is i).items)) done_is next,
                  rw w.voters-is (omega (arith, room, grows)),
                )
            | in-Entry v ↦
                let index = v.in-Entry.index in
                let here : slice_get slots k ≡ Some (Some (id, Entry index)) = at ∙ ap (λ (s : Source). Some (Some (id, s))) v.in-Entry.is in
                let so_far = rw (filed-drop slots k (Some (id, Entry index)) here) at c.loop-slot.invariant.0 in
                let voter_is = sym v.voter-is ∙ w.unwrap.ensures in
                let P : Option VoterView → Type 0 = λ o. IfSome o IsOwnVoter in (
                  after_entry opening all turned journal done id rest index w.unwrap.result _ _ _ _
                      (none_after (map.get inside.slot_of) slots inside.count is k (id, Entry index) here) so_far
                      (ap (option_map pair_of) (sym voter_is) ∙ v.take_entry-voter.ensures.voter)
                      (subst P voter_is v.take_entry-voter.ensures.is_voter)
                      ((λ i. (w.turned-is i).items) ∙ (λ i. (v.turned-is i).items))
                      ((λ i. (w.journal-is i).items) ∙ (λ i. (v.journal-is i).items) ∙ v.take_entry-voter.ensures.journal) done_is next,
                  rw w.voters-is (omega (arith, room, grows)),
                )
          ]
      | in-None w ↦
          let same = next ∙ sym (filed-drop slots k None (stands ∙ ap Some w.in-None.is)) in
          rw (w.voters-is, w.turned-is, w.journal-is, same) c.loop-slot.invariant
    ]

pub returns-clause-voters : goal.returns-clause-voters
returns-clause-voters g c =
    let slots = c.as_slice-slots.result.now in
    let opening = c.args.opening.items in
    let journal = c.args.journal.items in
    let none = ap filed (drop_all c.loop-slot.slot-index slots c.loop-slot-test.false) in
    taken_all (voters_of (ballots_at opening journal (filed slots))) c.loop-slot.voters.items opening c.loop-slot.journal.items _ c.loop-slot.invariant.0.taken none
    ∙ ap (λ ss. voters_of (ballots_at opening journal ss)) (ap filed c.as_slice-slots.ensures.value ∙ c.self.view_is)

pub returns-clause-differ : goal.returns-clause-differ
returns-clause-differ g c =
    let inside = c.self.inside in
    let slots = c.as_slice-slots.result.now in
    let opening = c.args.opening.items in
    let journal = c.args.journal.items in
    let none = ap filed (drop_all c.loop-slot.slot-index slots c.loop-slot-test.false) in
    let is : IsListing (map.get inside.slot_of) slots inside.count = rw c.as_slice-slots.ensures.value c.self.invariant in
    let done_is = taken_all (voters_of (ballots_at opening journal (filed slots))) c.loop-slot.voters.items opening c.loop-slot.journal.items _ c.loop-slot.invariant.0.taken none in
    rw done_is (AreDistinct-sources opening journal (filed slots) (NoneTwice-filed (map.get inside.slot_of) slots inside.count is))

pub loop-slot-init : goal.loop-slot-init
loop-slot-init g c =
    let slots = c.as_slice-slots.result.now in
    let listed = ap filed c.as_slice-slots.ensures.value ∙ c.self.view_is in (
      IsSoFar-start c.args.opening.items c.reverse.new.self.items c.args.journal.items c.args.voters.now.items (filed slots) (rw listed c.requires.sources.found) (rw listed c.requires.sources.in_order)
          c.reverse.ensures.items c.requires.empty,
      rw listed c.requires.room,
    )

pub returns-clause-own : goal.returns-clause-own
returns-clause-own g c = c.loop-slot.invariant.0.own

pub overflow_sub-count : goal.overflow_sub-count
overflow_sub-count g c =
    let slots = c.as_slice-slots.result.now in
    let k = c.loop-slot.slot-index in
    let opening = c.args.opening.items in
    let id = c.in-Some._voter in
    let at = slice_get_read slots (length slots) k c.slot-item.result refl c.loop-slot-test.true c.slot-item.is ∙ ap Some c.in-Some.is in
    let rest = filed (drop (suc k) slots) in
    let here : slice_get slots k ≡ Some (Some (id, Opening c.in-Opening.place)) = at ∙ ap (λ (s : Source). Some (Some (id, s))) c.in-Opening.is in
    let left = rw (filed-drop slots k (Some (id, Opening c.in-Opening.place)) here) at c.loop-slot.invariant.0.left in
    let below = within_opening opening opening c.loop-slot.turned.items c.loop-slot.journal.items c.loop-slot.voters.items id rest c.in-Opening.place left in
    omega (arith, below)
