use Rattle.std.proofs.Common.{length, ap, sym, ◌∙◌, lit<, subst}
use Rattle.std.specs.List.{slice_split}
use Rattle.std.specs.Prelude.{◌==◌, is_some}
use Rattle.std.proofs.lemmas.Bool.{false≢true}
use Rattle.std.proofs.lemmas.Iterator.Consumers.{YieldsList-turn, YieldsList-end}
use Rattle.std.proofs.lemmas.Iterator.Splits.{YieldsList-from_str_split}
use Rattle.std.proofs.lemmas.List.{map_push}
use Rattle.pb_read.proofs.IdFacts.{is_some-place}
use Rattle.pb_read.proofs.ListFacts.{length-is_empty}
use Rattle.pb_read.proofs.Pieces.{IsWalked, walked_empty, walked_more, walked_none, unknown_part}
use Rattle.pb_read.specs.Inner.Ids.{place_in}
use Rattle.pb_read.specs.Rows.{is_empty}
use Rattle.pb_read.proofs.vote.find_places.Goals as goal

pub returns-in_default-clause-known : goal.returns-in_default-clause-known
returns-in_default-clause-known c = λ ids finds.
    let vote = c.args.vote.now in
    let t = YieldsList-turn (YieldsList-from_str_split 44 vote (lit< tt) (cc) (cc) (cc)) c.loop-piece.yielded _ c.loop-piece.yielded_by _ _ c.in-Some.piece c.in-Some.is c.next.ensures.steps in
    let full = ap is_empty (sym c.trim-id.ensures.trim) ∙ sym (length-is_empty c.trim-id.result.now) ∙ sym c.is_empty.ensures ∙ c.if-is_empty.false in
    let place = ap (place_in ids) (sym c.trim-id.ensures.trim) ∙ sym (finds c.trim-id.result.now) ∙ sym c.get.ensures ∙ c.in_default.is in
    let none = sym (is_some-place ids _) ∙ ap is_some place in
    sym (unknown_part ids (slice_split (λ b. b == 44) vote) (length c.loop-piece.yielded) c.in-Some.piece.now t.0 t.1 full none)

pub returns-in_default-clause-places : goal.returns-in_default-clause-places
returns-in_default-clause-places c = λ ids finds is. absurd (false≢true is)

pub loop-piece-init : goal.loop-piece-init
loop-piece-init c = λ ids finds. rw c.clear.ensures.items (walked_none ids)

pub loop-piece-preserved-then-is_empty : goal.loop-piece-preserved-then-is_empty
loop-piece-preserved-then-is_empty c = λ ids finds.
    let none = ap is_empty (sym c.trim-id.ensures.trim) ∙ sym (length-is_empty c.trim-id.result.now) ∙ sym c.is_empty.ensures ∙ c.if-is_empty.true in
    rw map_push (walked_empty ids _ _ c.in-Some.piece.now (c.loop-piece.invariant ids finds) none)

pub loop-piece-preserved : goal.loop-piece-preserved
loop-piece-preserved c = λ ids finds.
    let full = ap is_empty (sym c.trim-id.ensures.trim) ∙ sym (length-is_empty c.trim-id.result.now) ∙ sym c.is_empty.ensures ∙ c.if-is_empty.false in
    let found = ap (place_in ids) (sym c.trim-id.ensures.trim) ∙ sym (finds c.trim-id.result.now) ∙ sym c.get.ensures ∙ c.in-Some-get.is in
    let among = sym (is_some-place ids _) ∙ ap is_some found in
    rw (map_push, c.in_ok-push.ensures.items) (walked_more ids _ _ c.in-Some.piece.now c.in-Some-get.place (c.loop-piece.invariant ids finds) full found among)

pub returns-clause-known : goal.returns-clause-known
returns-clause-known c = λ ids finds.
    let t = YieldsList-end (YieldsList-from_str_split 44 c.args.vote.now (lit< tt) (cc) (cc) (cc)) c.loop-piece.yielded _ c.loop-piece.yielded_by _ _ c.in-None.is c.next.ensures.steps in
    let walked = subst (λ parts. IsWalked ids parts c.loop-piece.places.items) t.0 (c.loop-piece.invariant ids finds) in
    sym walked.known

pub returns-clause-places : goal.returns-clause-places
returns-clause-places c = λ ids finds _.
    let t = YieldsList-end (YieldsList-from_str_split 44 c.args.vote.now (lit< tt) (cc) (cc) (cc)) c.loop-piece.yielded _ c.loop-piece.yielded_by _ _ c.in-None.is c.next.ensures.steps in
    let walked = subst (λ parts. IsWalked ids parts c.loop-piece.places.items) t.0 (c.loop-piece.invariant ids finds) in
    walked.places_are
