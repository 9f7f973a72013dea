use Rattle.std.proofs.Common.{◌≡◌, ◌∙◌, ◌<◌, get_or, length, [], arith}
use Rattle.std.proofs.lemmas.List.{get_or_read}
use Rattle.pb_core.specs.Request.{asked}
use Rattle.pb_script.specs.Inner.Serving.{list_of}
use Rattle.pb_script.proofs.Rooms.{few_served, room_for_rest}
use Rattle.pb_script.proofs.Servings.{ServesUpTo-more, rest_through}
use Rattle.pb_script.proofs.serve_script.serve_rest.Goals as goal

pub serve_for-requires-clause-room : goal.serve_for-requires-clause-room
serve_for-requires-clause-room c =
    let lists = c.args.lists.now in
    let i = c.loop-clerk.clerk in
    let known : i < length lists = omega arith in
    let read : c.index-lists-clerk.result ≡ list_of lists i = get_or_read lists i c.index-lists-clerk.result known c.index-lists-clerk.is [] in
    let so_far = c.loop-clerk.invariant in
    let served = few_served i lists c.args.served.now c.loop-clerk.desk.journal so_far.2 c.requires.few_each in
    let clerks = c.requires.few in
    room_for_rest asked (get_or c.args.served.now i 0) c.as_slice.result.now (list_of lists i) (length c.loop-clerk.desk.journal) c.loop-clerk.desk.room
    (c.as_slice.ensures ∙ read) (c.requires.few_each i [] known) (omega arith) (so_far.1 ∙ c.requires.room)

pub loop-clerk-preserved : goal.loop-clerk-preserved
loop-clerk-preserved c =
    let lists = c.args.lists.now in
    let i = c.loop-clerk.clerk in
    let known : i < length lists = omega arith in
    let read : c.index-lists-clerk.result ≡ list_of lists i = get_or_read lists i c.index-lists-clerk.result known c.index-lists-clerk.is [] in
    let so_far = c.loop-clerk.invariant in
    let done = c.in_ok-serve_for.ensures.appends in (
      c.serve_for.ensures.opening ∙ so_far.0,
      c.serve_for.ensures.room ∙ so_far.1,
      ServesUpTo-more i lists c.args.served.now _ c.loop-clerk.desk.journal c.serve_for.new.desk.journal known so_far.2
          (rest_through asked (get_or c.args.served.now i 0) c.as_slice.result.now (list_of lists i) (c.as_slice.ensures ∙ read)) done,
    )
