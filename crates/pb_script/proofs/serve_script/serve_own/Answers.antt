use Rattle.std.proofs.Common.{◌≡◌, ◌∙◌, ◌+◌, ◌<◌, ap, sym, length, [], arith}
use Rattle.std.proofs.lemmas.List.{get_or_read}
use Rattle.pb_core.specs.Request.{asked}
use Rattle.pb_shared.specs.Clerk.{SharedView}
use Rattle.pb_script.specs.Inner.Serving.{list_of}
use Rattle.pb_script.proofs.Servings.{HasServed-more, read_through}
use Rattle.pb_script.proofs.serve_script.serve_own.Goals as goal

pub loop-request-preserved : goal.loop-request-preserved
loop-request-preserved g c =
    let lists = c.args.work.now.lists.now in
    let number = c.number-number.result in
    let items = c.as_slice-request-items.result.now in
    let clerks = ap (λ (d : SharedView). d.clerks) c.requires.own in
    let known : number < length lists = omega arith in
    let read : c.index-work-number.result ≡ list_of lists number = get_or_read lists number c.index-work-number.result known c.index-work-number.is [] in
    let count = c.loop-request.invariant.0 in
    let next = read_through asked items (list_of lists number) c.loop-request.request-index c.request-item.result
    (c.as_slice-request-items.ensures ∙ sym c.index-work-number.is ∙ read) c.loop-request-test.true c.request-item.is in
    let served = rw (sym count) at next in
    let serves = c.in-Ok.ensures.ok in (
      ap (λ n. n + 1) count,
      HasServed-more c.args.shared.now number (list_of lists number) c.loop-request.clerk c.serve_within.new.clerk c.loop-request.served
          (asked c.request-item.result) c.in-Ok.field-0 100000 c.loop-request.invariant.1 c.serve_within.ensures.same serves served,
    )
