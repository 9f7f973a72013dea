use Rattle.std.proofs.Common.{◌∙◌, ◌≤◌, ap, List, length, subst, arith}
use Rattle.pb_core.specs.Request.{RequestView}
use Rattle.pb_desk.specs.Opening.{OpeningView}
use Rattle.pb_desk.specs.Replay.{most_clerks}
use Rattle.pb_desk.specs.Rows.{journal_text}
use Rattle.pb_script.specs.Inner.Serving.{ServesAll}
use Rattle.pb_script.proofs.DeskEntries.{ended_serves}
use Rattle.pb_script.proofs.Rooms.{room_for_last}
use Rattle.pb_script.proofs.Texts.{script_text}
use Rattle.pb_script.proofs.serve_script.serve_records.Goals as goal

pub ended-requires : goal.ended-requires
ended-requires g c =
    let lists = c.in-Ok.lists.items in
    let served = c.in_ok-served.field-0 in
    let count = c.in-Ok.ensures.count in
    let few : length lists ≤ most_clerks = omega (arith, count) in
    let P : List (List RequestView) → Type 0 = λ lists. ServesAll lists served.journal in
    let serves = subst P c.as_slice.ensures.value c.in_ok-served.ensures.serves in
    room_for_last lists served.journal served.room serves c.in-Ok.ensures.few few c.in_ok-served.ensures.room

pub returns-clause-ok : goal.returns-clause-ok
returns-clause-ok g c =
    let lists = c.in-Ok.lists.items in
    let served = c.in_ok-served in
    let ended = c.in_ok-desk in
    let text = c.in_ok-written.ensures in
    let P : List (List RequestView) → Type 0 = λ lists. ServesAll lists served.field-0.journal in
    let serves = subst P c.as_slice.ensures.value served.ensures.serves in
    script_text c.args.run.now.admission.now c.args.run.now.clerks lists c.args.run.now.shuts c.args.election _ ended.desk c.in_ok-written.field-0.text.items c.in-Ok.ensures.script
    (record {
      in_range = served.ensures.clerks;
      opening = ended.ensures.opening ∙ served.ensures.opening;
      room = ended.ensures.room ∙ served.ensures.room;
      serves = ended_serves c.args.run.now.shuts lists served.field-0.journal ended.desk.journal serves ended.ensures.journal;
    })
    (record { legal = text.legal; fits = text.fits; text_is = text.text })

pub returns-clause-counts : goal.returns-clause-counts
returns-clause-counts g c =
    let ended = c.in_ok-desk in
    let written = c.in_ok-written in
    let opening = ended.ensures.opening ∙ c.in_ok-served.ensures.opening in
    (ended.desk.journal, written.ensures.text ∙ ap (λ (o : OpeningView). journal_text o.version ended.desk.journal) opening, written.ensures.counts)
