use Rattle.std.proofs.Common.{◌≡◌, ◌++◌, ◌∙◌, [], true, ap, filter, map, option_copied, refl, sym}
use Rattle.std.specs.Str.{bytes_eq}
use Rattle.std.specs.Option.{option_map_or}
use Rattle.pb_core.specs.Election.{project_ids}
use Rattle.pb_desk.specs.Desk.{standing_of}
use Rattle.pb_rows.specs.Reading.{Fields}
use Rattle.pb_rows.specs.Writing.{text_of_row, text_of_rows}
use Rattle.pb_commands.proofs.BallotRows.{all_written, row_is, row_written, with_rest}
use Rattle.pb_commands.proofs.TableColumns.{head_put, rows_put}
use Rattle.pb_commands.specs.Ballots.{ballot_columns, ballots_table, last_given}
use Rattle.pb_commands.specs.Inner.Ballots.{ids_text, is_asked}
use Rattle.pb_commands.specs.Inner.Tables.{row_of}
use Rattle.pb_commands.proofs.ballots_table.put_ballots.Goals as goal

pub loop-id-init : goal.loop-id-init
unfolding ballots_table
loop-id-init c =
    let columns = ballot_columns c.args.desk.now in
    let p = is_asked (option_copied c.args.voter) in
    let asked = filter p (standing_of c.args.desk.now).ballots in
    let head = c.put_row.new.self.text in
    ap (with_rest (row_of columns) p head) (c.into_iter-id-iterator.ensures.into_iter_gives ∙ c.standing-id-items.ensures)
    ∙ rows_put columns [] asked c.args.rows.now.text head (head ++ text_of_rows (map (row_of columns) asked))
    (head_put columns c.args.rows.now.text head c.in_ok-put_row.ensures.text) refl

pub loop-id-preserved-in-Continue-branch-4 : goal.loop-id-preserved-in-Continue-branch-4
loop-id-preserved-in-Continue-branch-4 c =
    let d = c.args.desk.now in
    let row = row_of (ballot_columns d) in
    let p = is_asked (option_copied c.args.voter) in
    let id = c.in-Some.id.now in
    let places = c.in-Some.ballot.now in
    let asked : p (id, places) ≡ true =
    ap (λ v. option_map_or (bytes_eq v) (option_copied c.args.voter) true) (sym c.text-id.ensures.text) ∙ sym c.is_asked.ensures ∙ c.if-is_asked.true in
    let ids : c.as_str.result.now ≡ ids_text (project_ids d.opening.election) places =
    c.as_str.ensures.value ∙ (rw (c.projects-projects.ensures, c.places.ensures.places) at c.in_ok-write_ids.ensures) in
    let is = row_is d id places c.text-id.result.now c.as_str.result.now c.get.result c.text-id.ensures.text
    (c.get.ensures ∙ c.in_ok-givers.ensures c.text-id.result.now ∙ ap (λ v. last_given v d.journal) c.text-id.ensures.text) ids in
    row_written row p (id, places) c.next.new.self c.loop-id.rows.text c.put_ballot.new.rows.text asked
    (c.in_ok-put_ballot.ensures ∙ ap (λ (fields : Fields). c.loop-id.rows.text ++ text_of_row fields) is)
    ∙ ap (with_rest row p c.loop-id.rows.text) (sym c.in-Some.ensures.steps) ∙ c.loop-id.invariant

pub returns : goal.returns
returns c =
    let row = row_of (ballot_columns c.args.desk.now) in
    let p = is_asked (option_copied c.args.voter) in
    sym (all_written row p c.loop-id.rows.text) ∙ ap (with_rest row p c.loop-id.rows.text) (sym c.in-None.ensures.steps.0) ∙ c.loop-id.invariant
