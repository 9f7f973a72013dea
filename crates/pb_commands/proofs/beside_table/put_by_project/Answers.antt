use Rattle.std.proofs.Common.{◌≡◌, ◌<◌, ◌++◌, ◌∙◌, Bool, if◌then◌else◌, ap, arith, length}
use Rattle.std.specs.List.{range_with_len}
use Rattle.pb_price.specs.Supporters.{SupportView, support_of}
use Rattle.pb_rounds.specs.MostVotes.{is_taken, votes_at}
use Rattle.pb_rows.specs.Tables.{table_text}
use Rattle.pb_rows.specs.Writing.{text_of_row}
use Rattle.pb_rows.specs.declared.field.Field.TheVariants.{Amount, Number}
use Rattle.pb_commands.proofs.TableColumns.{beside_row_read, head_put, place_put}
use Rattle.pb_commands.specs.Inner.Beside.{beside_columns}
use Rattle.pb_commands.proofs.beside_table.put_by_project.Goals as goal

pub loop-place-init : goal.loop-place-init
loop-place-init c =
    let s = c.args.sides.now in
    let columns = beside_columns c.args.election.now s.rule.now s.other.now s.winners.now s.others.now in
    head_put columns c.args.rows.now.text c.put_row.new.self.text
    (rw (c.as_str.ensures.value, c.in_ok-own.ensures, c.as_str-2.ensures.value, c.in_ok-other.ensures) at c.in_ok-put_row.ensures.text)

pub loop-place-preserved : goal.loop-place-preserved
loop-place-preserved c =
    let s = c.args.sides.now in
    let e = c.args.election.now in
    let columns = beside_columns e s.rule.now s.other.now s.winners.now s.others.now in
    let place = c.loop-place.place in
    let projects = c.projects-projects.ensures.projects in
    let known : place < length e.projects = omega (arith, ap length projects, c.loop-place.auto.place-end, c.loop-place-test.true) in
    let votes : length c.of-in-loop-place.result.now ≡ votes_at (support_of e) place =
    ap length c.of-in-loop-place.ensures.supporters ∙ ap (λ (t : SupportView). votes_at t place) c.in_ok-supporters.ensures in
    let wins : c.has.result ≡ is_taken s.winners.now place = rw c.in_ok-winners.ensures at c.has.ensures in
    let otherwise : c.has-in-loop-place.result ≡ is_taken s.others.now place = rw c.in_ok-others.ensures at c.has-in-loop-place.ensures in
    let row = beside_row_read e s.rule.now s.other.now s.winners.now s.others.now place c.index-projects-place.result known (rw projects at c.index-projects-place.is)
    c.number.result c.amount.result c.flag.result c.flag-in-loop-place.result c.number.ensures (c.amount.ensures ∙ ap Amount c.cost.ensures.cost)
    (c.flag.ensures ∙ ap (λ (b : Bool). Number (if b then 1 else 0)) wins) (c.flag-in-loop-place.ensures ∙ ap (λ (b : Bool). Number (if b then 1 else 0)) otherwise)
    c.id.result.now c.name.result.now c.id.ensures.id c.name.ensures (length c.of-in-loop-place.result.now) votes in
    place_put columns place c.args.rows.now.text c.loop-place.rows.text c.put_fields.new.self.text c.loop-place.invariant
    (c.in_ok-put_fields.ensures.text ∙ ap (λ fields. c.loop-place.rows.text ++ text_of_row fields) row)

pub returns : goal.returns
returns c =
    let s = c.args.sides.now in
    let e = c.args.election.now in
    let columns = beside_columns e s.rule.now s.other.now s.winners.now s.others.now in
    let all : c.loop-place.place ≡ length e.projects = omega (arith, ap length c.projects-projects.ensures.projects, c.loop-place.auto.place-end, c.loop-place-test.false) in
    c.loop-place.invariant ∙ ap (λ n. c.args.rows.now.text ++ table_text columns (range_with_len 0 n)) all
