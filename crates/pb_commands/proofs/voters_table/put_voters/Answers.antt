use Rattle.std.proofs.Common.{◌≡◌, ◌<◌, ◌++◌, ◌∙◌, All, List, ap, arith, length, subst, sym}
use Rattle.std.specs.List.{range_with_len}
use Rattle.pb_core.specs.Election.{VoterView}
use Rattle.pb_reasons.specs.Reasons.{voter_payments}
use Rattle.pb_reasons.specs.declared.payment.Payment.{Payment}
use Rattle.pb_rows.specs.Tables.{table_text}
use Rattle.pb_rows.specs.Writing.{text_of_row}
use Rattle.pb_commands.proofs.PaymentsInFile.{payments_known}
use Rattle.pb_commands.proofs.TableColumns.{head_put, place_put, voter_row_read}
use Rattle.pb_commands.specs.Inner.Tables.{columns_of, payments_in_file}
use Rattle.pb_commands.specs.Tables.{table_of}
use Rattle.pb_commands.specs.declared.table.Table.TheVariants.{Voters}
use Rattle.pb_commands.proofs.voters_table.put_voters.Goals as goal

pub loop-position-init : goal.loop-position-init
loop-position-init c =
    let k = c.args.count.now in record {
      same = c.in_ok-teller.ensures;
      rows = head_put (columns_of Voters k) c.args.rows.now.text c.put_row.new.self.text c.in_ok-put_row.ensures.text;
    }

pub tell-requires : goal.tell-requires
tell-requires c =
    let voters = c.voters-voters.ensures.voters ∙ ap (λ e. e.voters) c.election.ensures.election in
    let known : c.loop-position.position < length c.args.count.now.election.voters = rw (← voters) c.loop-position-test.true in
    rw c.loop-position.invariant.same known

pub put_in_file_order-requires : goal.put_in_file_order-requires
put_in_file_order-requires c =
    let k = c.args.count.now in
    let voter = c.loop-position.position in
    let voters = c.voters-voters.ensures.voters ∙ ap (λ e. e.voters) c.election.ensures.election in
    let known : voter < length k.election.voters = rw (← voters) c.loop-position-test.true in
    let told : c.tell.new.payments.items ≡ voter_payments k.election k.counted.outcome voter = rw c.loop-position.invariant.same at c.in_ok-reason.ensures.payments in
    subst (λ (ps : List Payment). All (λ (p : Payment). p.place < length k.election.projects) ps) (sym told)
    (payments_known k.election k.counted.outcome voter c.election.ensures.is_counted.is_election known)

pub loop-position-preserved : goal.loop-position-preserved
loop-position-preserved c =
    let k = c.args.count.now in
    let voter = c.loop-position.position in
    let same = c.loop-position.invariant.same in
    let voters = c.voters-voters.ensures.voters ∙ ap (λ e. e.voters) c.election.ensures.election in
    let known : voter < length k.election.voters = rw (← voters) c.loop-position-test.true in
    let row = voter_row_read k voter c.index-voters-position.result c.election.ensures.is_counted known (rw voters at c.index-voters-position.is) c.text.result.now
    (c.text.ensures.text ∙ ap (λ (v : VoterView). v.id) c.voter.view_is) c.in_ok-reason.reason (rw same at c.in_ok-reason.ensures.reason)
    c.as_slice.result.now (c.as_slice.ensures.value ∙ c.in_ok-put_in_file_order.ensures ∙ ap (payments_in_file k.order) (rw same at c.in_ok-reason.ensures.payments)) in record {
      same = c.in_ok-reason.ensures.same ∙ same;
      rows = place_put (columns_of Voters k) voter c.args.rows.now.text c.loop-position.rows.text c.put_voter.new.rows.text c.loop-position.invariant.rows
          ((rw (c.as_str.ensures.value ∙ c.in_ok-write_payments.ensures) at c.in_ok-put_voter.ensures) ∙ ap (λ fields. c.loop-position.rows.text ++ text_of_row fields) row);
    }

pub returns : goal.returns
unfolding table_of
returns c =
    let k = c.args.count.now in
    let voters = ap length (c.voters-voters.ensures.voters ∙ ap (λ e. e.voters) c.election.ensures.election) in
    let all : c.loop-position.position ≡ length k.election.voters = omega (arith, voters, c.loop-position.auto.position-end, c.loop-position-test.false) in
    c.loop-position.invariant.rows ∙ ap (λ n. c.args.rows.now.text ++ table_text (columns_of Voters k) (range_with_len 0 n)) all
