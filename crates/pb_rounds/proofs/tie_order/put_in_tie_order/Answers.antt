use Rattle.std.proofs.Common.{◌≡◌, ◌∙◌, List, ap, length}
use Rattle.std.specs.List.{range_with_len}
use Rattle.std.proofs.lemmas.List.FromFn.{length-range_with_len}
use Rattle.std.proofs.lemmas.List.Sorted.{length_permutation}
use Rattle.pb_core.specs.Election.{ProjectView}
use Rattle.pb_rounds.proofs.TieOrders.{file_is_tie_order, ok_file, ok_same}
use Rattle.pb_rounds.proofs.tie_order.put_in_tie_order.Goals as goal

pub put_in_order-requires : goal.put_in_order-requires
put_in_order-requires c =
    let n = length c.args.election.now.projects in
    length_permutation (range_with_len 0 n) c.in_ok-order.order c.in_ok-order.ensures.each_once ∙ length-range_with_len 0 n

pub returns-then-is_file-clause-order : goal.returns-then-is_file-clause-order
returns-then-is_file-clause-order c =
    let e = c.args.election.now in
    let ties = c.args.ties.now in
    let many : length c.projects-projects.result.now ≡ length e.projects = ap (λ (ps : List ProjectView). length ps) c.projects-projects.ensures.projects in
    ok_file ties e (length c.projects-projects.result.now) c.file_order.result many
    (file_is_tie_order ties e (c.is_file.ensures.keys c.if-is_file.true) (c.is_file.ensures.lot c.if-is_file.true)) c.file_order.ensures

pub returns-then-is_file-clause-sorted : goal.returns-then-is_file-clause-sorted
returns-then-is_file-clause-sorted c =
    let e = c.args.election.now in
    let many : length c.projects-projects.result.now ≡ length e.projects = ap (λ (ps : List ProjectView). length ps) c.projects-projects.ensures.projects in
    ok_same e (length c.projects-projects.result.now) c.file_order.result many c.projects-projects.ensures.is_election c.file_order.ensures
