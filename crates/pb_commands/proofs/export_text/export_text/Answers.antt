use Rattle.std.proofs.Common.{◌≡◌, ◌∙◌, ◌++◌, ℕ, List, ap, length, map, refl, string_bytes, sym}
use Rattle.std.specs.List.{range_with_len}
use Rattle.std.proofs.lemmas.List.{length-map}
use Rattle.std.proofs.lemmas.List.FromFn.{length-map-range_with_len}
use Rattle.pb_core.specs.Election.{ElectionView}
use Rattle.pb_core.specs.Order.{position_in}
use Rattle.pb_export.specs.declared.further.Further.{Further}
use Rattle.pb_price.specs.Supporters.{support_of}
use Rattle.pb_reasons.proofs.Sorted.{led_back}
use Rattle.pb_reasons.specs.Counted.{is_selected}
use Rattle.pb_reasons.specs.CountedElection.{in_file}
use Rattle.pb_rounds.specs.MostVotes.{votes_at}
use Rattle.pb_rounds.specs.RuleNames.{rule_text, rule_word}
use Rattle.pb_rounds.specs.declared.rule.Rule.{Rule}
use Rattle.pb_faults.specs.Fault.{merged}
use Rattle.pb_faults.specs.declared.fault.AppFault.TheVariants.{Export}
use Rattle.pb_commands.proofs.Accepted.{given_fault}
use Rattle.pb_commands.proofs.Exports.{filed_many, stopped_by, written_file}
use Rattle.pb_commands.specs.Inner.Exporting.{IsStopped, own_comment}
use Rattle.pb_commands.proofs.export_text.export_text.Goals as goal

pub write_pb-requires-clause-votes : goal.write_pb-requires-clause-votes
write_pb-requires-clause-votes c =
    let x = c.args.count in
    let is = c.election-election.ensures.is_counted in
    ap length (c.as_slice.ensures.value ∙ c.in_ok-votes.ensures) ∙ length-map (in_file x) (votes_at (support_of x.election))
    ∙ length-map-range_with_len (position_in x.order) 0 (length x.election.projects)
    ∙ sym (ap (λ (e : ElectionView). length e.projects) c.in_ok-election.ensures ∙ filed_many x.order x.election is.is_order is.one_each)

pub write_pb-requires-clause-selected : goal.write_pb-requires-clause-selected
write_pb-requires-clause-selected c =
    let x = c.args.count in
    let is = c.election-election.ensures.is_counted in
    ap length (c.as_slice-2.ensures.value ∙ c.in_ok-selected.ensures) ∙ length-map (in_file x) (is_selected x.counted)
    ∙ length-map-range_with_len (position_in x.order) 0 (length x.election.projects)
    ∙ sym (ap (λ (e : ElectionView). length e.projects) c.in_ok-election.ensures ∙ filed_many x.order x.election is.is_order is.one_each)

pub returns-clause-ok : goal.returns-clause-ok
returns-clause-ok c e election is_put =
    let x = c.args.count in
    let is = c.election-election.ensures.is_counted in
    let decided = c.args.decided.now in
    let own = string_bytes c.args.carried.now.further.comment in
    let is_own = c.comment.ensures ∙ ap (λ (k : Further). string_bytes k.comment) c.in_ok-further.ensures.further in
    let file = c.in_ok-election.ensures ∙ led_back x.rule.ties e x.election x.order election is_put in
    record {
      told = (
        x,
        (refl, is_put, (x.counted.outcome, is.is_count, is.is_filled_up)),
        written_file _ e _ (rule_word x.rule.options.completion x.rule.fill_up) _ ((rule_text x.rule ++ own_comment decided) ++ own_comment own)
            _ (map (votes_at (support_of x.election)) (in_file x)) _ (map (is_selected x.counted) (in_file x)) _ c.args.carried.now.further _
            file (c.word.ensures ∙ ap (λ (r : Rule). rule_word r.options.completion r.fill_up) c.rule-rule.ensures)
            (c.as_str.ensures.value ∙ c.in_ok-comment.ensures ∙ ap (λ (r : Rule). (rule_text r ++ own_comment decided) ++ own_comment c.comment.result.now) c.rule-rule.ensures
            ∙ ap (λ (t : List ℕ). (rule_text x.rule ++ own_comment decided) ++ own_comment t) is_own)
            (c.as_slice.ensures.value ∙ c.in_ok-votes.ensures) (c.as_slice-2.ensures.value ∙ c.in_ok-selected.ensures) c.in_ok-further.ensures.further
            c.in_ok-text.ensures.text,
      );
      can = rw file at c.in_ok-text.ensures.ok;
      reads_back = rw file at c.in_ok-text.ensures.reads_back;
    }

pub returns-in_err-text-clause-fault : goal.returns-in_err-text-clause-fault
returns-in_err-text-clause-fault c e election is_put =
    let x = c.args.count in
    let file = c.in_ok-election.ensures ∙ led_back x.rule.ties e x.election x.order election is_put in
    let fault = c.in_err-text.field-0.0 in
    given_fault (IsStopped e) c.from_residual-in_err-text.result (merged (Export fault)) c.from_residual-in_err-text.ensures.1
    (stopped_by e fault (rw file at c.in_err-text.ensures.fault))
