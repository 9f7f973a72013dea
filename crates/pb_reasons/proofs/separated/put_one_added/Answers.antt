use Rattle.std.proofs.Common.{◌≡◌, ◌<◌, ◌+◌, ◌∙◌, ◌++◌, ℕ, List, None, ap, arith, length, map, refl, slice_index, slice_index_or, subst, sym, take}
use Rattle.std.specs.Prelude.{OnOk, filter}
use Rattle.std.specs.List.{range_with_len}
use Rattle.std.proofs.lemmas.List.{length-map, take_at}
use Rattle.pb_price.specs.Supporters.{SupportView, support_of}
use Rattle.pb_rounds.specs.MostVotes.{is_taken}
use Rattle.pb_rounds.specs.Outcome.{OutcomeView}
use Rattle.pb_rounds.specs.Run.{ElectedView}
use Rattle.pb_reasons.specs.Counted.{winners_of}
use Rattle.pb_reasons.specs.CountedElection.{IsCountedElection}
use Rattle.pb_reasons.specs.Inner.AllTies.{is_equal_to, ties_at_added, told_with}
use Rattle.pb_reasons.specs.declared.told_tie.ToldTie.{ToldTie}
use Rattle.pb_reasons.proofs.KnownTies.{added_are_known}
use Rattle.pb_reasons.proofs.RoundTies.{added_rows, front_taken}
use Rattle.pb_reasons.proofs.separated.put_one_added.Goals as goal

pub equals-requires : goal.equals-requires
equals-requires g c =
    let x = c.args.count.now in
    let is : IsCountedElection x = c.election-election.ensures.is_counted in
    let at : slice_index_or x.counted.added c.args.number 0 < length x.election.projects = added_are_known x is c.args.number 0 c.requires.known in
    let costs : length (support_of x.election).costs ≡ length x.election.projects = simp length-map in
    let known : slice_index_or x.counted.added c.args.number 0 < length (support_of x.election).costs = omega (arith, at, costs) in
    record { known = rw (c.added.ensures, c.supporters.ensures) known }

pub returns-then-is_full : goal.returns-then-is_full
returns-then-is_full g c = sym (take_at c.args.told.now.rows.items _ g.row.MOST (c.is_full.ensures c.if-is_full.true))

pub returns : goal.returns
returns g c =
    let x = c.args.count.now in
    let is : IsCountedElection x = c.election-election.ensures.is_counted in
    let number = c.args.number in
    let s = support_of x.election in
    let winner = slice_index x.counted.added number in
    let taken = take (c.len-elected.result + number + 1) c.winners.result.now in
    let raised : c.behind-count-2.inside.raised ≡ x.counted.outcome.raised = ap (λ (o : OutcomeView). o.raised) (c.behind-count-2.view_is ∙ c.outcome-2.ensures.outcome) in
    let row : ℕ → List ℕ → ToldTie = λ run added. record {
      run = run;
      number = number + 1;
      tie = record { round = None; winner = slice_index_or added number 0; other = slice_index_or added number 0 };
    } in
    let first_is : c.first_of-first.result ≡ row x.counted.outcome.raised x.counted.added =
    c.first_of-first.ensures ∙ ap (λ run. row run c.added.result.now) raised ∙ ap (row x.counted.outcome.raised) c.added.ensures in
    let others_are : c.as_slice.result.now ≡ filter (is_equal_to s taken winner) (range_with_len 0 (length s.costs)) =
    c.as_slice.ensures.value ∙ c.in_ok-others.ensures
    ∙ ap (λ (t : SupportView). filter (is_equal_to t taken (slice_index_or c.added.result.now number 0)) (range_with_len 0 (length t.costs))) c.supporters.ensures
    ∙ ap (λ (added : List ℕ). filter (is_equal_to s taken (slice_index_or added number 0)) (range_with_len 0 (length s.costs))) c.added.ensures in
    let elected = map (λ (w : ElectedView). w.place) x.counted.outcome.elected in
    let own : c.len-elected.result ≡ length c.behind-count.inside.elected.items = omega (arith, c.len-elected.ensures, c.behind-count.inside.elected.ok.0) in
    let long : c.len-elected.result ≡ length x.counted.outcome.elected = own ∙ ap (λ (o : OutcomeView). length o.elected) (c.behind-count.view_is ∙ c.outcome.ensures.outcome) in
    let as_long = length-map x.counted.outcome.elected (λ (w : ElectedView). w.place) in
    let taken_are : taken ≡ winners_of (record x.counted { added = take (number + 1) x.counted.added }) =
    ap (take (c.len-elected.result + number + 1)) c.winners.ensures
    ∙ front_taken elected x.counted.added (c.len-elected.result + number + 1) (number + 1) (omega (arith, long, as_long)) in
    let rows : told_with x c.first_of-first.result (is_taken c.as_slice.result.now) ≡ ties_at_added x number =
    ap (λ (f : ToldTie). told_with x f (is_taken c.as_slice.result.now)) first_is
    ∙ ap (λ (others : List ℕ). told_with x (row x.counted.outcome.raised x.counted.added) (is_taken others)) others_are
    ∙ added_rows x is number winner taken taken_are refl in
    subst (λ (rows : List ToldTie). OnOk c.put_others-put.result (c.put_others-put.new.told.rows.items ≡ take g.row.MOST (c.args.told.now.rows.items ++ rows))) rows c.put_others-put.ensures
