use Rattle.std.proofs.Common.{◌≡◌, ◌<◌, ◌+◌, ◌∙◌, ◌++◌, [], ℕ, List, Some, ap, arith, drop, get_or, length, replicate, subst, subst₂, sym, take}
use Rattle.std.specs.Prelude.{◌-◌, filter, flat_map}
use Rattle.std.specs.List.{range_with_len}
use Rattle.pb_price.proofs.BuiltLists.{range_with_len_more}
use Rattle.pb_price.proofs.SupporterLists.{known_voters, supporters_increase}
use Rattle.pb_price.specs.Price.{AreRests, HasPayers}
use Rattle.pb_price.specs.Supporters.{SupportView, support_in, supporters_at}
use Rattle.pb_rounds.proofs.BoundQueue.{charged_falls, opening_rests}
use Rattle.pb_rounds.proofs.Progress.{AreRests-charged}
use Rattle.pb_rounds.specs.MostVotes.{is_taken}
use Rattle.pb_rounds.specs.Outcome.{OutcomeView}
use Rattle.pb_rounds.specs.Run.{ElectedView, charged}
use Rattle.pb_rounds.specs.declared.measure.Measure.{Measure}
use Rattle.pb_rounds.specs.declared.rule.Rule.{Rule}
use Rattle.pb_reasons.specs.CountedElection.{IsCountedElection}
use Rattle.pb_reasons.specs.Inner.AllTies.{round_ties, told_with}
use Rattle.pb_reasons.specs.Inner.Rounds.{AreTieBounds}
use Rattle.pb_reasons.specs.Inner.TieQueue.{AreQueued}
use Rattle.pb_reasons.specs.Ties.{is_tied}
use Rattle.pb_reasons.specs.declared.told_tie.ToldTie.{ToldTie}
use Rattle.pb_reasons.proofs.AllTies.{rests_more}
use Rattle.pb_reasons.proofs.Far.{far_full, far_none, far_rows}
use Rattle.pb_reasons.proofs.Paying.{whole_part}
use Rattle.pb_reasons.proofs.RoundTies.{round_rows, run_rows, winner_bounds, winner_known, winner_payers, winner_queued}
use Rattle.pb_reasons.proofs.TieQueue.{opening_queued}
use Rattle.pb_reasons.proofs.TiedRounds.{opening_are_bounds, tie_bounds_fall}
use Rattle.pb_reasons.proofs.separated.put_rounds.Goals as goal

pub loop-before-init : goal.loop-before-init
loop-before-init g c =
    let x = c.args.count.now in
    let s = support_in x.rule.options.grain x.election in
    let o = c.args.outcome.now in
    let t = c.supporters-supporters.result.now in
    let share : c.outcome.inside.share ≡ o.share = ap (λ (v : OutcomeView). v.share) c.outcome.view_is in
    let rests : c.in_ok-rests.rests.items ≡ replicate s.voters o.share =
    c.in_ok-rests.ensures ∙ ap (λ n. replicate n c.outcome.inside.share) (c.voters.ensures.voters ∙ ap (λ (t : SupportView). t.voters) c.supporters-supporters.ensures)
    ∙ ap (replicate s.voters) share in
    let opening = rw c.projects.ensures.projects at c.in_ok-bounds.ensures in
    let measure = ap (λ (r : Rule). r.options.measure) c.rule.ensures in
    record {
      rests = rests;
      are_rests = subst (AreRests s.voters) (sym rests) (opening_rests s o.share c.requires.small);
      bounds = subst (λ (t : SupportView). AreTieBounds t [] c.in_ok-rests.rests.items c.in_ok-bounds.bounds.items)
          c.supporters-supporters.ensures (opening_are_bounds t c.in_ok-rests.rests.items c.projects.ensures.is_support c.in_ok-bounds.bounds.items opening);
      queued = subst₂ (λ (m : Measure) (t : SupportView). AreQueued m t [] c.in_ok-bounds.bounds.items c.in_ok-queue.queue.keys) measure c.supporters-supporters.ensures
          (opening_queued c.rule.result.options.measure t c.in_ok-bounds.bounds.items c.in_ok-queue.queue.keys opening c.in_ok-queue.ensures);
      told = far_none g.row.MOST c.args.told.now.rows.items c.args.told.now.few;
    }

pub returns-then-is_full : goal.returns-then-is_full
returns-then-is_full g c =
    let x = c.args.count.now in
    let o = c.args.outcome.now in
    let i = c.loop-before.before in
    let told = c.loop-before.told.rows.items in
    let old = c.args.told.now.rows.items in
    let elected : c.as_slice-elected.result.now ≡ o.elected = c.as_slice-elected.ensures.value ∙ ap (λ (v : OutcomeView). v.elected) c.outcome.view_is in
    let below : i < length o.elected = subst (λ (es : List ElectedView). i < length es) elected c.loop-before-test.true in
    let full : length told ≡ g.row.MOST = c.is_full.ensures c.if-is_full.true in
    let (more, all) : (more : ℕ) × (i + more ≡ length o.elected) = (length o.elected - i, omega (arith, below)) in
    far_full g.row.MOST (round_ties x c.args.run o.share o.elected) old told i more full c.loop-before.invariant.told
    ∙ ap (λ n. take g.row.MOST (old ++ flat_map (round_ties x c.args.run o.share o.elected) (range_with_len 0 n))) all
    ∙ ap (λ (rows : List ToldTie). take g.row.MOST (old ++ rows))
    (run_rows x c.election-election.ensures.is_counted c.args.run o.share o.elected o.rests c.requires.is_run c.requires.share)

pub index_mut-requires : goal.index_mut-requires
index_mut-requires g c =
    let x = c.args.count.now in
    let o = c.args.outcome.now in
    let i = c.loop-before.before in
    let w = c.index-elected-before.result in
    let elected : c.as_slice-elected.result.now ≡ o.elected = c.as_slice-elected.ensures.value ∙ ap (λ (v : OutcomeView). v.elected) c.outcome.view_is in
    let below : i < length o.elected = subst (λ (es : List ElectedView). i < length es) elected c.loop-before-test.true in
    let w_is : w ≡ get_or o.elected i w = c.index-elected-before.is ∙ ap (λ (es : List ElectedView). get_or es i w) elected in
    let known = winner_known x c.election-election.ensures.is_counted c.args.run o.share o.elected o.rests c.requires.is_run i w below w_is in
    let place : c.winner.inside.place ≡ w.place = ap (λ (v : ElectedView). v.place) c.winner.view_is in
    omega (arith, known, place, c.loop-before.invariant.bounds.one_each, c.loop-before.bounds.ok.0)

pub invariant_of-round-clause-known : goal.invariant_of-round-clause-known
invariant_of-round-clause-known g c =
    let x = c.args.count.now in
    let o = c.args.outcome.now in
    let i = c.loop-before.before in
    let w = c.index-elected-before.result in
    let elected : c.as_slice-elected.result.now ≡ o.elected = c.as_slice-elected.ensures.value ∙ ap (λ (v : OutcomeView). v.elected) c.outcome.view_is in
    let below : i < length o.elected = subst (λ (es : List ElectedView). i < length es) elected c.loop-before-test.true in
    let w_is : w ≡ get_or o.elected i w = c.index-elected-before.is ∙ ap (λ (es : List ElectedView). get_or es i w) elected in
    let known = winner_known x c.election-election.ensures.is_counted c.args.run o.share o.elected o.rests c.requires.is_run i w below w_is in
    let place : c.winner.inside.place ≡ w.place = ap (λ (v : ElectedView). v.place) c.winner.view_is in
    subst (λ (t : SupportView). c.winner.inside.place < length t.costs) (sym c.supporters-supporters.ensures) (omega (arith, known, place))

pub invariant_of-round-clause-payers : goal.invariant_of-round-clause-payers
invariant_of-round-clause-payers g c =
    let x = c.args.count.now in
    let o = c.args.outcome.now in
    let i = c.loop-before.before in
    let w = c.index-elected-before.result in
    let elected : c.as_slice-elected.result.now ≡ o.elected = c.as_slice-elected.ensures.value ∙ ap (λ (v : OutcomeView). v.elected) c.outcome.view_is in
    let below : i < length o.elected = subst (λ (es : List ElectedView). i < length es) elected c.loop-before-test.true in
    let w_is : w ≡ get_or o.elected i w = c.index-elected-before.is ∙ ap (λ (es : List ElectedView). get_or es i w) elected in
    let has = winner_payers x c.election-election.ensures.is_counted c.args.run o.share o.elected o.rests c.requires.is_run i w below w_is in
    subst₂ (λ (t : SupportView) (v : ElectedView). HasPayers t v.exact) (sym c.supporters-supporters.ensures) (sym c.winner.view_is) has

pub others-requires-clause-bounds : goal.others-requires-clause-bounds
others-requires-clause-bounds g c =
    let x = c.args.count.now in
    let o = c.args.outcome.now in
    let i = c.loop-before.before in
    let w = c.index-elected-before.result in
    let elected : c.as_slice-elected.result.now ≡ o.elected = c.as_slice-elected.ensures.value ∙ ap (λ (v : OutcomeView). v.elected) c.outcome.view_is in
    let below : i < length o.elected = subst (λ (es : List ElectedView). i < length es) elected c.loop-before-test.true in
    let w_is : w ≡ get_or o.elected i w = c.index-elected-before.is ∙ ap (λ (es : List ElectedView). get_or es i w) elected in
    let known = winner_known x c.election-election.ensures.is_counted c.args.run o.share o.elected o.rests c.requires.is_run i w below w_is in
    let place : c.winner.inside.place ≡ w.place = ap (λ (v : ElectedView). v.place) c.winner.view_is in
    rw (c.supporters-supporters.ensures, elected, c.deref.ensures.value, place)
    (winner_bounds (support_in x.rule.options.grain x.election) o.elected i w below w_is c.loop-before.rests.items c.loop-before.bounds.items known c.loop-before.invariant.bounds)

pub others-requires-clause-queued : goal.others-requires-clause-queued
others-requires-clause-queued g c =
    let x = c.args.count.now in
    let o = c.args.outcome.now in
    let i = c.loop-before.before in
    let w = c.index-elected-before.result in
    let elected : c.as_slice-elected.result.now ≡ o.elected = c.as_slice-elected.ensures.value ∙ ap (λ (v : OutcomeView). v.elected) c.outcome.view_is in
    let below : i < length o.elected = subst (λ (es : List ElectedView). i < length es) elected c.loop-before-test.true in
    let w_is : w ≡ get_or o.elected i w = c.index-elected-before.is ∙ ap (λ (es : List ElectedView). get_or es i w) elected in
    let known = winner_known x c.election-election.ensures.is_counted c.args.run o.share o.elected o.rests c.requires.is_run i w below w_is in
    let place : c.winner.inside.place ≡ w.place = ap (λ (v : ElectedView). v.place) c.winner.view_is in
    rw (c.rule.ensures, c.supporters-supporters.ensures, place)
    (winner_queued (support_in x.rule.options.grain x.election) o.elected i w below w_is c.loop-before.rests.items c.loop-before.bounds.items known c.loop-before.invariant.bounds
    x.rule.options.measure c.loop-before.queue.keys c.loop-before.invariant.queued)

pub of-requires : goal.of-requires
of-requires g c =
    let x = c.args.count.now in
    let o = c.args.outcome.now in
    let i = c.loop-before.before in
    let w = c.index-elected-before.result in
    let elected : c.as_slice-elected.result.now ≡ o.elected = c.as_slice-elected.ensures.value ∙ ap (λ (v : OutcomeView). v.elected) c.outcome.view_is in
    let below : i < length o.elected = subst (λ (es : List ElectedView). i < length es) elected c.loop-before-test.true in
    let w_is : w ≡ get_or o.elected i w = c.index-elected-before.is ∙ ap (λ (es : List ElectedView). get_or es i w) elected in
    let known = winner_known x c.election-election.ensures.is_counted c.args.run o.share o.elected o.rests c.requires.is_run i w below w_is in
    let place : c.winner.inside.place ≡ w.place = ap (λ (v : ElectedView). v.place) c.winner.view_is in
    subst (λ (t : SupportView). c.winner.inside.place < length t.costs) (sym c.supporters-supporters.ensures) (omega (arith, known, place))

pub pay-requires-clause-known : goal.pay-requires-clause-known
pay-requires-clause-known g c =
    let x = c.args.count.now in
    let o = c.args.outcome.now in
    let i = c.loop-before.before in
    let w = c.index-elected-before.result in
    let t = c.supporters-supporters.result.now in
    let elected : c.as_slice-elected.result.now ≡ o.elected = c.as_slice-elected.ensures.value ∙ ap (λ (v : OutcomeView). v.elected) c.outcome.view_is in
    let below : i < length o.elected = subst (λ (es : List ElectedView). i < length es) elected c.loop-before-test.true in
    let w_is : w ≡ get_or o.elected i w = c.index-elected-before.is ∙ ap (λ (es : List ElectedView). get_or es i w) elected in
    let known = winner_known x c.election-election.ensures.is_counted c.args.run o.share o.elected o.rests c.requires.is_run i w below w_is in
    let place : c.winner.inside.place ≡ w.place = ap (λ (v : ElectedView). v.place) c.winner.view_is in
    let here : c.winner.inside.place < length t.costs =
    subst (λ (t : SupportView). c.winner.inside.place < length t.costs) (sym c.supporters-supporters.ensures) (omega (arith, known, place)) in
    known_voters t c.of.ensures.is_support c.winner.inside.place here c.of.result.now c.deref_mut.result.now c.of.ensures.supporters
    (ap length c.deref_mut.ensures.value ∙ c.loop-before.invariant.are_rests.one_each ∙ sym (ap (λ (t : SupportView). t.voters) c.supporters-supporters.ensures))

pub pay-requires-clause-rise : goal.pay-requires-clause-rise
pay-requires-clause-rise g c =
    let x = c.args.count.now in
    let o = c.args.outcome.now in
    let i = c.loop-before.before in
    let w = c.index-elected-before.result in
    let t = c.supporters-supporters.result.now in
    let elected : c.as_slice-elected.result.now ≡ o.elected = c.as_slice-elected.ensures.value ∙ ap (λ (v : OutcomeView). v.elected) c.outcome.view_is in
    let below : i < length o.elected = subst (λ (es : List ElectedView). i < length es) elected c.loop-before-test.true in
    let w_is : w ≡ get_or o.elected i w = c.index-elected-before.is ∙ ap (λ (es : List ElectedView). get_or es i w) elected in
    let known = winner_known x c.election-election.ensures.is_counted c.args.run o.share o.elected o.rests c.requires.is_run i w below w_is in
    let place : c.winner.inside.place ≡ w.place = ap (λ (v : ElectedView). v.place) c.winner.view_is in
    let here : c.winner.inside.place < length t.costs =
    subst (λ (t : SupportView). c.winner.inside.place < length t.costs) (sym c.supporters-supporters.ensures) (omega (arith, known, place)) in
    supporters_increase t c.of.ensures.is_support c.winner.inside.place here c.of.result.now c.of.ensures.supporters

pub loop-before-preserved : goal.loop-before-preserved
loop-before-preserved g c =
    let x = c.args.count.now in
    let is : IsCountedElection x = c.election-election.ensures.is_counted in
    let s = support_in x.rule.options.grain x.election in
    let m = x.rule.options.measure in
    let o = c.args.outcome.now in
    let i = c.loop-before.before in
    let w = c.index-elected-before.result in
    let t = c.supporters-supporters.result.now in
    let es = c.as_slice-elected.result.now in
    let rests = c.loop-before.rests.items in
    let start = replicate s.voters o.share in
    let supporters = c.supporters-supporters.ensures in
    let elected : es ≡ o.elected = c.as_slice-elected.ensures.value ∙ ap (λ (v : OutcomeView). v.elected) c.outcome.view_is in
    let below : i < length o.elected = subst (λ (es : List ElectedView). i < length es) elected c.loop-before-test.true in
    let w_is : w ≡ get_or o.elected i w = c.index-elected-before.is ∙ ap (λ (es : List ElectedView). get_or es i w) elected in
    let place : c.winner.inside.place ≡ w.place = ap (λ (v : ElectedView). v.place) c.winner.view_is in
    let price : c.winner.inside.price ≡ w.price = ap (λ (v : ElectedView). v.price) c.winner.view_is in
    let long : length c.pay.new.rests ≡ c.loop-before.rests.len = omega (arith, c.pay.auto.rests, ap length c.deref_mut.ensures.value, c.loop-before.rests.ok.0) in
    let whole = whole_part c.loop-before.rests.len c.pay.new.rests (drop (length c.pay.new.rests) rests) long in
    let supporters_are : c.of.result.now ≡ supporters_at s w.place =
    c.of.ensures.supporters ∙ ap (λ (t : SupportView). supporters_at t c.winner.inside.place) supporters ∙ ap (supporters_at s) place in
    let charged_is : c.pay.new.rests ≡ charged (supporters_at s w.place) w.price rests =
    rw (supporters_are, price, c.deref_mut.ensures.value) at c.pay.ensures.rests in
    let winner : ElectedView = record { place = c.winner.inside.place; price = c.winner.inside.price; exact = c.winner.inside.exact; collected = c.winner.inside.collected } in
    let tied : Measure → SupportView → List ElectedView → List ℕ → ElectedView → List ℕ =
    λ m t es rests v. filter (is_tied m t (take (i + 1) es) rests v) (range_with_len 0 (length t.costs)) in
    let others_are : c.as_slice.result.now ≡ tied m s o.elected rests w =
    c.as_slice.ensures.value ∙ c.in_ok-others.ensures.others
    ∙ ap (λ (r : Rule). tied r.options.measure t es c.deref.result.now winner) c.rule.ensures
    ∙ ap (λ (t : SupportView). tied m t es c.deref.result.now winner) supporters
    ∙ ap (λ (es : List ElectedView). tied m s es c.deref.result.now winner) elected
    ∙ ap (λ (rests : List ℕ). tied m s o.elected rests winner) c.deref.ensures.value
    ∙ ap (tied m s o.elected rests) c.winner.view_is in
    let first : ℕ → ToldTie = λ p. record { run = c.args.run; number = i + 1; tie = record { round = Some (i + 1); winner = p; other = p } } in
    let first_is : c.first_of-first.result ≡ first w.place = c.first_of-first.ensures ∙ ap first place in
    let rows : told_with x c.first_of-first.result (is_taken c.as_slice.result.now) ≡ round_ties x c.args.run o.share o.elected i =
    ap (λ (f : ToldTie). told_with x f (is_taken c.as_slice.result.now)) first_is
    ∙ ap (λ (others : List ℕ). told_with x (first w.place) (is_taken others)) others_are
    ∙ round_rows x is c.args.run o.share o.elected i w below w_is rests c.loop-before.invariant.rests in
    let put : c.put_others.new.told.rows.items ≡ take g.row.MOST (c.loop-before.told.rows.items ++ round_ties x c.args.run o.share o.elected i) =
    c.in_ok-put_others.ensures ∙ ap (λ (rows : List ToldTie). take g.row.MOST (c.loop-before.told.rows.items ++ rows)) rows in
    record {
      rests = rw whole (charged_is ∙ ap (charged (supporters_at s w.place) w.price) c.loop-before.invariant.rests
          ∙ sym (rests_more s start o.elected i w below w_is));
      are_rests = rw (whole, charged_is) (AreRests-charged s.voters (supporters_at s w.place) w.price rests c.loop-before.invariant.are_rests);
      bounds = rw (whole, charged_is) (tie_bounds_fall s (take (i + 1) o.elected) rests (charged (supporters_at s w.place) w.price rests)
          (charged_falls (supporters_at s w.place) w.price rests) _ (rw (supporters, elected, c.deref.ensures.value) at c.in_ok-others.ensures.bounds));
      queued = rw (c.rule.ensures, supporters) at c.in_ok-others.ensures.queued;
      told = subst (λ (ns : List ℕ). c.put_others.new.told.rows.items ≡ take g.row.MOST (c.args.told.now.rows.items ++ flat_map (round_ties x c.args.run o.share o.elected) ns))
          (sym (range_with_len_more i))
          (far_rows g.row.MOST (round_ties x c.args.run o.share o.elected) (range_with_len 0 i) i c.args.told.now.rows.items c.loop-before.told.rows.items _ c.loop-before.invariant.told put);
    }

pub returns : goal.returns
returns g c =
    let x = c.args.count.now in
    let o = c.args.outcome.now in
    let elected : c.as_slice-elected.result.now ≡ o.elected = c.as_slice-elected.ensures.value ∙ ap (λ (v : OutcomeView). v.elected) c.outcome.view_is in
    let own : c.loop-before.before ≡ length c.as_slice-elected.result.now = omega (arith, c.loop-before-test.false, c.loop-before.auto.before-end) in
    let all : c.loop-before.before ≡ length o.elected = own ∙ ap (λ (es : List ElectedView). length es) elected in
    c.loop-before.invariant.told
    ∙ ap (λ n. take g.row.MOST (c.args.told.now.rows.items ++ flat_map (round_ties x c.args.run o.share o.elected) (range_with_len 0 n))) all
    ∙ ap (λ (rows : List ToldTie). take g.row.MOST (c.args.told.now.rows.items ++ rows))
    (run_rows x c.election-election.ensures.is_counted c.args.run o.share o.elected o.rests c.requires.is_run c.requires.share)
