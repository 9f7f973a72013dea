use Rattle.std.proofs.Common.{◌≡◌, ◌∙◌, ◌++◌, [], ℕ, List, ap, arith, subst, sym, take}
use Rattle.std.specs.Prelude.{All, flat_map}
use Rattle.std.specs.List.{range_with_len}
use Rattle.std.proofs.lemmas.List.Elements.{All-take}
use Rattle.pb_price.proofs.BuiltLists.{range_with_len_more}
use Rattle.pb_reasons.specs.AllTies.{added_ties, all_ties, run_ties, runs_of}
use Rattle.pb_reasons.specs.CountedElection.{CountedElectionView, IsCountedElection}
use Rattle.pb_reasons.specs.Inner.AllTies.{IsTieOf}
use Rattle.pb_reasons.specs.declared.told_tie.ToldTie.{ToldTie}
use Rattle.pb_reasons.proofs.Far.{far_rows}
use Rattle.pb_reasons.proofs.KnownTies.{all_known}
use Rattle.pb_reasons.proofs.TiedRounds.{take_again}
use Rattle.pb_reasons.proofs.separated.separated.Goals as goal

pub loop-run-preserved : goal.loop-run-preserved
loop-run-preserved g c =
    let x = c.args.count.now in
    subst (λ (runs : List ℕ). c.put_run.new.told.rows.items ≡ take 100001 (flat_map (run_ties x) runs)) (sym (range_with_len_more c.loop-run.run))
    (far_rows 100001 (run_ties x) (range_with_len 0 c.loop-run.run) c.loop-run.run [] c.loop-run.told.rows.items _ c.loop-run.invariant c.in_ok-put_run.ensures)

told_all : (x : CountedElectionView) (run : ℕ) (told new : List ToldTie) → run ≡ runs_of x → told ≡ take 100001 (flat_map (run_ties x) (range_with_len 0 run))
    → new ≡ take 100001 (told ++ added_ties x) → new ≡ take 100001 (all_ties x)
unfolding all_ties
told_all x run told new all so_far put =
    put ∙ ap (λ (ts : List ToldTie). take 100001 (ts ++ added_ties x)) so_far ∙ take_again 100001 (flat_map (run_ties x) (range_with_len 0 run)) (added_ties x)
    ∙ ap (λ n. take 100001 (flat_map (run_ties x) (range_with_len 0 n) ++ added_ties x)) all

pub returns-clause-told : goal.returns-clause-told
returns-clause-told g c =
    let all : c.loop-run.run ≡ c.args.runs = omega (arith, c.loop-run-test.false, c.loop-run.auto.run-end) in
    told_all c.args.count.now c.loop-run.run c.loop-run.told.rows.items _ (all ∙ c.requires.runs) c.loop-run.invariant c.in_ok-put_added.ensures

pub returns-clause-known : goal.returns-clause-known
returns-clause-known g c =
    let x = c.args.count.now in
    let is : IsCountedElection x = c.election-election.ensures.is_counted in
    let all : c.loop-run.run ≡ c.args.runs = omega (arith, c.loop-run-test.false, c.loop-run.auto.run-end) in
    let told = told_all x c.loop-run.run c.loop-run.told.rows.items _ (all ∙ c.requires.runs) c.loop-run.invariant c.in_ok-put_added.ensures in
    subst (All (λ (t : ToldTie). IsTieOf x.election t.tie)) (sym told) (All-take (λ (t : ToldTie). IsTieOf x.election t.tie) 100001 (all_ties x) (all_known x is))
