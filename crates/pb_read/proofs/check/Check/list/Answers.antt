use Rattle.std.proofs.Common.{◌∙◌, [], None, ap, length, sym, subst, arith}
use Rattle.std.proofs.lemmas.List.Elements.{All-nil}
use Rattle.pb_read.proofs.Checks.{going_start, handed_done}
use Rattle.pb_read.proofs.Showing.{shows_start}
use Rattle.pb_read.specs.Inner.Checking.{AreBlamed, IsGoing}
use Rattle.pb_read.specs.Inner.Progresses.{place_of}
use Rattle.pb_read.specs.Inner.Showing.{Shows}
use Rattle.pb_read.proofs.check.Check.list.Goals as goal

pub loop-left_out-init : goal.loop-left_out-init
loop-left_out-init g c =
    let all = c.args.records.now.left in
    let none = ap length c.requires.none in
    record {
      going = λ few. subst (λ fs. IsGoing all all 0 fs (place_of c.args.self.now.progress)) (sym c.requires.none) (subst (λ p. IsGoing all all 0 [] p) (sym c.requires.at_start) (going_start all));
      listed = λ full. absurd (omega (arith, full));
      ready = c.requires.ready;
      count = none;
      few = omega arith;
      shows = subst (λ fs. Shows all all 0 fs (place_of c.args.self.now.progress) (g.W.Watch.shown c.args.watch.now) (g.W.Watch.shown c.args.watch.now)) (sym c.requires.none) (subst (λ p. Shows all all 0 [] p (g.W.Watch.shown c.args.watch.now) (g.W.Watch.shown c.args.watch.now)) (sym c.requires.at_start) (shows_start all (g.W.Watch.shown c.args.watch.now)));
      runs = λ runs. runs;
      blamed = λ runs. subst (AreBlamed None) (sym c.requires.none) (All-nil _);
    }

pub returns-in-Ok-clause-election : goal.returns-in-Ok-clause-election
returns-in-Ok-clause-election g c =
    let all = c.args.records.now.left in
    let faults = c.loop-left_out.faults.items in
    let stops = c.in-Ok.ensures.stops all faults c.loop-left_out.invariant.count (c.loop-left_out.invariant.going (omega arith)) in
    handed_done all faults c.read_to_fault.new.self.progress.draft.election c.hand_out.result stops (λ none. c.hand_out.ensures.whole (c.deref.ensures.value ∙ none)) (λ some. c.hand_out.ensures.faulty (λ none. some (sym c.deref.ensures.value ∙ none)))
