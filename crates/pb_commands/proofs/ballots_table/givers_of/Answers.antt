use Rattle.std.proofs.Common.{◌≡◌, ◌+◌, ◌-◌, ◌<◌, ◌∙◌, ap, length, option_and_then, option_copied, slice_get, refl, arith}
use Rattle.std.specs.FinMap as finite
use Rattle.pb_core.specs.Request.{EntryView}
use Rattle.pb_commands.proofs.LastGiven.{giver_noted, givers_start, none_noted}
use Rattle.pb_commands.specs.Ballots.{given_to}
use Rattle.pb_commands.proofs.ballots_table.givers_of.Goals as goal
use Rattle.pb_commands.proofs.ballots_table.givers_of.Goals.{in-Some+in_ok-insert, in_default}

pub loop-index-init : goal.loop-index-init
loop-index-init c = givers_start c.new-givers.result c.new-givers.ensures

pub loop-index-preserved : goal.loop-index-preserved
loop-index-preserved c =
    let journal = c.args.desk.now.journal in
    let i = c.loop-index.index in
    let below : i < length journal = rw (← c.entries-index-end.ensures.entries) c.loop-index-test.true in
    let place : i + 1 - 1 ≡ i = omega arith in
    let read : option_copied c.given_by.result ≡ option_and_then (λ (x : EntryView). given_to x.answer x.request) (slice_get journal i) =
    c.given_by.ensures ∙ ap (λ n. option_and_then (λ (x : EntryView). given_to x.answer x.request) (slice_get journal n)) place in
    elim c.match-given_by.branch [
      | in-Some+in_ok-insert w ↦
          giver_noted journal i c.loop-index.givers below c.loop-index.invariant c.match-given_by.givers w.in-Some.voter.now (i + 1)
          (rw w.in-Some.is at read) refl
          (w.givers-is ∙ w.in_ok-insert.ensures.ok ∙ ap (λ v. finite.insert c.loop-index.givers v (i + 1)) w.text.ensures.text)
      | in_default w ↦
          none_noted journal i c.loop-index.givers below c.loop-index.invariant c.match-given_by.givers
          (rw w.in_default.is at read) w.givers-is
    ]
