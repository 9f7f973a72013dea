use Rattle.pb_page.proofs.Grown.{whole}
use Rattle.pb_page.proofs.RaisePlaces.{places_are_known}
use Rattle.pb_reasons.proofs.Tellable.{counted_can_be_told}
use Rattle.pb_page.proofs.made.page_ended.Goals as goal

pub returns : goal.returns
returns c = (c.args.end.now, c.requires, whole _ _ _ c.new-page.ensures.items c.in_ok-put_all.ensures)

pub invariant_of-ended : goal.invariant_of-ended
invariant_of-ended c =
    let x = c.args.count.now in
    record {
      known = places_are_known x.election x.rule.options x.counted.outcome c.args.end.now
          (counted_can_be_told x c.election-election.ensures.is_counted).known c.requires;
    }
