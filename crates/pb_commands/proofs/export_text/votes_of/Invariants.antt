use Rattle.std.proofs.Common.{◌≡◌, map}
use Rattle.std.specs.List.{range_with_len}
use Rattle.pb_core.specs.Order.{position_in}
use Rattle.pb_price.specs.Supporters.{support_of}
use Rattle.pb_rounds.specs.MostVotes.{votes_at}
use Rattle.pb_commands.proofs.export_text.votes_of.Given as goal

abbrev pub invariant-loop-place : goal.invariant-loop-place
invariant-loop-place l =
    l.votes.items ≡ map (λ place. votes_at (support_of l.count.election) (position_in l.count.order place)) (range_with_len 0 l.place)
