-- What is true of the supporters of every election. Only private contracts and proofs speak of it.
use Rattle.std.specs.Prelude.{◌≡◌, ◌<◌, ◌≤◌, ◌^◌, length, All}
use Rattle.std.specs.List.Sorted.{IsStrictlyIncreasing}
use Rattle.pb_core.specs.Election.{most_projects, most_voters}
use Rattle.pb_core.specs.Money.{largest_money}
use Rattle.pb_price.specs.Grain.{in_parts}
use Rattle.pb_price.specs.Supporters.{SupportView}

-- few voters and projects, and costs within their limits; supporters are voters, and rise, so that they are no more
pub record HasSupportForm (s : SupportView) : Type 0 where
  pub few_voters : s.voters ≤ most_voters
  pub few_projects : length s.costs ≤ most_projects
  pub paired : length s.supporters ≡ length s.costs
  pub costs_positive : All (λ cost. 0 < cost) s.costs
  pub costs_bounded : All (λ cost. cost ≤ largest_money) s.costs
  pub costs_fit : All (λ cost. in_parts s.grain s.voters cost < 2 ^ 64) s.costs
  pub supporters_rise : All IsStrictlyIncreasing s.supporters
  pub supporters_few : All (λ supporters. length supporters ≤ s.voters) s.supporters
  pub supporters_known : All (All (λ voter. voter < s.voters)) s.supporters
