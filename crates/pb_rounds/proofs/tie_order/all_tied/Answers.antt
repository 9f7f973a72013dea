use Rattle.std.proofs.Common.{◌≡◌, ◌∙◌, ◌++◌, ◌∷◌, [], ℕ, List, ap, arith, length, map, sym}
use Rattle.std.specs.List.{range_with_len}
use Rattle.std.proofs.lemmas.List.FromFn.{map-range_with_len_more}
use Rattle.pb_price.specs.Supporters.{SupportView, cost_at, support_of}
use Rattle.pb_rounds.specs.Inner.Tied.{keyed, tied_of}
use Rattle.pb_rounds.specs.MostVotes.{votes_at}
use Rattle.pb_rounds.specs.declared.tie_order.Tied.{Tied}
use Rattle.pb_rounds.specs.declared.tie_rule.TieKeys.{TieKeys}
use Rattle.pb_rounds.proofs.tie_order.all_tied.Goals as goal

same_tied : {votes own_votes cost own_cost : ℕ} {lot own_lot : List ℕ} (k : TieKeys) (place : ℕ) → votes ≡ own_votes → cost ≡ own_cost → lot ≡ own_lot
    → keyed k votes cost place lot ≡ keyed k own_votes own_cost place own_lot
same_tied {own_votes = v} {cost = c} {own_cost = d} {lot = l} k place votes cost lot =
    ap (λ x. keyed k x c place l) votes ∙ ap (λ x. keyed k v x place l) cost ∙ ap (λ x. keyed k v d place x) lot

pub loop-place-preserved : goal.loop-place-preserved
loop-place-preserved c =
    let e = c.args.election.now in
    let ties = c.args.ties.now in
    let place = c.loop-place.place in
    let so_far : List Tied = map (tied_of ties e) (range_with_len 0 place) in
    let votes : length c.of-votes.result.now ≡ votes_at (support_of e) place =
    ap (λ (xs : List ℕ). length xs) c.of-votes.ensures.supporters ∙ ap (λ (s : SupportView). votes_at s place) c.in_ok-supporters.ensures in
    let cost : c.cost-in-loop-place.inside.0 ≡ cost_at (support_of e) place =
    c.cost-in-loop-place.view_is ∙ c.cost.ensures.cost ∙ ap (λ (s : SupportView). cost_at s place) c.in_ok-supporters.ensures in
    let one : c.keyed.result ≡ tied_of ties e place = c.keyed.ensures ∙ same_tied ties.keys place votes cost c.drawn_at-lot.ensures in
    c.in_ok-push.ensures.items ∙ ap (λ (ts : List Tied). ts ++ c.keyed.result ∷ []) c.loop-place.invariant
    ∙ ap (λ (t : Tied). so_far ++ t ∷ []) one ∙ sym (map-range_with_len_more (tied_of ties e) 0 place place (omega arith))
