-- What reasons tell, from what they keep.
use Rattle.std.proofs.Common.{◌≡◌, ℕ, ◌+◌, ◌-◌, ◌<◌, ◌≤◌, List, length, get_or, true, Some, None, refl, sym, ◌∙◌, ap, subst, arith}
use Rattle.std.specs.Prelude.{◌==◌, count_by, slice_index, slice_get, replicate}
use Rattle.std.proofs.lemmas.Bool.{cond-true, eq-eqb, true≢false}
use Rattle.std.proofs.lemmas.List.{get_or_default, length-map}
use Rattle.std.proofs.lemmas.List.Elements.{Contains-get_or}
use Rattle.std.proofs.lemmas.List.Sums.{count_by-le-length, fails_before_first}
use Rattle.std.proofs.lemmas.Option.{slice_get_read, slice_get_past}
use Rattle.pb_core.specs.Election.{ElectionView}
use Rattle.pb_price.proofs.SupporterLists.{support_form}
use Rattle.pb_price.specs.Grain.{in_parts}
use Rattle.pb_price.specs.Supporters.{IsSupport, cost_at, support_in, support_of, supporters_at}
use Rattle.pb_price.specs.declared.grain.Grain.{Grain}
use Rattle.pb_price.specs.Price.{total_rest}
use Rattle.pb_rounds.specs.Outcome.{OutcomeView}
use Rattle.pb_rounds.specs.Inner.Listed.{is_listed}
use Rattle.pb_rounds.specs.Run.{ElectedView}
use Rattle.pb_rounds.proofs.Listed.{listed_from_contains}
use Rattle.pb_rounds.proofs.Collected.{length-rises}
use Rattle.pb_rounds.proofs.Explained.{supporters_rise}
use Rattle.pb_reasons.specs.Reasons.{paid_for, round_of}
use Rattle.pb_reasons.specs.Inner.OfOutcome.{outcome_ending, outcome_reason}
use Rattle.pb_reasons.specs.Inner.Told.{CanBeTold}
use Rattle.pb_reasons.specs.Inner.Kept.{AreReasons, ReasonsView}
use Rattle.pb_reasons.specs.Inner.Replay.{full_payers_by_round}
use Rattle.pb_reasons.specs.declared.project_reason.Ending.{Ending}
use Rattle.pb_reasons.specs.declared.project_reason.Ending.TheVariants.{Won, Lost}
use Rattle.pb_reasons.proofs.EachGrain.{same_full_payers}
use Rattle.pb_reasons.proofs.Told.{length-full_payers_by_round, round_elects, row_at}
use Rattle.pb_reasons.proofs.VoterTold.{count_agree}

module _ (grain : Grain) (e : ElectionView) (o : OutcomeView) (r : ReasonsView) (own : AreReasons grain e o r) where
  paid_in_full : r.in_full ≡ full_payers_by_round (support_of e) (replicate (length e.voters) o.share) o.elected
  paid_in_full = own.in_full ∙ same_full_payers grain e (replicate (length e.voters) o.share) o.elected

  as_many_costs : length (support_in grain e).costs ≡ length e.projects
  as_many_costs = simp length-map

  -- the place of a project has supporters
  pub has_place : (place : ℕ) → place < length e.projects → place < length r.supporters.costs
  has_place place known = rw (own.supporters, as_many_costs) known

  pub as_many_rounds : length r.in_full ≡ length o.elected
  as_many_rounds = ap length paid_in_full ∙ length-full_payers_by_round (support_of e) (replicate (length e.voters) o.share) o.elected

  module _ (place : ℕ) (known : place < length e.projects) where
    pub round_is : slice_index r.rounds place ≡ round_of o.elected place
    round_is = own.rounds.numbered place known

    -- the supporters of an elected project who paid its price are as many as the replay counted
    in_full_is : (w : ElectedView) → w ≡ get_or o.elected (round_of o.elected place) w → round_of o.elected place < length o.elected
        → get_or r.in_full (round_of o.elected place) 0 ≡ count_by (λ voter. paid_for e o place voter == w.price) (supporters_at (support_of e) place)
    in_full_is w here below =
        let row = row_at (support_of e) (replicate (length e.voters) o.share) o.elected (round_of o.elected place) w below in
        let supporters = supporters_at (support_of e) place in
        let at : supporters_at (support_of e) (get_or o.elected (round_of o.elected place) w).place ≡ supporters = ap (supporters_at (support_of e)) (round_elects o.elected place w below) in
        let price : (get_or o.elected (round_of o.elected place) w).price ≡ w.price = ap (λ (v : ElectedView). v.price) (sym here) in
        ap (λ (l : List ℕ). get_or l (round_of o.elected place) 0) paid_in_full ∙ row.in_full_is
        ∙ ap (λ (p : ℕ). count_by (λ voter. row.due voter == p) (supporters_at (support_of e) (get_or o.elected (round_of o.elected place) w).place)) price
        ∙ ap (count_by (λ voter. row.due voter == w.price)) at
        ∙ count_agree (λ voter. row.due voter == w.price) (λ voter. paid_for e o place voter == w.price) supporters (λ k d inside.
        let v = get_or supporters k d in
        let listed : is_listed (supporters_at (support_of e) (get_or o.elected (round_of o.elected place) w).place) v ≡ true =
        ap (λ (l : List ℕ). is_listed l v) at ∙ listed_from_contains supporters v (Contains-get_or supporters k d inside) in
        ap (λ (p : ℕ). p == w.price) (sym (row.paid_is v ∙ cond-true _ _ _ listed)))

    pub round_read : (round d : ℕ) → round ≡ get_or r.rounds place d → round ≡ round_of o.elected place
    round_read round d is = is ∙ get_or_default r.rounds place d 0 (rw own.rounds.one_each known) ∙ round_is

    pub project_won : (round : ℕ) → round ≡ round_of o.elected place → round < length o.elected → (w : ElectedView) → w ≡ get_or o.elected round w
        → (supporters : List ℕ) (in_full d : ℕ) → supporters ≡ supporters_at (support_of e) place → in_full ≡ get_or r.in_full round d
        → (ending : Ending) → ending ≡ Won (record { round = round + 1; price = w.price; exact = w.exact; collected = w.collected; in_full = in_full })
        → record { votes = length supporters; ending = ending } ≡ outcome_reason grain e o place
    project_won round is below w here supporters in_full d supporters_are in_full_are ending ending_is =
        let found : slice_get o.elected (round_of o.elected place) ≡ Some w = ap (slice_get o.elected) (sym is) ∙ slice_get_read o.elected (length o.elected) round w refl below here in
        let full = in_full_are ∙ get_or_default r.in_full round d 0 (rw as_many_rounds below) ∙ ap (λ n. get_or r.in_full n 0) is
        ∙ in_full_is w (here ∙ ap (λ n. get_or o.elected n w) is) (rw (← is) below) in
        let end : ending ≡ outcome_ending grain e o place (Some w) = ending_is ∙ ap (λ n. Won (record { round = n + 1; price = w.price; exact = w.exact; collected = w.collected; in_full = in_full })) is
        ∙ ap (λ n. Won (record { round = round_of o.elected place + 1; price = w.price; exact = w.exact; collected = w.collected; in_full = n })) full in
        ap (λ (l : List ℕ). record { votes = length l; ending = ending }) supporters_are
        ∙ ap (λ (end : Ending). record { votes = length (supporters_at (support_of e) place); ending = end }) (end ∙ ap (outcome_ending grain e o place) (sym found))

    pub project_lost : (round : ℕ) → round ≡ round_of o.elected place → length o.elected ≤ round
        → (supporters rests : List ℕ) (cost : ℕ) → supporters ≡ supporters_at (support_of e) place → rests ≡ o.rests → cost ≡ in_parts grain (length e.voters) (cost_at (support_of e) place)
        → (ending : Ending) → ending ≡ Lost (record { left = total_rest supporters rests; missing = cost - total_rest supporters rests })
        → record { votes = length supporters; ending = ending } ≡ outcome_reason grain e o place
    project_lost round is past supporters rests cost supporters_are rests_are cost_is ending ending_is =
        let found : slice_get o.elected (round_of o.elected place) ≡ None = ap (slice_get o.elected) (sym is) ∙ slice_get_past o.elected round past in
        rw (ending_is, found, supporters_are, rests_are, cost_is) refl

    -- a project without a round costs more than its supporters have left
    pub too_short : CanBeTold grain e o → length o.elected ≤ round_of o.elected place
        → total_rest (supporters_at (support_of e) place) o.rests < in_parts grain (length e.voters) (cost_at (support_of e) place)
    too_short told past = told.price_system.too_expensive place (rw as_many_costs known) (λ k d below same.
        let other = fails_before_first (λ (w : ElectedView). w.place == place) o.elected k d (omega arith) in
        absurd (true≢false (sym (eq-eqb _ _ same) ∙ other)))

    -- few support it
    pub few_support : IsSupport r.supporters → (supporters : List ℕ) → supporters ≡ supporters_at (support_of e) place → length supporters ≤ length e.voters
    few_support h supporters is =
        let own_support : IsSupport (support_in grain e) = subst IsSupport own.supporters h in
        let few = length-rises (supporters_at (support_of e) place) 0 (length e.voters) (supporters_rise (support_in grain e) own_support place (rw as_many_costs known)) (omega arith) in
        rw is (omega (arith, few))

    -- few pay in full
    pub few_in_full : IsSupport r.supporters → (w : ElectedView) → w ≡ get_or o.elected (round_of o.elected place) w → round_of o.elected place < length o.elected
        → get_or r.in_full (round_of o.elected place) 0 ≤ length e.voters
    few_in_full h w here below =
        let few = few_support h (supporters_at (support_of e) place) refl in
        let all = count_by-le-length (λ voter. paid_for e o place voter == w.price) (supporters_at (support_of e) place) in
        rw (in_full_is w here below) (omega (arith, few, all))

  -- projects and voters are few
  pub few_projects : IsSupport r.supporters → (length e.projects ≤ 10000) × (length e.voters ≤ 1000000)
  few_projects h =
      let form = support_form (support_in grain e) (subst IsSupport own.supporters h) in
      (omega (arith, form.few_projects, as_many_costs), form.few_voters)
