-- What a voter's ballot came to, and what the voters paid, in the words of their law.
use Rattle.std.proofs.Common.{◌≡◌, ℕ, zero, suc, ◌<◌, List, [], ◌∷◌, length, get_or, map, refl, sym, ◌∙◌, ap, arith, ext_get_or}
use Rattle.std.specs.Prelude.{count_by}
use Rattle.std.specs.List.{AllZip, range_with_len}
use Rattle.std.proofs.lemmas.List.{get_or-map, get_or_default, length-map}
use Rattle.std.proofs.lemmas.List.FromFn.{get_or-map-range_with_len, length-map-range_with_len}
use Rattle.pb_price.specs.Supporters.{SupportView, ballot_at, support_in}
use Rattle.pb_reasons.proofs.ChoicesWon.{choices_won}
use Rattle.pb_reasons.proofs.Due.{round_is}
use Rattle.pb_reasons.proofs.Results.{counted_is_result}
use Rattle.pb_reasons.proofs.Tellable.{counted_can_be_told}
use Rattle.pb_reasons.specs.Counted.{winners_of}
use Rattle.pb_reasons.specs.CountedElection.{CountedElectionView, IsCountedElection}
use Rattle.pb_reasons.specs.Reasons.{all_payments, paid_for, round_of, voter_reason}
use Rattle.pb_rounds.specs.MostVotes.{is_taken}
use Rattle.pb_rounds.specs.PriceSystem.{PaysFor}
use Rattle.pb_rounds.specs.Run.{ElectedView}

-- how many of a ballot's projects won
pub won_told : (x : CountedElectionView) (voter : ℕ) → IsCountedElection x
    → (voter_reason x.election x.counted voter).elected ≡ count_by (is_taken (winners_of x.counted)) (ballot_at x.election voter)
won_told x voter is = sym (choices_won x.election x.counted is.is_election (counted_is_result x is) voter)

-- a list of payments for each of the elected, with a payment of each voter
module _ (s : SupportView) (rests : List ℕ) where
  one_each : (elected : List ElectedView) (rows : List (List ℕ)) → AllZip (PaysFor s rests) elected rows → length rows ≡ length elected
  one_each [] [] all = refl
  one_each [] (row ∷ rows) all = absurd all
  one_each (w ∷ elected) [] all = absurd all
  one_each (w ∷ elected) (row ∷ rows) all = ap suc (one_each elected rows all.1)

  of_each : (elected : List ElectedView) (rows : List (List ℕ)) → AllZip (PaysFor s rests) elected rows
      → (k : ℕ) → k < length rows → length (get_or rows k []) ≡ s.voters
  of_each elected [] all k below = absurd (omega (arith, below))
  of_each [] (row ∷ rows) all k below = absurd all
  of_each (w ∷ elected) (row ∷ rows) all zero below = all.0.one_each
  of_each (w ∷ elected) (row ∷ rows) all (suc k) below = of_each elected rows all.1 k (omega (arith, below))

nobody : ElectedView
nobody = record { place = 0; price = 0; exact = record { amount = 0; payers = 1 }; collected = 0 }

module _ (x : CountedElectionView) (is : IsCountedElection x) where
  abbrev rows : List (List ℕ)
  rows = all_payments x.election x.counted.outcome

  abbrev voters : ℕ
  voters = length x.election.voters

  abbrev paid : ElectedView → List ℕ
  paid w = map (paid_for x.election x.counted.outcome w.place) (range_with_len 0 voters)

  explained : AllZip (PaysFor (support_in x.rule.options.grain x.election) x.counted.outcome.rests) x.counted.outcome.elected rows
  explained = (counted_can_be_told x is).price_system.paid

  many : length rows ≡ length x.counted.outcome.elected
  many = one_each (support_in x.rule.options.grain x.election) x.counted.outcome.rests x.counted.outcome.elected rows explained

  row_is : (k : ℕ) (w : ElectedView) → k < length x.counted.outcome.elected → get_or x.counted.outcome.elected k w ≡ w → get_or rows k [] ≡ paid w
  row_is k w below here =
      let elected = x.counted.outcome.elected in
      let numbered : round_of elected w.place ≡ k = round_is elected (counted_can_be_told x is).apart k w below here in
      let size : length (get_or rows k []) ≡ voters =
      of_each (support_in x.rule.options.grain x.election) x.counted.outcome.rests elected rows explained k (omega (arith, below, many)) in
      ext_get_or 0 (get_or rows k []) (paid w)
      (size ∙ sym (length-map-range_with_len (paid_for x.election x.counted.outcome w.place) 0 voters))
      (λ v inside. let within : v < voters = omega (arith, inside, size) in
      ap (λ (n : ℕ). get_or (get_or rows n []) v 0) (sym numbered)
      ∙ sym (get_or-map-range_with_len (paid_for x.election x.counted.outcome w.place) 0 voters v v 0 within (omega arith)))

  pub payments_are : rows ≡ map paid x.counted.outcome.elected
  payments_are =
      let elected = x.counted.outcome.elected in
      ext_get_or [] rows (map paid elected) (many ∙ sym (length-map elected paid))
      (λ k below. let within : k < length elected = omega (arith, below, many) in
      let w = get_or elected k nobody in
      row_is k w within (sym (get_or_default elected k nobody w within)) ∙ sym (get_or-map paid elected k nobody [] within))
