-- Which of the added projects is which.
use Rattle.std.proofs.Common.{◌≡◌, ℕ, ◌+◌, ◌<◌, List, length, get_or, ltb, sym, ◌∙◌, ap}
use Rattle.std.specs.Prelude.{All, count_by, nat_lt, slice_index}
use Rattle.pb_core.specs.Election.{ElectionView}
use Rattle.pb_rounds.specs.MostVotes.{is_taken}
use Rattle.pb_price.specs.Supporters.{ballot_at}
use Rattle.pb_reasons.specs.Counted.{CountedView}
use Rattle.pb_reasons.specs.Reasons.{voter_reason}
use Rattle.pb_reasons.specs.Inner.Numbers.{AreNumbers, number_of}
use Rattle.pb_reasons.specs.Inner.OfOutcome.{outcome_voter}
use Rattle.pb_reasons.specs.declared.voter_reason.VoterReason.{VoterReason}
use Rattle.pb_reasons.proofs.Positions.{some_has_position}
use Rattle.pb_reasons.proofs.VoterTold.{count_agree}

-- a project is added just where it has a number
pub added_has_number : (added : List ℕ) (place : ℕ) → is_taken added place ≡ ltb (number_of added place) (length added)
added_has_number = some_has_position (λ p. p)

-- as many of these places are added as have a number
pub added_are_counted : (projects : ℕ) (added numbers places : List ℕ) → AreNumbers projects added numbers
    → All (λ place. place < projects) places
    → count_by (λ place. nat_lt (slice_index numbers place) (length added)) places ≡ count_by (is_taken added) places
added_are_counted projects added numbers places are known =
    count_agree (λ place. nat_lt (slice_index numbers place) (length added)) (is_taken added) places
    (λ k d below.
    rw (are.numbered (get_or places k d) (known k d below)) (sym (added_has_number added (get_or places k d))))

-- what is told of a voter, from what is told in the outcome and from the numbers of the ballot's places
pub voter_filled : (e : ElectionView) (c : CountedView) (numbers : List ℕ) (voter : ℕ) (ballot : List ℕ)
    → AreNumbers (length e.projects) c.added numbers → ballot ≡ ballot_at e voter → All (λ place. place < length e.projects) ballot
    → (reason : VoterReason) → reason ≡ outcome_voter e c.outcome voter
    → (more added : ℕ) → added ≡ length c.added → more ≡ count_by (λ place. nat_lt (slice_index numbers place) added) ballot
    → record { votes = reason.votes; elected = reason.elected + more; paid = reason.paid; left = reason.left } ≡ voter_reason e c voter
voter_filled e c numbers voter ballot are own known reason reason_is more added added_is more_is =
    let all : more ≡ count_by (is_taken c.added) (ballot_at e voter) =
    more_is ∙ ap (λ n. count_by (λ place. nat_lt (slice_index numbers place) n) ballot) added_is
    ∙ added_are_counted (length e.projects) c.added numbers ballot are known
    ∙ ap (count_by (is_taken c.added)) own in
    ap (λ (r : VoterReason). record { votes = r.votes; elected = r.elected + more; paid = r.paid; left = r.left }) reason_is
    ∙ ap (λ n. record { votes = length (ballot_at e voter); elected = (outcome_voter e c.outcome voter).elected + n; paid = (outcome_voter e c.outcome voter).paid; left = slice_index c.outcome.rests voter }) all
