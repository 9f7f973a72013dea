-- In the order of the file an election is as it is.
use Rattle.std.proofs.Common.{◌≡◌, ◌∙◌, ◌+◌, ◌<◌, ◌∷◌, [], ℕ, suc, List, ap, arith, ext_get_or, get_or, length, map, refl, subst, sym}
use Rattle.std.specs.Prelude.{All, filter_map, slice_get, slice_index}
use Rattle.std.specs.List.{range_with_len}
use Rattle.std.specs.List.Sorted.{IsPermutation}
use Rattle.std.proofs.lemmas.List.{length-map}
use Rattle.std.proofs.lemmas.List.FromFn.{get_or-map-range_with_len, get_or-range_with_len, length-map-range_with_len, length-range_with_len}
use Rattle.std.proofs.lemmas.List.Sorted.{IsPermutation-refl}
use Rattle.pb_core.specs.Ballot.{HasSameMembers}
use Rattle.pb_core.specs.Election.{ElectionView, IsElection, IsVoter, ProjectView, VoterView}
use Rattle.pb_core.specs.Inner.Order.{AreBack, voter_in}
use Rattle.pb_core.specs.Order.{IsOrder, ballot_in, in_order}
use Rattle.pb_core.proofs.InOrder.{those_at}
use Rattle.pb_core.proofs.Members.{range_below}
use Rattle.pb_core.proofs.Orders.{ballot_is}

pub file_is_order : (n : ℕ) → IsOrder (range_with_len 0 n)
file_is_order n =
    subst (λ many. IsPermutation (range_with_len 0 many) (range_with_len 0 n)) (sym (length-range_with_len 0 n)) (IsPermutation-refl (range_with_len 0 n))

at_itself : (n k : ℕ) → k < n → slice_index (range_with_len 0 n) k ≡ k
at_itself n k below = get_or-range_with_len 0 n k 0 below ∙ omega arith

back_of_file : (n : ℕ) → AreBack (range_with_len 0 n) (range_with_len 0 n)
back_of_file n = record {
  one_each = refl;
  back = λ k below. let within : k < n = omega (arith, below, length-range_with_len 0 n) in
      ap (slice_index (range_with_len 0 n)) (at_itself n k within) ∙ at_itself n k within;
}

themselves : (n : ℕ) (ballot : List ℕ) → All (λ place. place < n) ballot → map (slice_index (range_with_len 0 n)) ballot ≡ ballot
themselves n [] known = refl
themselves n (place ∷ ballot) known =
    ap (λ first. first ∷ map (slice_index (range_with_len 0 n)) ballot) (at_itself n place (known 0 0 (omega arith)))
    ∙ ap (λ (later : List ℕ). place ∷ later) (themselves n ballot (λ k d below. known (suc k) d (omega (arith, below))))

same_ballot : (n : ℕ) (v : VoterView) → IsVoter n v → ballot_in (range_with_len 0 n) v.ballot ≡ v.ballot
same_ballot n v is =
    sym (ballot_is (range_with_len 0 n) (file_is_order n) (range_with_len 0 n) (back_of_file n) v.ballot v.ballot
    (λ k d below. omega (arith, is.ballot_known k d below, length-range_with_len 0 n)) is.ballot_rises
    (subst (λ (xs : List ℕ). HasSameMembers xs v.ballot) (sym (themselves n v.ballot is.ballot_known)) (λ x. (λ among. among, λ among. among))))

same_voters : (n : ℕ) (voters : List VoterView) → All (IsVoter n) voters → map (voter_in (range_with_len 0 n)) voters ≡ voters
same_voters n [] are = refl
same_voters n (v ∷ voters) are =
    ap (λ (ballot : List ℕ). record v { ballot = ballot } ∷ map (voter_in (range_with_len 0 n)) voters) (same_ballot n v (are 0 v (omega arith)))
    ∙ ap (λ (later : List VoterView). v ∷ later) (same_voters n voters (λ k d below. are (suc k) d (omega (arith, below))))

nothing : ProjectView
nothing = record { id = []; name = []; cost = 0 }

same_projects : (projects : List ProjectView) → filter_map (slice_get projects) (range_with_len 0 (length projects)) ≡ projects
same_projects projects =
    let n = length projects in
    those_at projects nothing (range_with_len 0 n) (range_below n)
    ∙ ext_get_or nothing (map (λ place. get_or projects place nothing) (range_with_len 0 n)) projects
    (length-map-range_with_len (λ place. get_or projects place nothing) 0 n)
    (λ k below. get_or-map-range_with_len (λ place. get_or projects place nothing) 0 n k k nothing
    (omega (arith, below, length-map-range_with_len (λ place. get_or projects place nothing) 0 n)) (omega arith))

pub in_file_order : (e : ElectionView) → IsElection e → in_order (range_with_len 0 (length e.projects)) e ≡ e
in_file_order e is =
    let n = length e.projects in
    ap (λ (projects : List ProjectView). record e { projects = projects; voters = map (voter_in (range_with_len 0 n)) e.voters }) (same_projects e.projects)
    ∙ ap (λ (voters : List VoterView). record e { voters = voters }) (same_voters n e.voters is.are_voters)
