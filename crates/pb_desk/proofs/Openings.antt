-- The ballots that a desk opens with.
use Rattle.std.proofs.Common.{◌≡◌, ◌≢◌, ℕ, zero, suc, ◌+◌, ◌<◌, List, [], ◌∷◌, ◌++◌, length, map, take, get_or, slice_get, All, Some, None, refl, sym, ap, ◌∙◌, arith}
use Rattle.std.specs.Map.{lookup}
use Rattle.std.specs.Option.{option_map}
use Rattle.std.specs.Str.{bytes_eq}
use Rattle.std.proofs.lemmas.Bool.{false_from_ne_true}
use Rattle.std.proofs.lemmas.List.{get_or-map, get_or-take, length-map, length-take, take_more}
use Rattle.std.proofs.lemmas.List.Elements.{All-head, All-map, All-tail, All-weaker}
use Rattle.std.proofs.lemmas.Map.{NonePasses, lookup-none}
use Rattle.std.proofs.lemmas.Slice.Eq.{bytes_eq-Decides}
use Rattle.pb_core.specs.Inner.Ids.{AreDistinct}
use Rattle.pb_core.specs.Election.{ElectionView, VoterView, IsElection, IsVoter}
use Rattle.pb_core.specs.Request.{EntryView}
use Rattle.pb_desk.specs.Inner.Desk.{AreKnown, IsStanding}
use Rattle.pb_desk.specs.Inner.Opening.{opened}
use Rattle.pb_desk.specs.Inner.Legal.{ballots_of}
use Rattle.pb_desk.specs.Inner.Sources.{ballots_at, found_at, opened_from, AreFound, AreSources, IsInOrder}
use Rattle.pb_desk.specs.declared.source.Source.{Source}
use Rattle.pb_desk.specs.declared.source.Source.TheVariants.{Opening}
use Rattle.pb_desk.proofs.Sources.{ballot_is, found_is}

-- the list in which no key is the id of a later one
NonePasses-before : (place : ℕ) (voters : List VoterView) (v : VoterView) → All (λ u. u.id ≢ v.id) voters → NonePasses (bytes_eq v.id) (opened_from place voters)
NonePasses-before place [] v differ = tt
NonePasses-before place (u ∷ us) v differ = (
  false_from_ne_true (bytes_eq v.id u.id) (λ same. All-head (λ (w : VoterView). w.id ≢ v.id) u us differ (sym ((bytes_eq-Decides v.id u.id).0 same))),
  NonePasses-before (suc place) us v (All-tail (λ (w : VoterView). w.id ≢ v.id) u us differ),
)

-- where ids are distinct, the voters before the one at k have other ids than it
differ_before : (voters : List VoterView) (k : ℕ) (d : VoterView) → AreDistinct (map (λ v. v.id) voters) → k < length voters →
    All (λ u. u.id ≢ (get_or voters k d).id) (take k voters)
differ_before voters k d distinct below =
    λ i x before same.
    let ik : i < k = omega (arith, length-take k voters, before) in
    distinct i k [] ik (rw length-map below)
    (get_or-map (λ (v : VoterView). v.id) voters i x [] (omega (arith, ik, below)) ∙ ap (λ (v : VoterView). v.id) (sym (get_or-take k voters i x ik)) ∙ same ∙ sym (get_or-map (λ (v : VoterView). v.id) voters k d [] below))

-- the next voter has no ballot yet
pub new_at_opening : (voters : List VoterView) (k : ℕ) (v : VoterView) (id : List ℕ) (before : List (List ℕ × Source)) → AreDistinct (map (λ v. v.id) voters) → k < length voters →
    v ≡ get_or voters k v → id ≡ v.id → before ≡ opened_from 0 (take k voters) → lookup (bytes_eq id) before ≡ None
new_at_opening voters k v id before distinct below at same_id were =
    let here = get_or voters k v in
    let front = take k voters in
    let none = lookup-none (bytes_eq here.id) (opened_from 0 front) (NonePasses-before 0 front here (differ_before voters k v distinct below)) in
    (λ j. lookup (bytes_eq ((same_id ∙ ap (λ (u : VoterView). u.id) at) j)) (were j)) ∙ none

opened_from-push : (place : ℕ) (voters : List VoterView) (v : VoterView) →
    opened_from place (voters ++ v ∷ []) ≡ opened_from place voters ++ (v.id, Opening (place + length voters)) ∷ []
opened_from-push place [] v = let same : place ≡ place + 0 = omega arith in ap (λ p. (v.id, Opening p) ∷ []) same
opened_from-push place (u ∷ us) v =
    let same : suc place + length us ≡ place + suc (length us) = omega arith in
    ap (λ rest. (u.id, Opening place) ∷ rest) (opened_from-push (suc place) us v ∙ ap (λ p. opened_from (suc place) us ++ (v.id, Opening p) ∷ []) same)

-- one turn of the loop over the voters
pub opened_turn : (voters : List VoterView) (k place : ℕ) (v : VoterView) (id : List ℕ) (before after : List (List ℕ × Source)) →
    k < length voters → place ≡ k → v ≡ get_or voters k v → id ≡ v.id →
    before ≡ opened_from 0 (take k voters) → after ≡ before ++ (id, Opening place) ∷ [] → after ≡ opened_from 0 (take (k + 1) voters)
opened_turn voters k place v id before after below is_place at same_id were pushed =
    let front = take k voters in
    let index : place ≡ 0 + length front = omega (arith, length-take k voters, below, is_place) in
    pushed ∙ (λ j. were j ++ ((same_id ∙ ap (λ (u : VoterView). u.id) at) j, Opening (index j)) ∷ [])
    ∙ sym (opened_from-push 0 front (get_or voters k v)) ∙ ap (opened_from 0) (sym (take_more voters k v below))

-- an election's own ballots are few, and for its projects
pub IsStanding-opened : (e : ElectionView) → IsElection e → IsStanding e (opened e)
IsStanding-opened e is =
    let pair : VoterView → List ℕ × List ℕ = λ v. (v.id, v.ballot) in
    record {
      few = rw length-map is.few_voters;
      known =
          All-map (AreKnown e) (λ (b : List ℕ × List ℕ). b.1) (ballots_of e.voters)
          (All-map (λ (b : List ℕ × List ℕ). AreKnown e b.1) pair e.voters
          (All-weaker (IsVoter (length e.projects)) (λ (v : VoterView). AreKnown e v.ballot) (λ v voter. voter.ballot_known) e.voters is.are_voters));
    }

IsInOrder-opened : (place : ℕ) (voters : List VoterView) → IsInOrder place (opened_from place voters)
IsInOrder-opened place [] = tt
IsInOrder-opened place (v ∷ voters) = (omega arith, IsInOrder-opened (suc place) voters)

found_opened : (all : List VoterView) (journal : List EntryView) (place : ℕ) (voters : List VoterView) →
    ((k : ℕ) (v : VoterView) → slice_get voters k ≡ Some v → slice_get all (place + k) ≡ Some v) →
    AreFound all journal (opened_from place voters) × (ballots_at all journal (opened_from place voters) ≡ ballots_of voters)
found_opened all journal place [] there = (tt, refl)
found_opened all journal place (v ∷ voters) there =
    let first : place ≡ place + 0 = omega arith in
    let here : found_at all journal (Opening place) ≡ Some (v.id, v.ballot) = ap (option_map (λ (u : VoterView). (u.id, u.ballot))) (ap (slice_get all) first ∙ there zero v refl) in
    let rest = found_opened all journal (suc place) voters (λ k u at. let next : suc place + k ≡ place + suc k = omega arith in ap (slice_get all) next ∙ there (suc k) u at) in
    let ballot = ballot_is all journal (Opening place) v.id v.ballot here in
    ((found_is all journal (Opening place) v.id v.ballot here, rest.0), λ j. (v.id, ballot j) ∷ rest.1 j)

at_zero : (voters : List VoterView) (k : ℕ) (v : VoterView) → slice_get voters k ≡ Some v → slice_get voters (0 + k) ≡ Some v
at_zero voters k v at = let same : 0 + k ≡ k = omega arith in ap (slice_get voters) same ∙ at

pub AreSources-opened : (voters : List VoterView) (journal : List EntryView) (ss : List (List ℕ × Source)) → ss ≡ opened_from 0 voters → AreSources voters journal ss
AreSources-opened voters journal ss is =
    rw is (record { found = (found_opened voters journal 0 voters (at_zero voters)).0; in_order = IsInOrder-opened 0 voters })

pub ballots-opened : (voters : List VoterView) (journal : List EntryView) (ss : List (List ℕ × Source)) → ss ≡ opened_from 0 voters → ballots_at voters journal ss ≡ ballots_of voters
ballots-opened voters journal ss is = rw is (found_opened voters journal 0 voters (at_zero voters)).1
