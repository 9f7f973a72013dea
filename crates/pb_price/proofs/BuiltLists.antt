-- The lists of supporters while the ballots are put in one after the other.
use Rattle.std.proofs.Common.{◌≡◌, ℕ, ◌+◌, ◌<◌, Bool, true, false, cond, ◌||◌, List, [], ◌∷◌, ◌++◌, length, get_or, map, set, take, replicate, Option, refl, sym, ap, ◌∙◌, inl, inr, arith, eqb}
use Rattle.std.specs.Prelude.{All}
use Rattle.std.specs.List.{range_with_len, filter}
use Rattle.std.specs.List.Sorted.{IsStrictlyIncreasing}
use Rattle.std.proofs.lemmas.Bool.{eq-eqb, ne_eqb, cases_eq}
use Rattle.std.proofs.lemmas.List.{length-set, get_or-map, get_or-set_same, get_or-set_other, get_or-take, length-take, append-nil, map-id, length-replicate, get_or-replicate, ext_get_or, get_or_default, map_more}
use Rattle.std.proofs.lemmas.List.FromFn.{map-range_with_len_more, length-map-range_with_len, get_or-map-range_with_len}
use Rattle.std.proofs.lemmas.List.Elements.{filter-append}
use Rattle.std.proofs.lemmas.List.Folds.{list_any_more, list_any_none}
use Rattle.std.proofs.lemmas.List.Kept.{AllPairs-from_increasing}
use Rattle.pb_core.specs.Inner.Approved.{approves}
use Rattle.pb_core.specs.Election.{ElectionView, VoterView, IsElection}
use Rattle.pb_price.specs.Inner.Lists.{AddsVoter}
use Rattle.pb_price.specs.Price.{PriceView}
use Rattle.pb_price.specs.Supporters.{ballot_at, supporters_of, support_of}

-- the first voters are put in, this many: each list has the supporters among them
pub record ListsSoFar (e : ElectionView) (lists : List (List ℕ)) (voters : ℕ) : Type 0 where
  pub one_each : length lists ≡ length e.projects
  pub listed : (place : ℕ) → place < length e.projects
      → get_or lists place [] ≡ filter (λ voter. approves (ballot_at e voter) place) (range_with_len 0 voters)

-- a rising ballot has not approved a place before it comes to it
not_yet : (ballot : List ℕ) (i place : ℕ) → IsStrictlyIncreasing ballot → i < length ballot → place ≡ get_or ballot i 0
    → approves (take i ballot) place ≡ false
not_yet ballot i place up h e = list_any_none (λ p. eqb p place) (take i ballot)
    (λ k d l.
    let short : k < i = omega (arith, length-take i ballot) in
    let below : get_or ballot k d < get_or ballot i d = AllPairs-from_increasing ballot up k i d short h in
    let same : get_or ballot i d ≡ get_or ballot i 0 = get_or_default ballot i d 0 h in
    rw get_or-take (ne_eqb (get_or ballot k d) place (λ eq. omega (arith, eq, e, same, below))))

or_false : (b : Bool) → (b || false) ≡ b
or_false true = refl
or_false false = refl

-- the next place of the ballot
pub AddsVoter-more : (old lists new : List (List ℕ)) (voter : ℕ) (ballot : List ℕ) (i place : ℕ)
    → IsStrictlyIncreasing ballot → i < length ballot → place ≡ get_or ballot i 0 → place < length lists
    → AddsVoter old lists voter (take i ballot) → new ≡ set lists place (get_or lists place [] ++ voter ∷ [])
    → AddsVoter old new voter (take (i + 1) ballot)
AddsVoter-more old lists new voter ballot i place up h e l so_far n = record {
  same_length = ap length n ∙ length-set lists place _ ∙ so_far.same_length;
  added = λ k b.
      let with : Bool → List ℕ = λ t. get_or old k [] ++ cond t (voter ∷ []) [] in
      let before : get_or lists k [] ≡ with (approves (take i ballot) k) = so_far.added k b in
      let more : approves (take (i + 1) ballot) k ≡ (approves (take i ballot) k || eqb (get_or ballot i 0) k) = list_any_more (λ p. eqb p k) ballot i 0 h in
      elim (cases_eq k place) [
        | inl same ↦
            let none : approves (take i ballot) k ≡ false = not_yet ballot i k up h (same ∙ e) in
            let hit : eqb (get_or ballot i 0) k ≡ true = eq-eqb (get_or ballot i 0) k (sym e ∙ sym same) in
            let now : approves (take (i + 1) ballot) k ≡ true = more ∙ ap (λ t. t || eqb (get_or ballot i 0) k) none ∙ hit in
            let put : get_or new k [] ≡ get_or lists k [] ++ voter ∷ [] = rw (n, same) (get_or-set_same lists place _ [] l) in
            put ∙ ap (λ xs. xs ++ voter ∷ []) (before ∙ ap with none ∙ append-nil (get_or old k [])) ∙ sym (ap with now)
        | inr other ↦
            let miss : eqb (get_or ballot i 0) k ≡ false = ne_eqb (get_or ballot i 0) k (λ q. other (sym q ∙ sym e)) in
            let now : approves (take (i + 1) ballot) k ≡ approves (take i ballot) k = more ∙ ap (λ t. approves (take i ballot) k || t) miss ∙ or_false (approves (take i ballot) k) in
            let kept : get_or new k [] ≡ get_or lists k [] = rw n (get_or-set_other lists place k _ [] other) in
            kept ∙ before ∙ sym (ap with now)
      ];
}

pub range_with_len_more : (n : ℕ) → range_with_len 0 (n + 1) ≡ range_with_len 0 n ++ n ∷ []
range_with_len_more n = simp map-id at (map-range_with_len_more (λ x. x) 0 n n (omega arith))

pub ListsSoFar-none : (e : ElectionView) (lists : List (List ℕ)) (n : ℕ) → n ≡ length e.projects → lists ≡ replicate n []
    → ListsSoFar e lists 0
ListsSoFar-none e lists n m h = record {
  one_each = ap length h ∙ length-replicate n [] ∙ m;
  listed = λ place l. ap (λ xs. get_or xs place []) h ∙ get_or-replicate n place [] [] (omega (arith, m));
}

-- the next voter
pub ListsSoFar-more : (e : ElectionView) (lists new : List (List ℕ)) (voter : ℕ) (ballot : List ℕ)
    → ListsSoFar e lists voter → AddsVoter lists new voter ballot → ballot ≡ ballot_at e voter
    → ListsSoFar e new (voter + 1)
ListsSoFar-more e lists new voter ballot so_far adds same = record {
  one_each = adds.same_length ∙ so_far.one_each;
  listed = λ place l.
      let test : ℕ → Bool = λ v. approves (ballot_at e v) place in
      let last : List ℕ = filter test (voter ∷ []) in
      let more : filter test (range_with_len 0 (voter + 1)) ≡ filter test (range_with_len 0 voter) ++ last = ap (filter test) (range_with_len_more voter) ∙ filter-append test (range_with_len 0 voter) (voter ∷ []) in
      let added = adds.added place (omega (arith, so_far.one_each)) in
      added
      ∙ ap (λ xs. xs ++ cond (approves ballot place) (voter ∷ []) []) (so_far.listed place l)
      ∙ ap (λ b. filter test (range_with_len 0 voter) ++ cond (approves b place) (voter ∷ []) []) same
      ∙ sym more;
}

pub lists_from_all : (e : ElectionView) (lists : List (List ℕ)) → ListsSoFar e lists (length e.voters)
    → lists ≡ (support_of e).supporters
unfolding supporters_of
lists_from_all e lists h =
    ext_get_or [] lists _
    (h.one_each ∙ sym (length-map-range_with_len (supporters_of e) 0 (length e.projects)))
    (λ i l.
    let short : i < length e.projects = omega (arith, h.one_each) in
    h.listed i short ∙ sym (get_or-map-range_with_len (supporters_of e) 0 (length e.projects) i i [] short (omega arith)))

-- the ballot of the voter at i, as a loop over the voters reads it
pub ballot_read : (e : ElectionView) (voters : List VoterView) (i : ℕ) (v : VoterView) (ballot : List ℕ)
    → voters ≡ e.voters → i < length voters → v ≡ get_or voters i v → ballot ≡ v.ballot → ballot ≡ ballot_at e i
ballot_read e voters i v ballot same h is b =
    b ∙ ap (λ w. w.ballot) is ∙ ap (λ vs. (get_or vs i v).ballot) same
    ∙ sym (get_or-map (λ w. w.ballot) e.voters i v [] (rw (← same) h))

pub ballot_known : (e : ElectionView) (i : ℕ) (ballot : List ℕ) → IsElection e → i < length e.voters → ballot ≡ ballot_at e i
    → All (λ place. place < length e.projects) ballot
ballot_known e i ballot h l b =
    let d : VoterView = record { id = []; ballot = [] } in
    let same : ballot ≡ (get_or e.voters i d).ballot = b ∙ get_or-map (λ w. w.ballot) e.voters i d [] l in
    rw same (h.are_voters i d l).ballot_known

-- one project more is priced
pub priced_more : (P : ℕ → Option PriceView) (projects : List ℕ) (items new : List (Option PriceView)) (i : ℕ) (price : Option PriceView) → i < length projects
    → items ≡ map P (take i projects) → new ≡ items ++ price ∷ [] → price ≡ P (get_or projects i 0) → new ≡ map P (take (i + 1) projects)
priced_more P projects items new i price h before pushed is =
    pushed ∙ ap (λ xs. xs ++ price ∷ []) before ∙ ap (λ p. map P (take i projects) ++ p ∷ []) is ∙ sym (map_more P projects i 0 h)
