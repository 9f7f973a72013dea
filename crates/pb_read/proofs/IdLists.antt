-- The ids of an election's projects, one after the other.
use Rattle.std.proofs.Common.{◌≡◌, ◌≢◌, ◌∙◌, ℕ, zero, suc, ◌+◌, ◌<◌, ◌≤◌, false, List, [], ◌∷◌, ◌++◌, length, map, take, get_or, refl, sym, ap, subst, arith}
use Rattle.std.specs.FinMap as places
use Rattle.std.specs.List.{AllPairs}
use Rattle.std.proofs.lemmas.Bool.{false_from_ne_true}
use Rattle.std.proofs.lemmas.List.{get_or-map, length-map, map_push, take_more}
use Rattle.std.proofs.Math.Seq.{get_or-take}
use Rattle.pb_core.specs.Election.{ProjectView}
use Rattle.pb_ids.specs.Inner.Places.{Places, get_none}
use Rattle.pb_read.proofs.DraftFacts.{finds_after}
use Rattle.pb_read.proofs.ListFacts.{Contains-is_among}
use Rattle.pb_read.specs.Inner.Ids.{Finds}
use Rattle.pb_read.specs.Voting.{is_among}

abbrev pub ids_of : List ProjectView → List (List ℕ)
ids_of projects = map (λ (p : ProjectView). p.id) projects

-- the ids of so many projects, and where they are found
pub record HasIds (table : Places) (ids : List (List ℕ)) (projects : List ProjectView) (count : ℕ) : Type 0 where
  pub are : ids ≡ ids_of (take count projects)
  pub count_is : length ids ≡ count
  pub found : Finds table ids

pub no_ids : (table : Places) (projects : List ProjectView) → table ≡ places.empty → HasIds table [] projects 0
no_ids table projects empty = record {
  are = refl;
  count_is = refl;
  found = λ text. ap (λ ids. places.get ids text) empty ∙ get_none text;
}

-- the id of a project is none of those before it
new_id : (projects : List ProjectView) (i : ℕ) (p : ProjectView) → AllPairs (λ a b. a ≢ b) (ids_of projects) → i < length projects → p ≡ get_or projects i p → is_among (ids_of (take i projects)) p.id ≡ false
new_id projects i p differ below is = false_from_ne_true _ (λ among.
    let c = Contains-is_among (ids_of (take i projects)) p.id among in
    let size = length-map (take i projects) (λ (q : ProjectView). q.id) in
    let all = length-map projects (λ (q : ProjectView). q.id) in
    let early : c.0 < length (take i projects) = omega (arith, c.1, size) in
    let before : c.0 < i = omega (arith, early, length-take_le i projects) in
    let there : get_or (ids_of projects) c.0 p.id ≡ p.id =
    get_or-map (λ (q : ProjectView). q.id) projects c.0 p p.id (omega (arith, before, below))
    ∙ ap (λ (q : ProjectView). q.id) (sym (get_or-take i projects c.0 p before))
    ∙ sym (get_or-map (λ (q : ProjectView). q.id) (take i projects) c.0 p p.id early) ∙ c.2 in
    let here : get_or (ids_of projects) i p.id ≡ p.id = get_or-map (λ (q : ProjectView). q.id) projects i p p.id below ∙ ap (λ (q : ProjectView). q.id) (sym is) in
    differ c.0 i p.id before (omega (arith, below, all)) (there ∙ sym here))
  where
    length-take_le : {X : Type 0} (n : ℕ) (xs : List X) → length (take n xs) ≤ n
    length-take_le zero xs = omega arith
    length-take_le (suc n) [] = omega arith
    length-take_le (suc n) (x ∷ xs) = let more = length-take_le n xs in omega (arith, more)

-- one id more
pub HasIds-more : (table after : Places) (ids new : List (List ℕ)) (projects : List ProjectView) (i place : ℕ) (p : ProjectView) (text : List ℕ) → HasIds table ids projects i
    → AllPairs (λ a b. a ≢ b) (ids_of projects) → i < length projects → p ≡ get_or projects i p → text ≡ p.id → place ≡ length ids → after ≡ places.insert table text place → new ≡ ids ++ text ∷ []
    → HasIds after new projects (i + 1)
HasIds-more table after ids new projects i place p text has differ below is same next put grown =
    let before : ids ≡ ids_of (take i projects) = has.are in
    let fresh : is_among ids p.id ≡ false = ap (λ xs. is_among xs p.id) before ∙ new_id projects i p differ below is in
    let found : Finds after (ids ++ p.id ∷ []) = finds_after table ids text p.id has.found same fresh next put in
    let new_is : new ≡ ids ++ p.id ∷ [] = grown ∙ ap (λ t. ids ++ t ∷ []) same in
    record {
      are = new_is ∙ ap (λ xs. xs ++ p.id ∷ []) before ∙ sym (map_push (λ (q : ProjectView). q.id) (take i projects) p) ∙ ap ids_of (ap (λ q. take i projects ++ q ∷ []) is ∙ sym (take_more projects i p below));
      count_is = ap length new_is ∙ length-push ids p.id ∙ ap (λ n. n + 1) has.count_is;
      found = subst (Finds after) (sym new_is) found;
    }
  where
    length-push : {X : Type 0} (xs : List X) (x : X) → length (xs ++ x ∷ []) ≡ length xs + 1
    length-push [] x = refl
    length-push (y ∷ xs) x = let more = length-push xs x in omega (arith, more)
