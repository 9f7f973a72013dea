-- A row asks one request at most.
use Rattle.std.proofs.Common.{◌≡◌, ◌∙◌, [], ◌∷◌, Contains, get_or, refl, sym, ap, subst, arith}
use Rattle.std.specs.Str.{trim}
use Rattle.std.proofs.lemmas.List.Kept.{AllPairs-from_increasing}
use Rattle.pb_core.specs.Request.{RequestView, Cast, Replace, Withdraw, Shut}
use Rattle.pb_desk.specs.Rows.{Asks, word_of}
use Rattle.pb_desk.specs.Step.{places_of, voter_of}
use Rattle.pb_desk.specs.declared.request_fields.Strictness.{Strictness}
use Rattle.pb_rows.proofs.PlacesText.{places_text-injective}
use Rattle.pb_rows.specs.Numbers.{places_text}
use Rattle.pb_rows.specs.Inner.Numbers.{AreNumbers}
use Rattle.pb_rows.specs.Reading.{Fields}
use Rattle.pb_script.proofs.Rising.{members_back, members_numbers, same_pairs}

-- requests of the same kind, voter and places
same_parts : (r t : RequestView) → word_of r ≡ word_of t → voter_of r ≡ voter_of t → places_of r ≡ places_of t → r ≡ t
same_parts (Cast v b) (Cast w d) words ids ballots = λ i. Cast (ids i) (ballots i)
same_parts (Cast v b) (Replace w d) words ids ballots = absurd (omega (arith, ap (λ l. get_or l 0 0) words))
same_parts (Cast v b) (Withdraw w) words ids ballots = absurd (omega (arith, ap (λ l. get_or l 0 0) words))
same_parts (Cast v b) Shut words ids ballots = absurd (omega (arith, ap (λ l. get_or l 0 0) words))
same_parts (Replace v b) (Cast w d) words ids ballots = absurd (omega (arith, ap (λ l. get_or l 0 0) words))
same_parts (Replace v b) (Replace w d) words ids ballots = λ i. Replace (ids i) (ballots i)
same_parts (Replace v b) (Withdraw w) words ids ballots = absurd (omega (arith, ap (λ l. get_or l 0 0) words))
same_parts (Replace v b) Shut words ids ballots = absurd (omega (arith, ap (λ l. get_or l 0 0) words))
same_parts (Withdraw v) (Cast w d) words ids ballots = absurd (omega (arith, ap (λ l. get_or l 0 0) words))
same_parts (Withdraw v) (Replace w d) words ids ballots = absurd (omega (arith, ap (λ l. get_or l 0 0) words))
same_parts (Withdraw v) (Withdraw w) words ids ballots = λ i. Withdraw (ids i)
same_parts (Withdraw v) Shut words ids ballots = absurd (omega (arith, ap (λ l. get_or l 0 0) words))
same_parts Shut (Cast w d) words ids ballots = absurd (omega (arith, ap (λ l. get_or l 0 0) words))
same_parts Shut (Replace w d) words ids ballots = absurd (omega (arith, ap (λ l. get_or l 0 0) words))
same_parts Shut (Withdraw w) words ids ballots = absurd (omega (arith, ap (λ l. get_or l 0 0) words))
same_parts Shut Shut words ids ballots = refl

-- the places that a row names are numbers
pub asked_numbers : (s : Strictness) (fields : Fields) (r : RequestView) (a : Asks s fields r) → AreNumbers a.places
asked_numbers s fields r a = members_numbers (places_of r) a.places a.can_be.ballot.1 (members_back a.places (places_of r) a.leniently.1)

pub one_request : (s : Strictness) (fields : Fields) (r t : RequestView) → Asks s fields r → Asks s fields t → r ≡ t
one_request s fields r t a b =
    let same : word_of r ∷ a.voter ∷ places_text a.places ∷ [] ≡ word_of t ∷ b.voter ∷ places_text b.places ∷ [] = sym a.fields_are ∙ b.fields_are in
    let words : word_of r ≡ word_of t = cc same in
    let voters : a.voter ≡ b.voter = cc same in
    let texts : places_text a.places ≡ places_text b.places = cc same in
    let ids : voter_of r ≡ voter_of t = sym a.leniently.0 ∙ ap trim voters ∙ b.leniently.0 in
    let listed : a.places ≡ b.places = places_text-injective a.places b.places (asked_numbers s fields r a) (asked_numbers s fields t b) texts in
    let first = a.leniently.1 in
    let second = b.leniently.1 in
    let ballots : places_of r ≡ places_of t =
    same_pairs (places_of r) (places_of t) (AllPairs-from_increasing (places_of r) a.can_be.ballot.0) (AllPairs-from_increasing (places_of t) b.can_be.ballot.0) (λ x. (
      λ c. (second x).0 (subst (λ l. Contains l x) listed ((first x).1 c)),
      λ c. (first x).0 (subst (λ l. Contains l x) (sym listed) ((second x).1 c)),
    )) in
    same_parts r t words ids ballots
