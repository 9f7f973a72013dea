-- Voters whose ids are numbers, and one more of them.
use Rattle.std.proofs.Common.{◌≡◌, ◌≢◌, ◌<◌, ◌≤◌, ◌+◌, ◌^◌, ℕ, List, [], ◌∷◌, ◌++◌, All, decimal, length, map, refl, ap, sym, ◌∙◌, arith, subst, length-append, append_assoc, replicate}
use Rattle.std.specs.List.{AllPairs, range_with_len}
use Rattle.std.proofs.lemmas.Fmt.{decimal_injective, decimal_nonempty}
use Rattle.std.proofs.lemmas.List.{length-map, map_push, replicate_more}
use Rattle.std.proofs.Math.Seq.{get_or-append_seam}
use Rattle.std.proofs.lemmas.List.Elements.{All-push}
use Rattle.std.proofs.lemmas.List.FromFn.{get_or-map-range_with_len, length-map-range_with_len, map-range_with_len_more}
use Rattle.pb_core.specs.Ballot.{IsVoterId}
use Rattle.std.specs.Option.{option_map_or}
use Rattle.std.specs.Prelude.{MatchOption, Option, Some, None}
use Rattle.std.specs.Str.{trim}
use Rattle.std.specs.List.Sorted.{IsStrictlyIncreasing}
use Rattle.pb_core.specs.Election.{IsVoter, VoterView, most_voters}
use Rattle.pb_reasons.specs.Inner.Numbered.{AreNumbered}
use Rattle.pb_reasons.proofs.Tidy.{trim-decimal}

-- a number is an id
pub number_is_id : (n : ℕ) → n < 2 ^ 64 → IsVoterId (decimal n)
number_is_id n below = record {
  not_empty = λ none. absurd (omega (arith, ap length none, decimal_nonempty n below));
  is_trimmed = trim-decimal n below;
}

-- one voter more, whose id is the next number
pub numbered_more : (projects : ℕ) (voters : List VoterView) (v : VoterView) → AreNumbered projects voters → length voters < most_voters
    → IsVoter projects v → v.id ≡ decimal (length voters) → AreNumbered projects (voters ++ v ∷ [])
numbered_more projects voters v are room is id = record {
  few = omega (arith, length-append voters (v ∷ []), room);
  are_voters = All-push (IsVoter projects) voters v are.are_voters is;
  numbered =
      map_push (λ (w : VoterView). w.id) voters v
      ∙ ap (λ ids. ids ++ v.id ∷ []) are.numbered
      ∙ ap (λ id. map decimal (range_with_len 0 (length voters)) ++ id ∷ []) id
      ∙ sym (map-range_with_len_more decimal 0 (length voters) (length voters) (omega arith))
      ∙ ap (λ n. map decimal (range_with_len 0 n)) (sym (length-append voters (v ∷ [])));
}

-- no two of them have the same id
pub numbers_differ : (projects : ℕ) (voters : List VoterView) → AreNumbered projects voters → AllPairs (λ a b. a ≢ b) (map (λ v. v.id) voters)
numbers_differ projects voters are =
    subst (AllPairs (λ (a b : List ℕ). a ≢ b)) (sym are.numbered) (λ i j d before within same.
    let n = length voters in
    let long = length-map-range_with_len decimal 0 n in
    let few = are.few in
    let at_i = get_or-map-range_with_len decimal 0 n i i d (omega (arith, before, within, long)) (omega arith) in
    let at_j = get_or-map-range_with_len decimal 0 n j j d (omega (arith, within, long)) (omega arith) in
    absurd (omega (arith, before, decimal_injective i j (omega (arith, before, within, long, few)) (omega (arith, within, long, few)) (sym at_i ∙ same ∙ at_j))))

-- a text that is a number is an id as it is
pub number_makes : {X : Type 0} (view : X → List ℕ) (n : ℕ) (text : List ℕ) (found : Option X) → n < 2 ^ 64 → text ≡ decimal n
    → MatchOption found (trim text ≡ []) (λ id. (trim text ≢ []) × (view id ≡ trim text)) → (id : X) × (found ≡ Some id) × (view id ≡ decimal n)
number_makes view n text None below is made =
    absurd ((number_is_id n below).not_empty (sym (ap trim is ∙ trim-decimal n below) ∙ made))
number_makes view n text (Some id) below is made = (id, refl, made.1 ∙ ap trim is ∙ trim-decimal n below)

-- a ballot with one place rises
pub one_rises : (place : ℕ) → IsStrictlyIncreasing (place ∷ [])
one_rises place k within = absurd (omega (arith, within))

-- the same value, found twice
pub some_same : {X : Type 0} (found : Option X) (view : X → List ℕ) (x y : X) → found ≡ Some x → found ≡ Some y → view y ≡ view x
some_same {X = X} found view x y one two = ap (λ (o : Option X). option_map_or view o []) (sym two ∙ one)

-- further voters, who approve one project alone, and one more of them
pub further_more : (projects place n : ℕ) (old so_far after more : List VoterView) (v : VoterView) → AreNumbered projects so_far → so_far ≡ old ++ more
    → map (λ w. w.ballot) more ≡ replicate n (place ∷ []) → after ≡ so_far ++ v ∷ [] → length so_far < most_voters → place < projects
    → IsVoterId v.id → v.id ≡ decimal (length so_far) → v.ballot ≡ place ∷ []
    → AreNumbered projects after × (after ≡ old ++ (more ++ v ∷ [])) × (map (λ w. w.ballot) (more ++ v ∷ []) ≡ replicate (n + 1) (place ∷ []))
further_more projects place n old so_far after more v are grown alone pushed room known is_id id ballot =
    let is : IsVoter projects v = record {
      has_id = is_id;
      ballot_rises = subst IsStrictlyIncreasing (sym ballot) (one_rises place);
      ballot_known = subst (All (λ (p : ℕ). p < projects)) (sym ballot) (All-push (λ (p : ℕ). p < projects) [] place (λ k d below. absurd (omega (arith, below))) known);
    } in (
      subst (AreNumbered projects) (sym pushed) (numbered_more projects so_far v are room is id),
      pushed ∙ ap (λ (l : List VoterView). l ++ v ∷ []) grown ∙ append_assoc old more (v ∷ []),
      map_push (λ (w : VoterView). w.ballot) more v ∙ (λ i. alone i ++ ballot i ∷ []) ∙ replicate_more n (place ∷ []),
    )

-- the next of all voters, with the next number for an id
pub numbered_next : (projects : ℕ) (all own yielded before rest after : List VoterView) (v : VoterView) (id : List ℕ) → All (IsVoter projects) all → length all ≤ most_voters
    → AreNumbered projects own → map (λ w. w.ballot) own ≡ map (λ w. w.ballot) yielded → yielded ++ before ≡ all → before ≡ v ∷ rest
    → id ≡ decimal (length own) → after ≡ own ++ record { id = id; ballot = v.ballot } ∷ []
    → AreNumbered projects after × (map (λ w. w.ballot) after ≡ map (λ w. w.ballot) (yielded ++ v ∷ [])) × ((yielded ++ v ∷ []) ++ rest ≡ all)
numbered_next projects all own yielded before rest after v id voters few are ballots whole steps id_is pushed =
    let w : VoterView = record { id = id; ballot = v.ballot } in
    let parts : yielded ++ v ∷ rest ≡ all = ap (λ (l : List VoterView). yielded ++ l) (sym steps) ∙ whole in
    let same : length own ≡ length yielded = sym (length-map own (λ (u : VoterView). u.ballot)) ∙ ap length ballots ∙ length-map yielded (λ (u : VoterView). u.ballot) in
    let long = length-append yielded (v ∷ rest) in
    let is : IsVoter projects v = subst (IsVoter projects) (get_or-append_seam yielded v rest v) (subst (All (IsVoter projects)) (sym parts) voters (length yielded) v (omega (arith, long))) in
    let room : length own < most_voters = omega (arith, same, long, few, ap length parts) in
    let new : IsVoter projects w = record {
      has_id = subst IsVoterId (sym id_is) (number_is_id (length own) (omega (arith, room)));
      ballot_rises = is.ballot_rises;
      ballot_known = is.ballot_known;
    } in (
      subst (AreNumbered projects) (sym pushed) (numbered_more projects own w are room new id_is),
      ap (map (λ (u : VoterView). u.ballot)) pushed ∙ map_push (λ (u : VoterView). u.ballot) own w ∙ ap (λ (l : List (List ℕ)). l ++ v.ballot ∷ []) ballots
          ∙ sym (map_push (λ (u : VoterView). u.ballot) yielded v),
      append_assoc yielded (v ∷ []) rest ∙ parts,
    )

-- nobody is numbered too
pub numbered_none : (projects : ℕ) (voters : List VoterView) → voters ≡ [] → AreNumbered projects voters
numbered_none projects voters none = subst (AreNumbered projects) (sym none) (record {
  few = omega arith;
  are_voters = λ k d below. absurd (omega (arith, below));
  numbered = refl;
})
