use Rattle.std.proofs.Common.{◌≡◌, ◌∙◌, ◌+◌, ◌<◌, ◌≤◌, ◌∷◌, ◌||◌, ℕ, [], Bool, List, ap, arith, false, get_or, inl, inr, length, refl, set, subst, sym, take, true}
use Rattle.std.specs.Prelude.{◌==◌}
use Rattle.std.proofs.lemmas.Bool.{cases_eq, eq-eqb, ne_eqb, or_left, or_right}
use Rattle.std.proofs.lemmas.List.{get_or-set_other, get_or-set_same, length-set, take_all, take_more}
use Rattle.std.proofs.lemmas.List.Folds.{list_any-append}
use Rattle.std.proofs.lemmas.List.FromFn.{fill_by_all}
use Rattle.pb_rounds.specs.MostVotes.{is_taken}
use Rattle.pb_rounds.proofs.by_votes.candidate.taken_flags.Invariants.{AreFlags}
use Rattle.pb_rounds.proofs.by_votes.candidate.taken_flags.Goals.{then-place-projects, else-place-projects}
use Rattle.pb_rounds.proofs.by_votes.candidate.taken_flags.Goals as goal

or_false : (b : Bool) → (b || (false || false)) ≡ b
or_false true = refl
or_false false = refl

-- one place more is taken
module _ (n : ℕ) (taken : List ℕ) (i : ℕ) (below : i < length taken) (flags : List Bool) (h : AreFlags n flags (take i taken)) where
  with_one : (k : ℕ) → is_taken (take (i + 1) taken) k ≡ (is_taken (take i taken) k || ((get_or taken i 0 == k) || false))
  with_one k = ap (λ (places : List ℕ). is_taken places k) (take_more taken i 0 below) ∙ list_any-append (λ t. t == k) (take i taken) (get_or taken i 0 ∷ [])

  without_it : (k : ℕ) → ((get_or taken i 0 == k) ≡ false) → is_taken (take (i + 1) taken) k ≡ is_taken (take i taken) k
  without_it k other = with_one k ∙ ap (λ b. is_taken (take i taken) k || (b || false)) other ∙ or_false (is_taken (take i taken) k)

  flags_more : get_or taken i 0 < n → AreFlags n (set flags (get_or taken i 0) true) (take (i + 1) taken)
  flags_more known = record {
    long = length-set flags (get_or taken i 0) true ∙ h.long;
    are = λ k within. elim (cases_eq k (get_or taken i 0)) [
      | inl same ↦ ap (λ at. get_or (set flags (get_or taken i 0) true) at false) same
          ∙ get_or-set_same flags (get_or taken i 0) true false (subst (λ long. get_or taken i 0 < long) (sym h.long) known)
          ∙ sym (with_one k ∙ or_right (is_taken (take i taken) k) _ (or_left (get_or taken i 0 == k) false (eq-eqb (get_or taken i 0) k (sym same))))
      | inr other ↦ get_or-set_other flags (get_or taken i 0) k true false other ∙ h.are k within
          ∙ sym (without_it k (ne_eqb (get_or taken i 0) k (λ same. other (sym same))))
    ];
  }

  flags_same : n ≤ get_or taken i 0 → AreFlags n flags (take (i + 1) taken)
  flags_same past = record {
    long = h.long;
    are = λ k known. h.are k known ∙ sym (without_it k (ne_eqb (get_or taken i 0) k (λ same. omega (arith, same, known, past))));
  }

pub loop-place-preserved : goal.loop-place-preserved
loop-place-preserved g c =
    let taken = c.args.taken.now in
    let i = c.loop-place.place-index in
    let within = c.loop-place-test.true in
    elim c.if-place-projects.branch [
      | then-place-projects w ↦ rw w.flags-is (flags_more c.args.projects taken i within c.loop-place.flags.items c.loop-place.invariant w.if-place-projects.true)
      | else-place-projects w ↦ rw w.flags-is (flags_same c.args.projects taken i within c.loop-place.flags.items c.loop-place.invariant w.if-place-projects.false)
    ]

pub returns-clause-flags : goal.returns-clause-flags
returns-clause-flags g c =
    let taken = c.args.taken.now in
    let all = take_all c.loop-place.place-index taken c.loop-place-test.false in
    fill_by_all (is_taken taken) c.loop-place.flags.items c.args.projects false c.loop-place.invariant.long
    (λ k below. c.loop-place.invariant.are k below ∙ ap (λ xs. is_taken xs k) all)

pub returns-clause-one_each : goal.returns-clause-one_each
returns-clause-one_each g c = c.loop-place.invariant.long
