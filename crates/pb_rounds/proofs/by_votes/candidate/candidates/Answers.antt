use Rattle.std.proofs.Common.{◌≡◌, ◌+◌, ◌<◌, ◌≤◌, ◌++◌, ◌∷◌, [], ℕ, Bool, List, length, map, true, false, get_or, sym, ◌∙◌, ap, arith}
use Rattle.std.specs.List.{filter, range_with_len}
use Rattle.std.proofs.lemmas.Bool.{and_from, and_left, and_right, le-ltb, lt-ltb, not_from_false, not_from_true}
use Rattle.std.proofs.lemmas.List.FromFn.{get_or-map-range_with_len}
use Rattle.pb_price.specs.Supporters.{SupportView, supporters_at}
use Rattle.pb_rounds.specs.Inner.Candidates.{candidate_of, candidates_of, may_be_added}
use Rattle.pb_rounds.specs.MostVotes.{is_taken}
use Rattle.pb_rounds.specs.declared.by_votes.candidate.Candidate.{Candidate}
use Rattle.pb_rounds.proofs.PassedOver.{kept_one, left_out}
use Rattle.pb_rounds.proofs.by_votes.candidate.candidates.Goals.{then-votes-gt0+then-not-index+in_ok-push, else-votes-gt0, else-votes-gt0-via-then-votes-gt0+else-not-index, else-votes-gt0-via-else-votes-gt0}
use Rattle.pb_rounds.proofs.by_votes.candidate.candidates.Goals as goal

flag_is : (flags : List Bool) (taken : List ℕ) (n place : ℕ) (b : Bool) → flags ≡ map (is_taken taken) (range_with_len 0 n) → place < n
    → b ≡ get_or flags place b → b ≡ is_taken taken place
flag_is flags taken n place b are below read =
    read ∙ ap (λ xs. get_or xs place b) are ∙ get_or-map-range_with_len (is_taken taken) 0 n place place b below (omega arith)

may : (s : SupportView) (taken : List ℕ) (place : ℕ) (voters : List ℕ) → voters ≡ supporters_at s place → 0 < length voters
    → is_taken taken place ≡ false → may_be_added s taken place ≡ true
may s taken place voters are some free =
    and_from _ _ (lt-ltb 0 (length (supporters_at s place)) (omega (arith, ap length are))) (not_from_false _ free)

may_not : (s : SupportView) (taken : List ℕ) (place : ℕ) → is_taken taken place ≡ true → may_be_added s taken place ≡ false
may_not s taken place gone = and_right _ _ (not_from_true _ gone)

unsupported : (s : SupportView) (taken : List ℕ) (place : ℕ) (voters : List ℕ) → voters ≡ supporters_at s place → length voters ≤ 0
    → may_be_added s taken place ≡ false
unsupported s taken place voters are none =
    and_left _ _ (le-ltb 0 (length (supporters_at s place)) (omega (arith, ap length are)))

one_more : (s : SupportView) (taken : List ℕ) (items : List Candidate) (place : ℕ)
    → items ≡ map (candidate_of s) (filter (may_be_added s taken) (range_with_len 0 place)) → may_be_added s taken place ≡ true
    → items ++ candidate_of s place ∷ [] ≡ map (candidate_of s) (filter (may_be_added s taken) (range_with_len 0 (place + 1)))
one_more s taken items place are may_be =
    ap (λ (xs : List Candidate). xs ++ candidate_of s place ∷ []) are ∙ sym (kept_one (candidate_of s) (may_be_added s taken) place may_be)

none_more : (s : SupportView) (taken : List ℕ) (items : List Candidate) (place : ℕ)
    → items ≡ map (candidate_of s) (filter (may_be_added s taken) (range_with_len 0 place)) → may_be_added s taken place ≡ false
    → items ≡ map (candidate_of s) (filter (may_be_added s taken) (range_with_len 0 (place + 1)))
none_more s taken items place are may_not_be = are ∙ sym (left_out (candidate_of s) (may_be_added s taken) place may_not_be)

pub loop-place-preserved : goal.loop-place-preserved
loop-place-preserved g c =
    let s = c.args.supporters.now in
    let taken = c.args.taken.now in
    let place = c.loop-place.place in
    elim c.if-votes-gt0.branch [
      | then-votes-gt0+then-not-index+in_ok-push w ↦
          let free = sym (flag_is c.in_ok-is_taken.is_taken.items taken c.projects-projects.result place w.index.result.now c.in_ok-is_taken.ensures.flags c.loop-place-test.true w.index.ensures) ∙ w.if-not-index.true in
          let one = may s taken place c.of-votes.result.now c.of-votes.ensures.supporters w.if-votes-gt0.true free in
          rw (w.candidates-is, w.in_ok-push.ensures.items, w.cost.ensures.cost, c.of-votes.ensures.supporters)
          (one_more s taken c.loop-place.candidates.items place c.loop-place.invariant one)
      | else-votes-gt0 w ↦ rw w.candidates-is (none_more s taken c.loop-place.candidates.items place c.loop-place.invariant (elim w.else-votes-gt0.branch [
        | else-votes-gt0-via-then-votes-gt0+else-not-index v ↦
            may_not s taken place (sym (flag_is c.in_ok-is_taken.is_taken.items taken c.projects-projects.result place v.index.result.now c.in_ok-is_taken.ensures.flags c.loop-place-test.true v.index.ensures) ∙ v.if-not-index.false)
        | else-votes-gt0-via-else-votes-gt0 v ↦ unsupported s taken place c.of-votes.result.now c.of-votes.ensures.supporters v.if-votes-gt0.false
      ]))
    ]

pub returns-clause-candidates : goal.returns-clause-candidates
unfolding candidates_of
returns-clause-candidates g c =
    let n : c.loop-place.place ≡ length c.args.supporters.now.costs =
    omega (arith, c.loop-place-test.false, c.projects-projects.ensures.projects) in
    rw (← n) c.loop-place.invariant
