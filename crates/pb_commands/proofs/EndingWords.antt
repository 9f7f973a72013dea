-- How a project ended, in the words of its law.
use Rattle.std.proofs.Common.{◌≡◌, ◌≢◌, ℕ, ◌+◌, ◌-◌, Bool, true, false, cond, not, List, [], ◌∷◌, ◌++◌, length, length-append, Some, None, refl, sym, ◌∙◌, ap, arith}
use Rattle.std.specs.Prelude.{All, ◌==◌, count_by, slice_get}
use Rattle.std.specs.List.{position_or_len}
use Rattle.std.proofs.Math.Seq.{get_or-append_seam}
use Rattle.std.proofs.lemmas.Bool.{eq-eqb, lt-ltb, ne_eqb, or_parts}
use Rattle.std.proofs.lemmas.List.Elements.{All-head, All-tail}
use Rattle.std.proofs.lemmas.Option.{slice_get_past, slice_get_read}
use Rattle.pb_core.specs.Election.{ElectionView}
use Rattle.pb_price.specs.Grain.{in_parts}
use Rattle.pb_price.specs.Price.{total_rest}
use Rattle.pb_price.specs.Supporters.{cost_at, support_of, supporters_at}
use Rattle.pb_price.specs.declared.grain.Grain.{Grain}
use Rattle.pb_reasons.proofs.Positions.{some_has_position}
use Rattle.pb_reasons.proofs.TieWords.{round_is}
use Rattle.pb_reasons.specs.Counted.{CountedView, is_selected}
use Rattle.pb_reasons.specs.Reasons.{ending_of, paid_for, project_reason, round_of}
use Rattle.pb_reasons.specs.declared.project_reason.Ending.TheVariants as ending
use Rattle.pb_rounds.specs.MostVotes.{is_taken}
use Rattle.pb_rounds.specs.Run.{ElectedView, is_elected}
use Rattle.pb_commands.proofs.TablesTell.{no_round}

-- the first of the added that is this project
module _ (place : ℕ) where
  abbrev number_in : List ℕ → ℕ
  number_in added = position_or_len (λ p. p == place) added

  one_more : (b : Bool) (p : ℕ) (rest : List ℕ) → (p == place) ≡ b → number_in (p ∷ rest) ≡ cond (not b) (1 + number_in rest) 0
  one_more b p rest e = ap (λ t. cond (not t) (1 + number_in rest) 0) e

  number_is : (before later : List ℕ) → All (λ p. p ≢ place) before → number_in (before ++ place ∷ later) ≡ length before
  number_is [] later others = one_more true place later (eq-eqb place place refl)
  number_is (p ∷ before) later others =
      let rest = number_is before later (All-tail (λ q. q ≢ place) p before others) in
      one_more false p (before ++ place ∷ later) (ne_eqb p place (All-head (λ q. q ≢ place) p before others)) ∙ omega (arith, rest)

module _ (grain : Grain) (e : ElectionView) (c : CountedView) where
  pub won_told : (before : List ElectedView) (w : ElectedView) (later : List ElectedView) → c.outcome.elected ≡ before ++ w ∷ later
      → All (λ (v : ElectedView). v.place ≢ w.place) before
      → (project_reason grain e c w.place).ending ≡ ending.Won (record {
        round = length before + 1;
        price = w.price;
        exact = w.exact;
        collected = w.collected;
        in_full = count_by (λ voter. paid_for e c.outcome w.place voter == w.price) (supporters_at (support_of e) w.place);
      })
  won_told before w later split others =
      let elected = c.outcome.elected in
      let in_full = count_by (λ voter. paid_for e c.outcome w.place voter == w.price) (supporters_at (support_of e) w.place) in
      let numbered : round_of elected w.place ≡ length before =
      ap (λ (es : List ElectedView). round_of es w.place) split ∙ round_is w.place before w later others refl in
      let here : slice_get (before ++ w ∷ later) (length before) ≡ Some w =
      slice_get_read (before ++ w ∷ later) _ (length before) w refl (omega (arith, length-append before (w ∷ later))) (sym (get_or-append_seam before w later w)) in
      let found : slice_get elected (round_of elected w.place) ≡ Some w =
      ap (slice_get elected) numbered ∙ (ap (λ (es : List ElectedView). slice_get es (length before)) split ∙ here) in
      ap (ending_of grain e c w.place) found
      ∙ ap (λ n. ending.Won (record { round = n + 1; price = w.price; exact = w.exact; collected = w.collected; in_full = in_full })) numbered

  -- none elected it
  past : (place : ℕ) → is_elected c.outcome.elected place ≡ false
      → (project_reason grain e c place).ending ≡ ending_of grain e c place None
  past place none =
      ap (ending_of grain e c place) (slice_get_past c.outcome.elected (round_of c.outcome.elected place) (no_round c.outcome.elected place none))

  pub added_told : (before : List ℕ) (place : ℕ) (later : List ℕ) → is_elected c.outcome.elected place ≡ false → c.added ≡ before ++ place ∷ later
      → All (λ other. other ≢ place) before → (project_reason grain e c place).ending ≡ ending.Added (record { number = length before + 1 })
  added_told before place later none split others =
      let numbered : number_in place c.added ≡ length before = ap (number_in place) split ∙ number_is place before later others in
      let taken : is_taken c.added place ≡ true =
      some_has_position (λ (p : ℕ). p) c.added place
      ∙ lt-ltb _ _ (omega (arith, numbered, ap length split, length-append before (place ∷ later))) in
      past place none ∙ rw taken (ap (λ n. ending.Added (record { number = n + 1 })) numbered)

  pub lost_told : (place : ℕ) → is_selected c place ≡ false
      → let left = total_rest (supporters_at (support_of e) place) c.outcome.rests in
      (project_reason grain e c place).ending ≡ ending.Lost (record { left = left; missing = in_parts grain (length e.voters) (cost_at (support_of e) place) - left })
  lost_told place unselected =
      let parts = or_parts (is_elected c.outcome.elected place) (is_taken c.added place) unselected in
      past place parts.0 ∙ rw parts.1 refl
