-- What the name of a rule says of it can be read from the name.
use Rattle.std.proofs.Common.{◌≡◌, ◌≢◌, ◌∙◌, ◌++◌, ◌∷◌, ◌+◌, ◌≤◌, ◌==◌, ◌||◌, ℕ, Bool, true, false, not, List, [], Ok, Err, Option, Some, None, Result, codes, drop, get_or, inl, inr, length, nat_le, option_map, ap, subst, refl, sym, arith}
use Rattle.std.specs.Prelude.{if◌then◌else◌}
use Rattle.std.specs.Char.{is_ascii_digit}
use Rattle.std.specs.List.{list_all}
use Rattle.std.specs.Str.Parse.{IsNumeral}
use Rattle.std.proofs.lemmas.Bool.{ne_eqb, true≢false}
use Rattle.arrayvec.specs.ArrayString.{ArrayString}
use Rattle.pb_core.proofs.Conditions.{both, left_of, right_of}
use Rattle.pb_core.proofs.MoneyBack.{reads_back, spelled}
use Rattle.pb_core.proofs.MoneyParts.{is_number-numeral}
use Rattle.pb_core.specs.Money.{money_of}
use Rattle.pb_core.specs.MoneyText.{IsMoneyText, money_text}
use Rattle.pb_core.specs.declared.money_fault.MoneyFault.{MoneyFault}
use Rattle.pb_price.specs.declared.grain.Grain.{Grain}
use Rattle.pb_price.specs.declared.grain.Grain.TheVariants.{Fine, Hundredths}
use Rattle.pb_rounds.specs.CountFault.{largest_step}
use Rattle.pb_rounds.specs.Inner.RuleNames.{named}
use Rattle.pb_rounds.specs.RuleNames.{lot_name, profile_name, ties_name}
use Rattle.pb_rounds.specs.declared.measure.Measure.{Measure}
use Rattle.pb_rounds.specs.declared.measure.Measure.TheVariants.{Votes, Cost}
use Rattle.pb_rounds.specs.declared.options.Completion.{Completion}
use Rattle.pb_rounds.specs.declared.options.Completion.TheVariants.{Plain, Add1, NoShares}
use Rattle.pb_rounds.specs.declared.rule.FillUp.{FillUp}
use Rattle.pb_rounds.specs.declared.rule.FillUp.TheVariants.{Nothing, MostVotes}
use Rattle.pb_rounds.specs.declared.rule.Rule.{Rule}
use Rattle.pb_rounds.specs.declared.tie_rule.TieKeys.{TieKeys}
use Rattle.pb_rounds.specs.declared.tie_rule.TieKeys.TheVariants as tie
use Rattle.pb_rounds.specs.declared.tie_rule.TieRule.{TieRule}

-- the measure by its first letter
abbrev measure_in : List ℕ → Measure
measure_in t = if get_or t 3 0 == 118 then Votes else Cost

measure_said : (m : Measure) (g : Grain) (c : Completion) (f : FillUp) (s : ℕ) (t : List ℕ) → c ≢ NoShares → measure_in (named m g c f s t) ≡ m
measure_said m g NoShares f s t shares = absurd (shares refl)
measure_said Votes g Plain Nothing s t shares = refl
measure_said Votes g Add1 Nothing s t shares = refl
measure_said Votes g Plain MostVotes s t shares = refl
measure_said Votes g Add1 MostVotes s t shares = refl
measure_said Cost g Plain Nothing s t shares = refl
measure_said Cost g Add1 Nothing s t shares = refl
measure_said Cost g Plain MostVotes s t shares = refl
measure_said Cost g Add1 MostVotes s t shares = refl

-- the completion by its first letter and its fifth one, and where it begins by the measure's
abbrev letters : List ℕ → ℕ
letters t = let at = if get_or t 3 0 == 118 then 9 else 8 in get_or t at 0 + get_or t (at + 4) 0

abbrev completion_in : List ℕ → Completion
completion_in t = if nat_le 77 (get_or t 0 0) then NoShares else if (letters t == 144) || (letters t == 214) then Add1 else Plain

completion_said : (m : Measure) (g : Grain) (c : Completion) (f : FillUp) (s : ℕ) (t : List ℕ) → completion_in (named m g c f s t) ≡ c
completion_said m g NoShares Nothing s t = refl
completion_said m g NoShares MostVotes s t = refl
completion_said Votes g Plain Nothing s t = refl
completion_said Votes g Add1 Nothing s t = refl
completion_said Votes g Plain MostVotes s t = refl
completion_said Votes g Add1 MostVotes s t = refl
completion_said Cost g Plain Nothing s t = refl
completion_said Cost g Add1 Nothing s t = refl
completion_said Cost g Plain MostVotes s t = refl
completion_said Cost g Add1 MostVotes s t = refl

abbrev fill_up_in : List ℕ → FillUp
fill_up_in t = let first = get_or t 0 0 in
    if first == 77 then MostVotes else if first == 78 then Nothing else if nat_le 200 (letters t) then MostVotes else Nothing

fill_up_said : (m : Measure) (g : Grain) (c : Completion) (f : FillUp) (s : ℕ) (t : List ℕ) → fill_up_in (named m g c f s t) ≡ f
fill_up_said m g NoShares Nothing s t = refl
fill_up_said m g NoShares MostVotes s t = refl
fill_up_said Votes g Plain Nothing s t = refl
fill_up_said Votes g Add1 Nothing s t = refl
fill_up_said Votes g Plain MostVotes s t = refl
fill_up_said Votes g Add1 MostVotes s t = refl
fill_up_said Cost g Plain Nothing s t = refl
fill_up_said Cost g Add1 Nothing s t = refl
fill_up_said Cost g Plain MostVotes s t = refl
fill_up_said Cost g Add1 MostVotes s t = refl

-- the money behind the completion, whose length its letters tell
abbrev grain_at : List ℕ → ℕ
grain_at t = let at = if get_or t 3 0 == 118 then 10 else 9 in
    at + (if letters t == 214 then 5 else if letters t == 222 then 11 else 4)

abbrev grain_in : List ℕ → Grain
grain_in t = if get_or t (grain_at t) 0 == 102 then Fine else Hundredths

grain_said : (m : Measure) (g : Grain) (c : Completion) (f : FillUp) (s : ℕ) (t : List ℕ) → c ≢ NoShares → grain_in (named m g c f s t) ≡ g
grain_said m g NoShares f s t shares = absurd (shares refl)
grain_said Votes Hundredths Plain Nothing s t shares = refl
grain_said Votes Hundredths Plain MostVotes s t shares = refl
grain_said Votes Hundredths Add1 Nothing s t shares = refl
grain_said Votes Hundredths Add1 MostVotes s t shares = refl
grain_said Votes Fine Plain Nothing s t shares = refl
grain_said Votes Fine Plain MostVotes s t shares = refl
grain_said Votes Fine Add1 Nothing s t shares = refl
grain_said Votes Fine Add1 MostVotes s t shares = refl
grain_said Cost Hundredths Plain Nothing s t shares = refl
grain_said Cost Hundredths Plain MostVotes s t shares = refl
grain_said Cost Hundredths Add1 Nothing s t shares = refl
grain_said Cost Hundredths Add1 MostVotes s t shares = refl
grain_said Cost Fine Plain Nothing s t shares = refl
grain_said Cost Fine Plain MostVotes s t shares = refl
grain_said Cost Fine Add1 Nothing s t shares = refl
grain_said Cost Fine Add1 MostVotes s t shares = refl

abbrev amount_read : Result ℕ MoneyFault → ℕ
amount_read (Ok amount) = amount
amount_read (Err fault) = 0

-- a text without the sign `/`
abbrev has_no_slash : List ℕ → Bool
has_no_slash t = list_all (λ c. not (c == 47)) t

slash_differs : (c : ℕ) → is_ascii_digit c ≡ true → not (c == 47) ≡ true
slash_differs c digit = ap not (ne_eqb c 47 (λ same. true≢false (sym digit ∙ ap is_ascii_digit same)))

digits_have_none : (t : List ℕ) → list_all is_ascii_digit t ≡ true → has_no_slash t ≡ true
digits_have_none [] digits = refl
digits_have_none (c ∷ t) digits =
    both (not (c == 47)) (has_no_slash t) (slash_differs c (left_of (is_ascii_digit c) (list_all is_ascii_digit t) digits))
    (digits_have_none t (right_of (is_ascii_digit c) (list_all is_ascii_digit t) digits))

numeral_has_none : (t : List ℕ) → IsNumeral 10 t → has_no_slash t ≡ true
numeral_has_none t numeral = digits_have_none t (right_of (not (length t == 0)) (list_all is_ascii_digit t) (is_number-numeral t numeral))

both_have_none : (t u : List ℕ) → has_no_slash t ≡ true → has_no_slash u ≡ true → has_no_slash (t ++ u) ≡ true
both_have_none [] u none_t none_u = none_u
both_have_none (c ∷ t) u none_t none_u =
    both (not (c == 47)) (has_no_slash (t ++ u)) (left_of (not (c == 47)) (has_no_slash t) none_t)
    (both_have_none t u (right_of (not (c == 47)) (has_no_slash t) none_t) none_u)

money_has_none : (text whole decimals : List ℕ) → IsMoneyText text whole decimals → has_no_slash text ≡ true
money_has_none text whole decimals (numeral, inl (is, none)) = rw is (numeral_has_none whole numeral)
money_has_none text whole decimals (numeral, inr (decimal, inl is)) =
    rw is (both_have_none whole (codes "." ++ decimals) (numeral_has_none whole numeral) (numeral_has_none decimals decimal))
money_has_none text whole decimals (numeral, inr (decimal, inr is)) =
    rw is (both_have_none whole (codes "," ++ decimals) (numeral_has_none whole numeral) (numeral_has_none decimals decimal))

amount_has_none : (h : ℕ) → h ≤ largest_step → has_no_slash (money_text h) ≡ true
amount_has_none h small = let (whole, decimals, is, two, text, worth, zero_first) = spelled h (omega arith) in
    money_has_none (money_text h) whole decimals text

-- what stands before the first `/`, and after it, is the same in texts that are the same
first_of : {x y : ℕ} {xs ys : List ℕ} → x ∷ xs ≡ y ∷ ys → x ≡ y
first_of e = cc

parted : (t u after behind : List ℕ) → has_no_slash t ≡ true → has_no_slash u ≡ true → t ++ 47 ∷ after ≡ u ++ 47 ∷ behind → (t ≡ u) × (after ≡ behind)
parted [] [] after behind none_t none_u e = (refl, cc)
parted [] (d ∷ u) after behind none_t none_u e =
    absurd (true≢false (sym (left_of (not (d == 47)) (has_no_slash u) none_u) ∙ ap (λ x. not (x == 47)) (first_of (sym e))))
parted (c ∷ t) [] after behind none_t none_u e =
    absurd (true≢false (sym (left_of (not (c == 47)) (has_no_slash t) none_t) ∙ ap (λ x. not (x == 47)) (first_of e)))
parted (c ∷ t) (d ∷ u) after behind none_t none_u e =
    let later = parted t u after behind (right_of (not (c == 47)) (has_no_slash t) none_t) (right_of (not (d == 47)) (has_no_slash u) none_u) (ap (drop 1) e) in
    (ap (λ x. x ∷ t) (first_of e) ∙ ap (λ xs. d ∷ xs) later.0, later.1)

-- amounts of one text are one
same_amount : (a b : ℕ) → a ≤ largest_step → b ≤ largest_step → money_text a ≡ money_text b → a ≡ b
same_amount a b small_a small_b texts =
    ap amount_read (sym (reads_back a (omega arith)) ∙ ap money_of texts ∙ reads_back b (omega arith))

-- the step and the rule for ties, where they stand behind each other
abbrev ending : ℕ → List ℕ → List ℕ
ending s t = money_text s ++ (codes "/ties=" ++ t)

same_ending : (a b : ℕ) (t u : List ℕ) → a ≤ largest_step → b ≤ largest_step → ending a t ≡ ending b u → (a ≡ b) × (t ≡ u)
same_ending a b t u small_a small_b e =
    let parts = parted (money_text a) (money_text b) (codes "ties=" ++ t) (codes "ties=" ++ u) (amount_has_none a small_a) (amount_has_none b small_b) e in
    (same_amount a b small_a small_b parts.0, ap (drop 5) parts.1)

raised : (m : Measure) (g : Grain) (f : FillUp) (a b : ℕ) (t u : List ℕ) → a ≤ largest_step → b ≤ largest_step → named m g Add1 f a t ≡ named m g Add1 f b u → (a ≡ b) × (t ≡ u)
raised Votes Hundredths Nothing a b t u small_a small_b e = same_ending a b t u small_a small_b (ap (drop 30) e)
raised Votes Hundredths MostVotes a b t u small_a small_b e = same_ending a b t u small_a small_b (ap (drop 31) e)
raised Cost Hundredths Nothing a b t u small_a small_b e = same_ending a b t u small_a small_b (ap (drop 29) e)
raised Cost Hundredths MostVotes a b t u small_a small_b e = same_ending a b t u small_a small_b (ap (drop 30) e)
raised Votes Fine Nothing a b t u small_a small_b e = same_ending a b t u small_a small_b (ap (drop 24) e)
raised Votes Fine MostVotes a b t u small_a small_b e = same_ending a b t u small_a small_b (ap (drop 25) e)
raised Cost Fine Nothing a b t u small_a small_b e = same_ending a b t u small_a small_b (ap (drop 23) e)
raised Cost Fine MostVotes a b t u small_a small_b e = same_ending a b t u small_a small_b (ap (drop 24) e)

same_ties : (m : Measure) (g : Grain) (c : Completion) (f : FillUp) (a b : ℕ) (t u : List ℕ) → a ≤ largest_step → b ≤ largest_step
    → named m g c f a t ≡ named m g c f b u → t ≡ u
same_ties m g NoShares Nothing a b t u small_a small_b e = ap (drop 8) e
same_ties m g NoShares MostVotes a b t u small_a small_b e = ap (drop 8) e
same_ties m g Add1 f a b t u small_a small_b e = (raised m g f a b t u small_a small_b e).1
same_ties Votes Hundredths Plain Nothing a b t u small_a small_b e = ap (drop 30) e
same_ties Votes Hundredths Plain MostVotes a b t u small_a small_b e = ap (drop 37) e
same_ties Cost Hundredths Plain Nothing a b t u small_a small_b e = ap (drop 29) e
same_ties Cost Hundredths Plain MostVotes a b t u small_a small_b e = ap (drop 36) e
same_ties Votes Fine Plain Nothing a b t u small_a small_b e = ap (drop 24) e
same_ties Votes Fine Plain MostVotes a b t u small_a small_b e = ap (drop 31) e
same_ties Cost Fine Plain Nothing a b t u small_a small_b e = ap (drop 23) e
same_ties Cost Fine Plain MostVotes a b t u small_a small_b e = ap (drop 30) e

-- a rule for ties by its name
abbrev keys_in : List ℕ → TieKeys
keys_in t = let first = get_or t 0 0 in
    if (first == 102) || (first == 108) then tie.Nothing
    else if first == 118 then (if get_or t 6 0 == 99 then tie.VotesThenCost else tie.Votes)
    else (if get_or t 5 0 == 118 then tie.CostThenVotes else tie.Cost)

keys_said : (k : TieKeys) (lot : Option ArrayString) → keys_in (ties_name (record { keys = k; lot = lot })) ≡ k
keys_said tie.Nothing None = refl
keys_said tie.Votes None = refl
keys_said tie.Cost None = refl
keys_said tie.VotesThenCost None = refl
keys_said tie.CostThenVotes None = refl
keys_said tie.Nothing (Some seed) = refl
keys_said tie.Votes (Some seed) = refl
keys_said tie.Cost (Some seed) = refl
keys_said tie.VotesThenCost (Some seed) = refl
keys_said tie.CostThenVotes (Some seed) = refl

-- what a lot is drawn by, read behind the keys
abbrev seed_of : Option ArrayString → Option (List ℕ)
seed_of lot = option_map (λ (seed : ArrayString). seed.bytes) lot

abbrev behind : TieKeys → List ℕ → List ℕ
behind k t = drop (length (lot_name k)) t

-- whether a lot is named: where the keys are, `l` stands behind them
abbrev lot_in : TieKeys → List ℕ → Option (List ℕ)
lot_in tie.Nothing t = if get_or t 0 0 == 108 then Some (behind tie.Nothing t) else None
lot_in tie.Votes t = if get_or t 6 0 == 108 then Some (behind tie.Votes t) else None
lot_in tie.Cost t = if get_or t 5 0 == 108 then Some (behind tie.Cost t) else None
lot_in tie.VotesThenCost t = if get_or t 11 0 == 108 then Some (behind tie.VotesThenCost t) else None
lot_in tie.CostThenVotes t = if get_or t 11 0 == 108 then Some (behind tie.CostThenVotes t) else None

lot_said : (k : TieKeys) (lot : Option ArrayString) → lot_in k (ties_name (record { keys = k; lot = lot })) ≡ seed_of lot
lot_said tie.Nothing None = refl
lot_said tie.Votes None = refl
lot_said tie.Cost None = refl
lot_said tie.VotesThenCost None = refl
lot_said tie.CostThenVotes None = refl
lot_said tie.Nothing (Some seed) = refl
lot_said tie.Votes (Some seed) = refl
lot_said tie.Cost (Some seed) = refl
lot_said tie.VotesThenCost (Some seed) = refl
lot_said tie.CostThenVotes (Some seed) = refl

pub same_rules : (first second : TieRule) → ties_name first ≡ ties_name second → (first.keys ≡ second.keys) × (seed_of first.lot ≡ seed_of second.lot)
same_rules first second e =
    let same : first.keys ≡ second.keys = sym (keys_said first.keys first.lot) ∙ ap keys_in e ∙ keys_said second.keys second.lot in (
      same,
      sym (lot_said first.keys first.lot) ∙ ap (lot_in first.keys) e ∙ ap (λ k. lot_in k (ties_name second)) same ∙ lot_said second.keys second.lot,
    )

-- without shares measure and money are not named
any_measure : (m m2 : Measure) (g g2 : Grain) (f : FillUp) (s : ℕ) (t : List ℕ) → named m g NoShares f s t ≡ named m2 g2 NoShares f s t
any_measure m m2 g g2 f s t = refl

-- names that are the same have the same rule for ties
tied_names : (m : Measure) (g : Grain) (c : Completion) (f : FillUp) (s : ℕ) (t : List ℕ) (m2 : Measure) (g2 : Grain) (s2 : ℕ) (t2 : List ℕ) (c2 : Completion) (f2 : FillUp)
    → s ≤ largest_step → s2 ≤ largest_step → (c ≢ NoShares → m ≡ m2) → (c ≢ NoShares → g ≡ g2) → c ≡ c2 → f ≡ f2 → named m g c f s t ≡ named m2 g2 c2 f2 s2 t2 → t ≡ t2
tied_names m g NoShares f s t m2 g2 s2 t2 c2 f2 small small2 same_m same_g same_c same_f e =
    same_ties m g NoShares f s s2 t t2 small small2
    (e ∙ ap (λ x. named m2 g2 x f2 s2 t2) (sym same_c) ∙ ap (λ x. named m2 g2 NoShares x s2 t2) (sym same_f) ∙ any_measure m2 m g2 g f s2 t2)
tied_names m g Plain f s t m2 g2 s2 t2 c2 f2 small small2 same_m same_g same_c same_f e =
    same_ties m g Plain f s s2 t t2 small small2
    (e ∙ ap (λ x. named m2 g2 x f2 s2 t2) (sym same_c) ∙ ap (λ x. named m2 g2 Plain x s2 t2) (sym same_f) ∙ ap (λ x. named x g2 Plain f s2 t2) (sym (same_m (λ none. absurd (cc none))))
    ∙ ap (λ x. named m x Plain f s2 t2) (sym (same_g (λ none. absurd (cc none)))))
tied_names m g Add1 f s t m2 g2 s2 t2 c2 f2 small small2 same_m same_g same_c same_f e =
    same_ties m g Add1 f s s2 t t2 small small2
    (e ∙ ap (λ x. named m2 g2 x f2 s2 t2) (sym same_c) ∙ ap (λ x. named m2 g2 Add1 x s2 t2) (sym same_f) ∙ ap (λ x. named x g2 Add1 f s2 t2) (sym (same_m (λ none. absurd (cc none))))
    ∙ ap (λ x. named m x Add1 f s2 t2) (sym (same_g (λ none. absurd (cc none)))))

-- rules of one name are alike
pub names_apart : (first second : Rule) → first.options.step ≤ largest_step → second.options.step ≤ largest_step → profile_name first ≡ profile_name second
    → (first.options.completion ≢ NoShares → (first.options.measure ≡ second.options.measure) × (first.options.grain ≡ second.options.grain))
    × (first.options.completion ≡ second.options.completion) × (first.fill_up ≡ second.fill_up)
    × (first.options.completion ≡ Add1 → first.options.step ≡ second.options.step)
    × (first.ties.keys ≡ second.ties.keys) × (seed_of first.ties.lot ≡ seed_of second.ties.lot)
names_apart first second small_first small_second e =
    let m = first.options.measure in
    let g = first.options.grain in
    let c = first.options.completion in
    let f = first.fill_up in
    let s = first.options.step in
    let t = ties_name first.ties in
    let m2 = second.options.measure in
    let g2 = second.options.grain in
    let c2 = second.options.completion in
    let f2 = second.fill_up in
    let s2 = second.options.step in
    let t2 = ties_name second.ties in
    let same_c : c ≡ c2 = sym (completion_said m g c f s t) ∙ ap completion_in e ∙ completion_said m2 g2 c2 f2 s2 t2 in
    let same_m : c ≢ NoShares → m ≡ m2 = λ shares. sym (measure_said m g c f s t shares) ∙ ap measure_in e ∙ measure_said m2 g2 c2 f2 s2 t2 (λ none. shares (same_c ∙ none)) in
    let same_g : c ≢ NoShares → g ≡ g2 = λ shares. sym (grain_said m g c f s t shares) ∙ ap grain_in e ∙ grain_said m2 g2 c2 f2 s2 t2 (λ none. shares (same_c ∙ none)) in
    let same_f : f ≡ f2 = sym (fill_up_said m g c f s t) ∙ ap fill_up_in e ∙ fill_up_said m2 g2 c2 f2 s2 t2 in
    let back : c ≢ NoShares → named m2 g2 c2 f2 s2 t2 ≡ named m g c f s2 t2 = λ shares.
    ap (λ x. named x g2 c2 f2 s2 t2) (sym (same_m shares)) ∙ ap (λ x. named m x c2 f2 s2 t2) (sym (same_g shares))
    ∙ ap (λ x. named m g x f2 s2 t2) (sym same_c) ∙ ap (λ x. named m g c x s2 t2) (sym same_f) in
    let rules = same_rules first.ties second.ties (tied_names m g c f s t m2 g2 s2 t2 c2 f2 small_first small_second same_m same_g same_c same_f e) in (
      λ shares. (same_m shares, same_g shares),
      same_c,
      same_f,
      λ raises.
          (raised m g f s s2 t t2 small_first small_second (subst (λ x. named m g x f s t ≡ named m g x f s2 t2) raises (e ∙ back (λ none. absurd (cc (raises, none)))))).0,
      rules.0,
      rules.1,
    )
