-- What a worker draws and answers, and how the answers come together.
use Rattle.std.proofs.Common.{◌≡◌, ℕ, zero, suc, ◌+◌, ◌<◌, ◌≤◌, min, cond, List, [], ◌∷◌, ◌++◌, length, map, replicate, Option, None, Result, Ok, Err, get_or, set, refl, sym, ap, subst, ◌∙◌, inl, inr, arith, append_assoc, append-nil}
use Rattle.std.specs.Prelude.{All, IfOk, OnOk, nat_eq, nat_le, nat_lt, sum_by, slice_index}
use Rattle.std.specs.List.{range_with_len}
use Rattle.std.proofs.lemmas.Bool.{cases_eq, cases_lt, eq-eqb, ne_eqb, le-ltb, lt-leb, lt-ltb, le-leb}
use Rattle.std.proofs.lemmas.List.{ext_get_or, get_or-map, get_or-set_other, get_or-set_same, length-append, length-map, length-replicate, length-set, map-append}
use Rattle.std.proofs.lemmas.List.Elements.{All-append, All-tail}
use Rattle.std.proofs.lemmas.List.Sums.{sum_by-cons, sum_by-append, sum_by_push}
use Rattle.pb_core.specs.Election.{most_projects}
use Rattle.pb_price.specs.Inner.Claims.{all_joined, drawn, joined, past_end, AreBelowOnce}
use Rattle.pb_price.specs.Price.{PriceView, price_at}
use Rattle.pb_price.specs.Supporters.{SupportView}
use Rattle.pb_price.specs.Inner.Working.{drawn_pieces, gathered, placed, times, AreGathered, IsAnswer, IsDone, IsWorking}
use Rattle.pb_price.specs.declared.answer.Answer.{Answer}
use Rattle.pb_price.specs.declared.claims.drawn.Drawn.{Drawn}
use Rattle.pb_price.proofs.ClaimSteps.{past_range, weight_more}

abbrev pub pieces_of : List Answer → List ℕ
pieces_of answers = map (λ answer. answer.piece) answers

ones : (xs : List ℕ) → sum_by (λ x. 1) xs ≡ length xs
ones [] = refl
ones (x ∷ xs) = omega (arith, sum_by-cons (λ (k : ℕ). 1) x xs, ones xs)

ones_below : (n : ℕ) → sum_by (λ x. 1) (range_with_len 0 n) ≡ n
ones_below zero = refl
ones_below (suc n) =
    let one : suc n ≡ n + 1 = omega arith in
    ap (λ k. sum_by (λ x. 1) (range_with_len 0 k)) one ∙ omega (arith, weight_more (λ k. 1) n, ones_below n)

length_pieces : (answers : List Answer) → length (pieces_of answers) ≡ length answers
length_pieces [] = refl
length_pieces (x ∷ xs) = ap suc (length_pieces xs)

-- a view without repetition has no more numbers than there are up to the last
draws_few : (numbers : List ℕ) (found : ℕ) → ((weight : ℕ → ℕ) → sum_by weight numbers ≤ sum_by weight (range_with_len 0 (found + 1)))
    → length numbers ≤ found + 1
draws_few numbers found once = omega (arith, once (λ k. 1), ones numbers, ones_below (found + 1))

all_cons : {X : Type 0} (P : X → Type 0) (x : X) (xs : List X) → P x → All P xs → All P (x ∷ xs)
all_cons P x xs h others zero d l = h
all_cons P x xs h others (suc k) d l = others k d (omega arith)

-- the last of a list, and the others
all_popped : {X : Type 0} (P : X → Type 0) (xs : List X) (x : X) → All P (xs ++ x ∷ []) → All P xs × P x
all_popped P [] x h = ((λ k d l. absurd (omega arith)), h 0 x (omega arith))
all_popped P (y ∷ ys) x h =
    let others = all_popped P ys x (All-tail P y (ys ++ x ∷ []) h) in
    (all_cons P y ys (h 0 y (omega arith)) others.0, others.1)

pub popped : {X : Type 0} (P : X → Type 0) (old new : List X) (x : X) → old ≡ new ++ x ∷ [] → All P old → All P new × P x
popped P old new x e h = all_popped P new x (subst (All P) e h)

-- the last of some results, where it is none of a refusal
pub popped_done : {X E : Type 0} (P : X → Type 0) (old new : List (Result X E)) (r : Result X E) (x : X) → old ≡ new ++ r ∷ [] → r ≡ Ok x → All (λ r. IfOk r P) old → All (λ r. IfOk r P) new × P x
popped_done P old new r x e is h =
    let both = popped (λ r. IfOk r P) old new r e h in
    (both.0, subst (λ r. IfOk r P) is both.1)

-- the last worker is the first whose answers are read, and whose claim is joined
pub gathered_popped : {W : Type 0} (answers : W → List Answer) (prices : List (Option PriceView)) (ws : List W) (w : W)
    → gathered answers prices (ws ++ w ∷ []) ≡ gathered answers (placed prices (answers w)) ws
gathered_popped answers prices [] w = refl
gathered_popped answers prices (v ∷ ws) w = ap (λ ps. placed ps (answers v)) (gathered_popped answers prices ws w)

pub joined_popped : {W : Type 0} (claim : W → Drawn) (stock : Drawn) (ws : List W) (w : W)
    → all_joined claim stock (ws ++ w ∷ []) ≡ all_joined claim (joined stock (claim w)) ws
joined_popped claim stock [] w = refl
joined_popped claim stock (v ∷ ws) w = ap (λ all. joined all (claim v)) (joined_popped claim stock ws w)

pub length_placed : (prices : List (Option PriceView)) (answers : List Answer) → length (placed prices answers) ≡ length prices
length_placed prices [] = refl
length_placed prices (a ∷ answers) = length_placed (set prices a.piece a.price) answers ∙ length-set prices a.piece a.price

module _ (s : SupportView) (rests projects : List ℕ) where
  -- answers are of pieces
  none_past_end : (answers : List Answer) → All (IsAnswer s rests projects) answers → past_end (length projects) (pieces_of answers) ≡ 0
  none_past_end [] right = refl
  none_past_end (x ∷ xs) right =
      let weight : ℕ → ℕ = λ k. cond (nat_le (length projects) k) 1 0 in
      let head = right 0 x (omega arith) in
      let here : weight x.piece ≡ 0 = rw (lt-leb (length projects) x.piece head.is_piece) refl in
      let others = none_past_end xs (All-tail (IsAnswer s rests projects) x xs right) in
      omega (arith, sum_by-cons weight x.piece (pieces_of xs), here, others)

  all_pieces : (answers : List Answer) → All (IsAnswer s rests projects) answers → drawn_pieces (length projects) (pieces_of answers) ≡ length answers
  all_pieces [] right = refl
  all_pieces (x ∷ xs) right =
      let weight : ℕ → ℕ = λ k. cond (nat_lt k (length projects)) 1 0 in
      let head = right 0 x (omega arith) in
      let here : weight x.piece ≡ 1 = rw (lt-ltb x.piece (length projects) head.is_piece) refl in
      let others = all_pieces xs (All-tail (IsAnswer s rests projects) x xs right) in
      omega (arith, sum_by-cons weight x.piece (pieces_of xs), here, others)

  pub may_draw : (v : Drawn) (answers : List Answer) (pieces : ℕ) → IsWorking s rests projects v answers → pieces ≡ length projects
      → past_end pieces v.numbers < v.seats
  may_draw v answers pieces w same =
      let none : past_end pieces v.numbers ≡ 0 = rw (same, w.drawn) (none_past_end answers w.right) in
      omega (arith, none, w.one_seat)

  all_one : (P : Answer → Type 0) (a : Answer) → P a → All P (a ∷ [])
  all_one P a h zero d l = h
  all_one P a h (suc k) d l = absurd (omega arith)

  -- a worker has fewer answers than the number that it draws
  pub works_towards : (v w : Drawn) (answers : List Answer) (found : ℕ) → IsWorking s rests projects v answers
      → w ≡ drawn v.seats (v.numbers ++ found ∷ [])
      → ((weight : ℕ → ℕ) → sum_by weight w.numbers ≤ sum_by weight (range_with_len 0 (found + 1)))
      → length answers ≤ found
  works_towards v w answers found h to once =
      let few = draws_few w.numbers found once in
      let more : length w.numbers ≡ length v.numbers + 1 = ap (λ u. length u.numbers) to ∙ length-append v.numbers (found ∷ []) in
      let same : length v.numbers ≡ length answers = ap length h.drawn ∙ length_pieces answers in
      omega (arith, few, more, same)

  -- one answer more
  pub works_on : (v w : Drawn) (answers new : List Answer) (a : Answer) (found : ℕ) → IsWorking s rests projects v answers
      → w ≡ drawn v.seats (v.numbers ++ found ∷ []) → a.piece ≡ found → found < length projects
      → ((weight : ℕ → ℕ) → sum_by weight w.numbers ≤ sum_by weight (range_with_len 0 (found + 1)))
      → a.price ≡ price_at s rests (slice_index projects found) → new ≡ answers ++ a ∷ [] → IsWorking s rests projects w new
  works_on v w answers new a found h to same less once price more =
      let stays = works_towards v w answers found h to once in
      let pieces : pieces_of (answers ++ a ∷ []) ≡ pieces_of answers ++ found ∷ [] = map-append (λ (b : Answer). b.piece) answers (a ∷ []) ∙ ap (λ n. pieces_of answers ++ n ∷ []) same in
      rw (to, more) (record {
        one_seat = h.one_seat;
        drawn = ap (λ ns. ns ++ found ∷ []) h.drawn ∙ sym pieces;
        right = All-append (IsAnswer s rests projects) answers (a ∷ []) h.right (all_one (IsAnswer s rests projects) a (record {
          is_piece = omega (arith, same, less);
          is_price = price ∙ ap (λ n. price_at s rests (slice_index projects n)) (sym same);
        }));
        few = omega (arith, length-append answers (a ∷ []), stays, less);
      })

  -- the answers in their places
  abbrev pub IsRight : List ℕ → List (Option PriceView) → Type 0
  IsRight numbers prices = (piece : ℕ) → piece < length projects → 0 < times piece numbers
      → get_or prices piece None ≡ price_at s rests (slice_index projects piece)

  right_more : (numbers : List ℕ) (prices : List (Option PriceView)) (a : Answer) → IsAnswer s rests projects a
      → length prices ≡ length projects → IsRight numbers prices
      → IsRight (numbers ++ a.piece ∷ []) (set prices a.piece a.price)
  right_more numbers prices a is each right = λ piece less some. elim (cases_eq piece a.piece) [
    | inl same ↦
        let here : get_or (set prices a.piece a.price) a.piece None ≡ a.price = get_or-set_same prices a.piece a.price None (omega (arith, each, is.is_piece)) in
        rw same (here ∙ is.is_price)
    | inr other ↦
        let one : ℕ → ℕ = λ n. cond (nat_eq n piece) 1 0 in
        let more : times piece (numbers ++ a.piece ∷ []) ≡ times piece numbers + one a.piece = sum_by_push one numbers a.piece in
        let not_here : one a.piece ≡ 0 = rw (ne_eqb a.piece piece (λ e. other (sym e))) refl in
        get_or-set_other prices a.piece piece a.price None other ∙ right piece less (omega (arith, some, more, not_here))
  ]

  right_all : (answers : List Answer) (numbers : List ℕ) (prices : List (Option PriceView)) → All (IsAnswer s rests projects) answers
      → length prices ≡ length projects → IsRight numbers prices
      → (length (placed prices answers) ≡ length projects) × IsRight (numbers ++ pieces_of answers) (placed prices answers)
  right_all [] numbers prices is each right = (each, rw append-nil right)
  right_all (a ∷ rest) numbers prices is each right =
      let more = right_more numbers prices a (is 0 a (omega arith)) each right in
      let others = right_all rest (numbers ++ a.piece ∷ []) (set prices a.piece a.price) (All-tail (IsAnswer s rests projects) a rest is) (length-set prices a.piece a.price ∙ each) more in
      (others.0, rw append_assoc at others.1)

  right_past : (numbers : List ℕ) (prices : List (Option PriceView)) (last : ℕ) → length projects ≤ last → IsRight numbers prices
      → IsRight (numbers ++ last ∷ []) prices
  right_past numbers prices last past right = λ piece less some.
      let one : ℕ → ℕ = λ n. cond (nat_eq n piece) 1 0 in
      let more : times piece (numbers ++ last ∷ []) ≡ times piece numbers + one last = sum_by_push one numbers last in
      let not_here : one last ≡ 0 = rw (ne_eqb last piece (λ e. absurd (omega (arith, e)))) refl in
      right piece less (omega (arith, some, more, not_here))

  -- before the first worker's
  pub gathers_none : (v : Drawn) (prices : List (Option PriceView)) → v ≡ drawn 0 [] → length prices ≡ length projects
      → AreGathered s rests projects v prices 0
  gathers_none v prices none each = rw none (record {
    one_each = each;
    right = λ piece less some. absurd (omega (arith, some));
    counted = refl;
    past_end_each = omega arith;
    fits = omega arith;
  })

  -- one worker's answers more
  pub gathers_more : (v w : Drawn) (prices : List (Option PriceView)) (answers : List Answer) (priced : ℕ)
      → length projects ≤ most_projects → AreGathered s rests projects v prices priced → IsDone s rests projects w answers
      → AreGathered s rests projects (joined v w) (placed prices answers) (priced + length answers)
  gathers_more v w prices answers priced most h done =
      let pieces : List ℕ = pieces_of answers in
      let all = right_all answers v.numbers prices done.right h.one_each h.right in
      let numbers : (joined v w).numbers ≡ (v.numbers ++ pieces) ++ done.last ∷ [] = ap (λ ns. v.numbers ++ ns) done.drawn ∙ sym (append_assoc v.numbers pieces (done.last ∷ [])) in
      let inside : ℕ → ℕ = λ n. cond (nat_lt n (length projects)) 1 0 in
      let outside : ℕ → ℕ = λ n. cond (nat_le (length projects) n) 1 0 in
      let last_in : inside done.last ≡ 0 = rw (le-ltb done.last (length projects) done.is_past_end) refl in
      let last_out : outside done.last ≡ 1 = rw (le-leb (length projects) done.last done.is_past_end) refl in
      record {
        one_each = all.0;
        right = rw numbers (right_past (v.numbers ++ pieces) (placed prices answers) done.last done.is_past_end all.1);
        counted =
            let first : drawn_pieces (length projects) (joined v w).numbers ≡ drawn_pieces (length projects) (v.numbers ++ pieces) + inside done.last = ap (drawn_pieces (length projects)) numbers ∙ sum_by_push inside (v.numbers ++ pieces) done.last in
            let second : drawn_pieces (length projects) (v.numbers ++ pieces) ≡ drawn_pieces (length projects) v.numbers + drawn_pieces (length projects) pieces = sum_by-append inside v.numbers pieces in
            omega (arith, first, second, last_in, all_pieces answers done.right, h.counted);
        past_end_each =
            let first : past_end (length projects) (joined v w).numbers ≡ past_end (length projects) (v.numbers ++ pieces) + outside done.last = ap (past_end (length projects)) numbers ∙ sum_by_push outside (v.numbers ++ pieces) done.last in
            let second : past_end (length projects) (v.numbers ++ pieces) ≡ past_end (length projects) v.numbers + past_end (length projects) pieces = sum_by-append outside v.numbers pieces in
            omega (arith, first, second, last_out, done.one_seat, h.past_end_each);
        fits = omega (arith, h.fits, done.few, done.one_seat, most);
      }

  -- the answers of all these workers
  pub gathers_these : {W : Type 0} (claim : W → Drawn) (answers : W → List Answer) (ws : List W)
      → length projects ≤ most_projects → All (λ w. IsDone s rests projects (claim w) (answers w)) ws
      → AreGathered s rests projects (all_joined claim (drawn 0 []) ws)
      (gathered answers (replicate (length projects) None) ws) (sum_by (λ w. length (answers w)) ws)
      × ((all_joined claim (drawn 0 []) ws).seats ≡ length ws)
  gathers_these claim answers [] most done =
      (gathers_none (drawn 0 []) (replicate (length projects) None) refl (length-replicate (length projects) None), refl)
  gathers_these claim answers (w ∷ ws) most done =
      let others = gathers_these claim answers ws most (All-tail (λ w. IsDone s rests projects (claim w) (answers w)) w ws done) in
      let here = done 0 w (omega arith) in
      let sum : sum_by (λ w. length (answers w)) ws + length (answers w) ≡ sum_by (λ w. length (answers w)) (w ∷ ws) = omega (arith, sum_by-cons (λ w. length (answers w)) w ws) in (
        subst (AreGathered s rests projects (all_joined claim (drawn 0 []) (w ∷ ws)) (gathered answers (replicate (length projects) None) (w ∷ ws))) sum
            (gathers_more (all_joined claim (drawn 0 []) ws) (claim w) (gathered answers (replicate (length projects) None) ws) (answers w)
            (sum_by (λ w. length (answers w)) ws) most others.0 here),
        omega (arith, others.1, here.one_seat),
      )

  -- a result that has them
  pub gathers_result : {G E : Type 0} (r : Result G E) (prices : G → List (Option PriceView)) (priced : G → ℕ) (v w : Drawn)
      (all : List (Option PriceView)) (n : ℕ) → OnOk r (w ≡ v) → IfOk r (λ g. prices g ≡ all) → IfOk r (λ g. priced g ≡ n)
      → AreGathered s rests projects v all n → IfOk r (λ g. AreGathered s rests projects w (prices g) (priced g))
  gathers_result (Ok g) prices priced v w all n joined read counted h = rw (joined, read, counted) h
  gathers_result (Err e) prices priced v w all n joined read counted h = tt

  times_below : (piece n : ℕ) → piece < n → 0 < times piece (range_with_len 0 n)
  times_below piece zero less = absurd (omega arith)
  times_below piece (suc n) less =
      let one : ℕ → ℕ = λ k. cond (nat_eq k piece) 1 0 in
      let step : suc n ≡ n + 1 = omega arith in
      let more : times piece (range_with_len 0 (suc n)) ≡ times piece (range_with_len 0 n) + one n = ap (λ k. times piece (range_with_len 0 k)) step ∙ weight_more one n in
      elim (cases_eq n piece) [
        | inl same ↦
            let here : one n ≡ 1 = rw (eq-eqb n piece same) refl in
            omega (arith, more, here)
        | inr other ↦ omega (arith, more, times_below piece n (omega (arith, other)))
      ]

  pieces_below : (pieces n : ℕ) → drawn_pieces pieces (range_with_len 0 n) ≡ min n pieces
  pieces_below pieces zero = omega arith
  pieces_below pieces (suc n) =
      let one : ℕ → ℕ = λ k. cond (nat_lt k pieces) 1 0 in
      let step : suc n ≡ n + 1 = omega arith in
      let more : drawn_pieces pieces (range_with_len 0 (suc n)) ≡ drawn_pieces pieces (range_with_len 0 n) + one n = ap (λ k. drawn_pieces pieces (range_with_len 0 k)) step ∙ weight_more one n in
      let before = pieces_below pieces n in
      elim (cases_lt n pieces) [
        | inl less ↦
            let here : one n ≡ 1 = rw (lt-ltb n pieces less) refl in
            omega (arith, more, before, here)
        | inr most ↦
            let here : one n ≡ 0 = rw (le-ltb n pieces most) refl in
            omega (arith, more, before, here)
      ]

  -- with all workers' answers each piece has its price, and as many were priced as there are pieces
  pub gathers_all : (v : Drawn) (prices : List (Option PriceView)) (priced next : ℕ) → AreGathered s rests projects v prices priced
      → AreBelowOnce v.numbers next → 0 < v.seats
      → (prices ≡ map (price_at s rests) projects) × (priced ≡ length projects)
  gathers_all v prices priced next h once some =
      let pieces : ℕ = length projects in
      let outside = once (λ n. cond (nat_le pieces n) 1 0) in
      let end : pieces ≤ next = omega (arith, outside, h.past_end_each, past_range pieces next) in
      let inside = once (λ n. cond (nat_lt n pieces) 1 0) in (
        ext_get_or None prices (map (price_at s rests) projects) (h.one_each ∙ sym (length-map projects (price_at s rests))) (λ i l.
            let less : i < pieces = omega (arith, h.one_each) in
            let found = once (λ n. cond (nat_eq n i) 1 0) in
            h.right i less (omega (arith, found, times_below i next (omega arith))) ∙ sym (get_or-map (price_at s rests) projects i 0 None less)),
        omega (arith, inside, h.counted, pieces_below pieces next),
      )
