-- A desk of the program has room for all that the clerks of a script ask.
use Rattle.std.proofs.Common.{◌≡◌, ◌≢◌, ℕ, zero, suc, ◌+◌, ◌-◌, ◌*◌, ◌<◌, ◌≤◌, List, [], ◌∷◌, length, get_or, take, drop, map, true, false, cond, refl, sym, ap, inl, inr, arith}
use Rattle.std.specs.Prelude.{All, ◌==◌}
use Rattle.std.proofs.lemmas.Bool.{cases_eq, cases_lt, eq-eqb, ne_eqb}
use Rattle.std.proofs.lemmas.List.{length-map, length-take}
use Rattle.std.proofs.lemmas.List.Elements.{All-head, All-tail}
use Rattle.pb_core.specs.Request.{EntryView, RequestView}
use Rattle.pb_desk.specs.Replay.{most_clerks}
use Rattle.pb_shared.specs.Inner.Entries.{entries_by}
use Rattle.pb_read.specs.StandsFor.{most_records}
use Rattle.pb_script.specs.Serving.{program_room}
use Rattle.pb_script.specs.Inner.Serving.{ServesAll, ServesUpTo, list_of}

-- how many entries of a journal are this clerk's
abbrev count_of : ℕ → List EntryView → ℕ
count_of clerk journal = length (entries_by clerk journal)

-- the sum of a number for each clerk below this one
abbrev total : ℕ → (ℕ → ℕ) → ℕ
total zero f = 0
total (suc n) f = total n f + f n

total_none : (n : ℕ) → total n (λ k. 0) ≡ 0
total_none zero = refl
total_none (suc n) = let rest = total_none n in omega arith

total_same : (n : ℕ) (f g : ℕ → ℕ) → ((k : ℕ) → k < n → f k ≡ g k) → total n f ≡ total n g
total_same zero f g same = refl
total_same (suc n) f g same =
    let rest = total_same n f g (λ k below. same k (omega arith)) in
    let last = same n (omega arith) in
    omega arith

total_few : (n : ℕ) (f : ℕ → ℕ) → ((k : ℕ) → k < n → f k ≤ most_records) → total n f ≤ n * 2000000
total_few zero f few = omega arith
total_few (suc n) f few =
    let rest = total_few n f (λ k below. few k (omega arith)) in
    let last = few n (omega arith) in
    omega arith

hits : (k : ℕ) (x : EntryView) (xs : List EntryView) → x.clerk ≡ k → count_of k (x ∷ xs) ≡ suc (count_of k xs)
hits k x xs its =
    let hit : (x.clerk == k) ≡ true = eq-eqb x.clerk k its in
    ap (λ t. length (cond t (x ∷ entries_by k xs) (entries_by k xs))) hit

misses : (k : ℕ) (x : EntryView) (xs : List EntryView) → x.clerk ≢ k → count_of k (x ∷ xs) ≡ count_of k xs
misses k x xs other =
    let miss : (x.clerk == k) ≡ false = ne_eqb x.clerk k other in
    ap (λ t. length (cond t (x ∷ entries_by k xs) (entries_by k xs))) miss

-- an entry more is one clerk's
one_more : (n : ℕ) (x : EntryView) (xs : List EntryView) → x.clerk < n → total n (λ k. count_of k (x ∷ xs)) ≡ suc (total n (λ k. count_of k xs))
one_more zero x xs below = absurd (omega arith)
one_more (suc n) x xs below = elim (cases_eq x.clerk n) [
  | inl its ↦
      let last = hits n x xs its in
      let rest = total_same n (λ k. count_of k (x ∷ xs)) (λ k. count_of k xs) (λ k small. misses k x xs (λ e. absurd (omega arith))) in
      omega arith
  | inr other ↦
      let last = misses n x xs other in
      let rest = one_more n x xs (omega arith) in
      omega arith
]

-- a journal is as long as its clerks' entries are together
length_is : (n : ℕ) (journal : List EntryView) → All (λ x. x.clerk < n) journal → length journal ≡ total n (λ k. count_of k journal)
length_is n [] by = sym (total_none n)
length_is n (x ∷ xs) by =
    let more = one_more n x xs (All-head (λ (y : EntryView). y.clerk < n) x xs by) in
    let rest = length_is n xs (All-tail (λ (y : EntryView). y.clerk < n) x xs by) in
    omega arith

-- clerks who ask no more than a script has rows leave room
pub few_served : (done : ℕ) (lists : List (List RequestView)) (served : List ℕ) (journal : List EntryView) → ServesUpTo done lists served journal →
    All (λ list. length list ≤ most_records) lists → length journal ≤ length lists * 2000000
few_served done lists served journal serves few =
    let is = length_is (length lists) journal serves.by_clerks in
    let all = total_few (length lists) (λ k. count_of k journal) few_of in
    omega arith
  where
    few_of : (k : ℕ) → k < length lists → count_of k journal ≤ most_records
    few_of k below =
        let size = length-map (entries_by k journal) (λ (y : EntryView). y.request) in
        let all = few k [] below in
        elim (cases_lt k done) [
          | inl before ↦ let whole = ap length (serves.whole k before below) in omega arith
          | inr after ↦
              let first = ap length (serves.first k after below) in
              let short = length-take (get_or served k 0) (list_of lists k) in
              omega arith
        ]

-- so a journal of all that they ask leaves room for one entry more
pub room_for_last : (lists : List (List RequestView)) (journal : List EntryView) (room : ℕ) → ServesAll lists journal →
    All (λ list. length list ≤ most_records) lists → length lists ≤ most_clerks → room ≡ program_room → length journal < room
room_for_last lists journal room serves few clerks is =
    let all = few_served (length lists) lists [] journal (record {
      whole = λ k before below. serves.in_order k below;
      first = λ k after below. absurd (omega arith);
      by_clerks = serves.by_clerks;
    }) few in
    omega arith

-- there is room for what is left of a clerk's requests
pub room_for_rest : {X : Type 0} (f : X → RequestView) (n : ℕ) (items : List X) (list : List RequestView) (before room : ℕ) → map f items ≡ list → length list ≤ most_records →
    before ≤ 128000000 → room ≡ 4294967295 → before + length (take (length items - n) (drop n items)) ≤ room
room_for_rest f n items list before room are few so_far is =
    let size = length-map items f in
    let same = ap length are in
    let part = length-take (length items - n) (drop n items) in
    omega arith
