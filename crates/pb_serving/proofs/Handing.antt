-- What a reader that hands out a row at a time has left.
use Rattle.std.proofs.Common.{◌≡◌, ◌∙◌, ℕ, ◌+◌, ◌-◌, ◌≤◌, List, [], ◌++◌, length, take, drop, length-append, Option, None, Some, Result, Ok, Err, IsErrAnd, sym, ap, arith}
use Rattle.std.proofs.Math.Seq.{take-add}
use Rattle.std.proofs.lemmas.List.{drop-drop, length-drop, length-take, take_at}
use Rattle.std.specs.Io.KnownBytes.{prepend_known, Keeps, ReadConsumes}

pub handed : (chunk new buf : List ℕ) (start end n : ℕ) → start ≤ end → end ≤ length chunk → n ≤ end - start → new ≡ take n (take (end - start) (drop start chunk))
    → take (end - start) (drop start chunk) ≡ take n (new ++ buf) ++ take (end - (start + n)) (drop (start + n) chunk)
handed chunk new buf start end n ordered within few is =
    let left = drop start chunk in
    let more = take (end - (start + n)) (drop n left) in
    let count : end - start ≡ n + (end - (start + n)) = omega (arith, ordered, few) in
    let parts : take (end - start) left ≡ take n left ++ more = ap (λ (k : ℕ). take k left) count ∙ take-add n (end - (start + n)) left in
    let size : length (take n left) ≡ n = omega (arith, length-take n left, length-drop start chunk, ordered, within, few) in
    let new_is : new ≡ take n left = is ∙ ap (λ (l : List ℕ). take n l) parts ∙ take_at (take n left) more n size in
    let front : take n (new ++ buf) ≡ take n left = ap (λ (l : List ℕ). take n (l ++ buf)) new_is ∙ take_at (take n left) buf n size in
    let back : more ≡ take (end - (start + n)) (drop (start + n) chunk) = ap (λ (l : List ℕ). take (end - (start + n)) l) (drop-drop n start chunk) in
    parts ∙ ap (λ (l : List ℕ). l ++ more) (sym front) ∙ ap (λ (l : List ℕ). take n (new ++ buf) ++ l) back

kept : (before after : List ℕ) (known now : Option (List ℕ)) → before ≡ [] → after ≡ [] → Keeps known now → Keeps (prepend_known before known) (prepend_known after now)
kept before after None now none still keeps = tt
kept before after (Some xs) None none still keeps = absurd keeps
kept before after (Some xs) (Some ys) none still keeps =
    ap (λ (l : List ℕ). l ++ ys) still ∙ keeps ∙ ap (λ (l : List ℕ). l ++ xs) (sym none)

pub read_failed : {E : Type 0} (r : Result ℕ E) (why : E) (before after buf : List ℕ) (known now : Option (List ℕ)) → IsErrAnd r (λ e. e ≡ why) → before ≡ [] → after ≡ [] → Keeps known now
    → ReadConsumes (prepend_known before known) (prepend_known after now) r buf
read_failed (Ok n) why before after buf known now is none still keeps = absurd is
read_failed (Err e) why before after buf known now is none still keeps = kept before after known now none still keeps

-- a chunk is as long as before where its front was read anew
pub refilled : (chunk front : List ℕ) (len : ℕ) → len ≡ length chunk → length front ≡ length chunk → length (take len (front ++ drop (length front) chunk)) ≡ length chunk
refilled chunk front len all same =
    omega (arith, length-take len (front ++ drop (length front) chunk), length-append front (drop (length front) chunk), length-drop (length front) chunk)
