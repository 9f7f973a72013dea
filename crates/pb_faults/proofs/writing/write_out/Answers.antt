use Rattle.std.proofs.Common.{rules, ◌≡◌, ◌≤◌, ℕ, ◌+◌, ◌-◌, List, Option, None, Some, ◌++◌, length, take, drop, sym, ap, ◌∙◌, subst, take-add}
use Rattle.std.proofs.lemmas.List.{take_rest}
use Rattle.std.proofs.KnownBytes.{Appends-trans}
use Rattle.std.specs.Io.KnownBytes.{Appends, Keeps}
use Rattle.pb_faults.proofs.writing.write_out.Goals as goal
use Rattle.pb_faults.proofs.writing.write_out.Goals.{in-Ok, in-Err+else-ne}

-- a front, and what was written behind it
front_grows : (a b c : Option (List ℕ)) (bs : List ℕ) (n k m : ℕ) → m ≡ n + k → Appends a b (take n bs)
    → Appends b c (take k (take (length bs - n) (drop n bs))) → Appends a c (take m bs)
front_grows a b c bs n k m is front more =
    let joined : take n bs ++ take k (take (length bs - n) (drop n bs)) ≡ take m bs =
    ap (λ l. take n bs ++ take k l) (take_rest bs n) ∙ sym (take-add n k bs) ∙ ap (λ m. take m bs) (sym is) in
    subst (Appends a c) joined (Appends-trans a b c _ _ front more)

front_stays : (a b c : Option (List ℕ)) (bs : List ℕ) (n m : ℕ) → m ≡ n → Appends a b (take n bs) → Keeps b c → Appends a c (take m bs)
front_stays None b c bs n m is front kept = tt
front_stays (Some x) None c bs n m is front kept = absurd front
front_stays (Some x) (Some y) None bs n m is front kept = absurd kept
front_stays (Some x) (Some y) (Some z) bs n m is front kept = kept ∙ front ∙ ap (λ m. x ++ take m bs) (sym is)

pub loop-preserved : goal.loop-preserved
loop-preserved g c =
    let (fits, front) = c.loop.invariant in
    elim c.match-write.branch [
      | in-Ok w ↦ (search rules, front_grows _ _ _ _ _ _ _ w.written-is front w.in-Ok.ensures.bytes)
      | in-Err+else-ne w ↦ (search rules, front_stays _ _ _ _ _ _ w.written-is front w.in-Err.ensures.bytes)
    ]
