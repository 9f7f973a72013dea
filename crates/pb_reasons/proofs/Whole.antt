-- The rows of all ties, and whether they are all.
use Rattle.std.proofs.Common.{◌≡◌, ◌∙◌, List, IfSome, All, ap, arith, inl, inr, is_some, length, map, subst, sym, take}
use Rattle.std.specs.Prelude.{nat_le}
use Rattle.std.specs.List.{list_any}
use Rattle.std.proofs.lemmas.Bool.{cases_lt, le-leb, lt-leb}
use Rattle.std.proofs.lemmas.List.{length-take, take-take}
use Rattle.std.proofs.lemmas.Simd.{map-map}
use Rattle.pb_reasons.specs.AllTies.{AreTieRows, Changes, all_ties, different, is_same_pair}
use Rattle.pb_reasons.specs.CountedElection.{CountedElectionView}
use Rattle.pb_reasons.specs.Inner.AllTies.{AreRowsOf}
use Rattle.pb_reasons.specs.declared.tie.Tie.{Tie}
use Rattle.pb_reasons.specs.declared.told_tie.TieRow.{TieRow}
use Rattle.pb_reasons.specs.declared.told_tie.ToldTie.{ToldTie}

-- one more than are told at most says that these are not all
pub whole_by : {X : Type 0} (all told : List X) → told ≡ take 100001 all → nat_le (length told) 100000 ≡ nat_le (length all) 100000
whole_by all told is =
    let long = ap length is ∙ length-take 100001 all in
    elim (cases_lt 100000 (length all)) [
      | inl more ↦ lt-leb (length told) 100000 (omega (arith, more, long)) ∙ sym (lt-leb (length all) 100000 more)
      | inr few ↦ le-leb (length told) 100000 (omega (arith, few, long)) ∙ sym (le-leb (length all) 100000 (omega (arith, few)))
    ]

pub are_tie_rows : (x : CountedElectionView) (told first : List ToldTie) (rows : List TieRow) → told ≡ take 100001 (all_ties x) → first ≡ take 100000 told
    → AreRowsOf x first rows → AreTieRows x 100000 rows
are_tie_rows x told first rows all cut (told_are, changes_are) =
    let ties : map (λ (t : ToldTie). t.tie) first ≡ map (λ (r : TieRow). r.told.tie) rows =
    ap (map (λ (t : ToldTie). t.tie)) (sym told_are) ∙ map-map (λ (t : ToldTie). t.tie) (λ (r : TieRow). r.told) rows in (
      told_are ∙ cut ∙ ap (take 100000) all ∙ take-take 100000 100001 (all_ties x) (omega arith),
      subst (λ (ts : List Tie). All (λ (r : TieRow). (is_some r.changes ≡ list_any (is_same_pair r.told.tie) (take 100 (different ts))) × IfSome r.changes (Changes x r.told.tie)) rows)
          ties changes_are,
    )
