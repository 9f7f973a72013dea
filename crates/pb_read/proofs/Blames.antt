-- When the reader is at fault, and how many records are read.
use Rattle.std.proofs.Common.{◌≡◌, ◌≤◌, ℕ, Bool, true, false, cond, List, [], ◌∷◌, Option, Some, None, refl, ap, sym, ◌∙◌, subst, arith, length, length-append}
use Rattle.std.specs.Prelude.{find}
use Rattle.std.proofs.lemmas.Bool.{false≢true}
use Rattle.std.proofs.lemmas.Option.{same_Some}
use Rattle.pb_rows.specs.Reading.{Fields, IsNext}
use Rattle.pb_rows.specs.Inner.Reading.{HasReadAtMost}
use Rattle.pb_rows.specs.declared.fault.RecordsFault.{RecordsFault}
use Rattle.pb_rows.proofs.RecordsRead.{HasReadAtMost-more}
use Rattle.pb_read.proofs.ListFacts.{some≢none}
use Rattle.pb_read.proofs.LowestKind.{never_applies}
use Rattle.pb_read.specs.Faults.{applies}
use Rattle.pb_read.specs.Inner.Checking.{Blames, IsRefusal}
use Rattle.pb_read.specs.Inner.Machine.{Explains, Position, row_fault, row_kinds}
use Rattle.pb_read.specs.Inner.Progresses.{BlamesReader}
use Rattle.pb_read.specs.Inner.Showing.{Shows}
use Rattle.pb_read.specs.Shown.{Sight}
use Rattle.pb_read.specs.Stages.{Next}
use Rattle.pb_read.specs.StandsFor.{most_records}
use Rattle.pb_read.specs.declared.check.Verdict.{Verdict}
use Rattle.pb_read.specs.declared.check.Verdict.TheVariants.{Passes, LeavesOut, Ends, Done}
use Rattle.pb_read.specs.declared.fault.ReadFault.{ReadFault}
use Rattle.pb_read.specs.declared.fault.ReadKind.{ReadKind}
use Rattle.pb_read.specs.declared.fault.ReadKind.TheVariants as kinds
use Rattle.pb_read.specs.declared.progress.Stage.{Stage}

found_passes : (test : ReadKind → Bool) (ks : List ReadKind) (kind : ReadKind) → find test ks ≡ Some kind → test kind ≡ true
found_passes test [] kind found = absurd (some≢none (sym found))
found_passes test (k ∷ ks) kind found = go (test k) refl found (found_passes test ks kind)
  where
    go : (t : Bool) → test k ≡ t → cond t (Some k) (find test ks) ≡ Some kind → (find test ks ≡ Some kind → test kind ≡ true) → test kind ≡ true
    go true is e later = subst (λ x. test x ≡ true) (same_Some k kind e) is
    go false is e later = later e

-- no row, and no end of a file, is the reader's fault
pub never_read_failed : (p : Position) (n : Next) → row_fault p n ≡ Some kinds.ReadFailed → ⊥
unfolding row_fault
never_read_failed p n e = false≢true (sym (never_applies p n) ∙ found_passes (λ kind. applies kind p n) row_kinds kinds.ReadFailed e)

pub blames_none : (kind : ReadKind) (stopped : Option RecordsFault) → BlamesReader kind None → BlamesReader kind stopped
blames_none kinds.ReadFailed stopped blames = absurd (some≢none (sym blames))
blames_none _ stopped blames = tt

pub explained_blames : (p : Position) (n : Next) (kind : ReadKind) → Explains kind (row_fault p n) → BlamesReader kind None
explained_blames p n kinds.ReadFailed said = absurd (never_read_failed p n said)
explained_blames p n _ said = tt

-- what is refused where nothing stopped the reader
pub refusal_blames : (stage : Stage) (kind : ReadKind) (verdict : Verdict) → BlamesReader kind None → IsRefusal stage kind verdict → Blames verdict None
refusal_blames stage kind Passes blames refusal = tt
refusal_blames stage kind Done blames refusal = tt
refusal_blames stage kind (LeavesOut other) blames refusal = subst (λ k. BlamesReader k None) (sym refusal.0) blames
refusal_blames stage kind (Ends other) blames refusal = subst (λ k. BlamesReader k None) (sym refusal.0) blames

pub verdict_blames : (verdict : Verdict) (stopped : Option RecordsFault) → Blames verdict None → Blames verdict stopped
verdict_blames Passes stopped blames = tt
verdict_blames Done stopped blames = tt
verdict_blames (LeavesOut kind) stopped blames = blames_none kind stopped blames
verdict_blames (Ends kind) stopped blames = blames_none kind stopped blames

-- one record more was read, at most
pub one_read : (left after : Option (List Fields)) (found : Bool) (fields : Fields) → IsNext left after found fields → HasReadAtMost 1 left after
one_read None after found fields next = tt
one_read (Some all) after found fields next = HasReadAtMost-more 1 all [] all after found fields refl (omega arith) next

-- and so many before it
pub few_read : (all left after : Option (List Fields)) (count : ℕ) (faults : List ReadFault) (p : Position) (a b : Option (List Sight)) → Shows all left count faults p a b → count ≤ most_records → HasReadAtMost 1 left after → HasReadAtMost 2000001 all after
few_read None left after count faults p a b shows few one = tt
few_read (Some all) None after count faults p a b shows few one = absurd shows
few_read (Some all) (Some left) None count faults p a b shows few one = tt
few_read (Some all) (Some left) (Some after) count faults p a b shows few one =
    omega (arith, ap length shows.cut, length-append shows.done left, shows.count_is, few, one)
