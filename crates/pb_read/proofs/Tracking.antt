-- A file is read record by record: where it has come, and what each end of the reading means.
use Rattle.std.proofs.Common.{◌≡◌, ◌≤◌, ◌+◌, ◌⊎◌, ℕ, true, List, [], ◌∷◌, ◌++◌, Option, Some, None, Result, Ok, Err, refl, ap, sym, ◌∙◌, subst, arith, inl, inr, append_assoc, append-nil, length-append}
use Rattle.std.specs.Prelude.{IfErr, IfOk, IfSome, MatchResult}
use Rattle.std.proofs.lemmas.Bool.{true≢false}
use Rattle.pb_core.specs.Election.{ElectionView}
use Rattle.pb_rows.specs.Reading.{Fields, records_of}
use Rattle.pb_read.specs.Inner.Forms.{next_row}
use Rattle.pb_read.specs.Inner.Tracking.{HasCome, IsNextRow, Reached, Tracks}
use Rattle.pb_read.proofs.GoesOn.{end_stands, first_fault, no_fault_so_far, reached_next, reached_start}
use Rattle.pb_read.proofs.Uniqueness.{one_election, refused_from_outside}
use Rattle.pb_read.specs.FirstFault.{IsFaultAt, IsFirstFault, IsFromOutside}
use Rattle.pb_read.specs.Inner.Machine.{Position, start, Explains, advance, lowest_kind, row_fault}
use Rattle.pb_read.specs.Inner.Progresses.{EndsWith}
use Rattle.pb_read.specs.StandsFor.{StandsFor, most_records}
use Rattle.pb_read.specs.declared.fault.ReadFault.{ReadFault}
use Rattle.pb_read.specs.declared.fault.ReadKind.{ReadKind}
use Rattle.pb_read.specs.declared.fault.ReadKind.TheVariants as kinds

pub tracks_start : (all : Option (List Fields)) → Tracks all all 0 start
tracks_start None = tt
tracks_start (Some all) = record { done = []; cut = refl; count_is = refl; reached = reached_start }

-- one record more
pub tracks_more : (all left after : Option (List Fields)) (count : ℕ) (p q : Position) (row : Fields) → Tracks all left count p → IsNextRow left after true row → row_fault p (next_row row) ≡ None → q ≡ advance p (next_row row) →
    Tracks all after (count + 1) q
tracks_more None left after count p q row tracks next none goes = tt
tracks_more (Some all) None after count p q row tracks next none goes = absurd tracks
tracks_more (Some all) (Some []) after count p q row tracks next none goes = absurd (true≢false next.next)
tracks_more (Some all) (Some (r ∷ rest)) after count p q row tracks next none goes =
    subst (λ left. Tracks (Some all) left (count + 1) q) (sym next.next.2) (record {
      done = tracks.done ++ next.fields ∷ [];
      cut = tracks.cut ∙ ap (λ x. tracks.done ++ x ∷ rest) (sym next.next.1) ∙ sym (append_assoc tracks.done (next.fields ∷ []) rest);
      count_is = length-append tracks.done (next.fields ∷ []) ∙ ap (λ n. n + 1) tracks.count_is;
      reached = subst (Reached (tracks.done ++ next.fields ∷ [])) (sym (goes ∙ ap (λ x. advance p (next_row x)) next.row_is)) (reached_next tracks.done p next.fields tracks.reached next.text (ap (λ x. row_fault p (next_row x)) (sym next.row_is) ∙ none));
    })

-- a fault where this many were read
pub fault_at : (all left : List Fields) (count : ℕ) (p : Position) (come : HasCome all left count p) → count ≤ most_records → (at : ℕ) → at ≡ count + 1 → (kind : ReadKind) → IsFirstFault come.done left kind ⊎ IsFromOutside kind → IsFaultAt all kind at
fault_at all left count p come few at is kind found =
    (come.done, left, come.cut, is ∙ ap (λ n. n + 1) (sym come.count_is), no_fault_so_far come.done p (omega (arith, come.count_is, few)) come.reached, found)

-- the lowest kind that applies there
pub first_at : (all left : List Fields) (count : ℕ) (p : Position) → HasCome all left count p → count ≤ most_records → (at : ℕ) → at ≡ count + 1 → (kind : ReadKind) → lowest_kind count p left ≡ Some kind → IsFaultAt all kind at
first_at all left count p come few at is kind lowest =
    fault_at all left count p come few at is kind (inl (first_fault come.done left p kind come.reached (ap (λ n. lowest_kind n p left) come.count_is ∙ lowest)))

-- a kind that the checks found
pub explained : (all left : List Fields) (count : ℕ) (p : Position) → HasCome all left count p → count ≤ most_records → (at : ℕ) → at ≡ count + 1 → (kind : ReadKind) (found : Option ReadKind) → Explains kind found →
    ((k : ReadKind) → found ≡ Some k → lowest_kind count p left ≡ Some k) → IsFaultAt all kind at
explained all left count p come few at is kinds.ReadFailed found said lowest = fault_at all left count p come few at is kinds.ReadFailed (inr (inl refl))
explained all left count p come few at is kinds.NoMemory found said lowest = fault_at all left count p come few at is kinds.NoMemory (inr (inr refl))
explained all left count p come few at is kind found said lowest = first_at all left count p come few at is _ (lowest _ said)

-- where no record is left the file stands for the election that was read
pub ended : (all : List Fields) (count : ℕ) (p : Position) (e : ElectionView) → HasCome all [] count p → count ≤ most_records → EndsWith p e → StandsFor all e
ended all count p e come few ends =
    subst (λ xs. StandsFor xs e) (sym (come.cut ∙ append-nil come.done))
    (end_stands come.done ends.0 e (omega (arith, come.count_is, few)) (subst (Reached come.done) ends.1 come.reached))

-- and an answer to an election that they stand for is it, unless it comes from outside
pub accepts : (bytes : Option (List ℕ)) (r : Result ElectionView ReadFault) → IfSome bytes (λ b. IfOk r (λ e. StandsFor (records_of b) e)) → IfSome bytes (λ b. IfErr r (λ fault. IsFaultAt (records_of b) fault.kind fault.at)) →
    IfSome bytes (λ b. (e : ElectionView) → StandsFor (records_of b) e → MatchResult r (λ read. read ≡ e) (λ fault. IsFromOutside fault.kind))
accepts None r ok err = tt
accepts (Some b) (Ok read) ok err = λ e stands. one_election (records_of b) read e ok stands
accepts (Some b) (Err fault) ok err = λ e stands. refused_from_outside (records_of b) e fault.kind fault.at stands err
