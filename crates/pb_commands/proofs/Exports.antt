-- Values that are put one after the other, and the election as it stands in the file.
use Rattle.std.proofs.Common.{◌≡◌, ◌≢◌, ℕ, Bool, ◌+◌, ◌<◌, All, List, [], ◌∷◌, ◌++◌, get_or, length, map, sym, Some, ◌∙◌, ap, arith}
use Rattle.std.specs.List.{range_with_len}
use Rattle.std.proofs.lemmas.List.{length-map}
use Rattle.std.proofs.lemmas.List.FromFn.{get_or-map-range_with_len, length-map-range_with_len, map-range_with_len_more}
use Rattle.std.proofs.lemmas.Simd.{map-map}
use Rattle.pb_core.proofs.InOrder.{nothing, those_at}
use Rattle.pb_core.specs.Election.{ElectionView}
use Rattle.pb_core.specs.Order.{IsOrder, in_order, position_in}
use Rattle.pb_export.specs.Export.{export_refusal}
use Rattle.pb_export.specs.FileRows.{file_rows}
use Rattle.pb_export.specs.declared.further.Further.{Further}
use Rattle.pb_export.specs.declared.export_fault.ExportFault.{ExportFault}
use Rattle.pb_export.specs.declared.export_fault.ExportFault.TheVariants.{NoMemory}
use Rattle.pb_faults.specs.Fault.{merged}
use Rattle.pb_faults.specs.declared.fault.AppFault.TheVariants.{Export}
use Rattle.pb_reasons.proofs.Sorted.{position_known}
use Rattle.pb_rows.specs.Writing.{text_of_rows}
use Rattle.pb_commands.specs.Inner.Exporting.{IsStopped}

-- one value more, for the next place
pub one_put : {X : Type 0} (f : ℕ → X) (n : ℕ) (old new : List X) (x : X) → old ≡ map f (range_with_len 0 n) → new ≡ old ++ x ∷ [] → x ≡ f n → new ≡ map f (range_with_len 0 (n + 1))
one_put {X} f n old new x before put is =
    put ∙ ap (λ (xs : List X). xs ++ x ∷ []) before ∙ ap (λ (y : X). map f (range_with_len 0 n) ++ y ∷ []) is
    ∙ sym (map-range_with_len_more f 0 n n (omega arith))

-- all values, for the projects as they stand in the file
pub all_put : {X : Type 0} (f : ℕ → X) (at : ℕ → ℕ) (n many : ℕ) (values : List X) → n ≡ many → values ≡ map (λ place. f (at place)) (range_with_len 0 n)
    → values ≡ map f (map at (range_with_len 0 many))
all_put f at n many values same are = are ∙ ap (λ k. map (λ place. f (at place)) (range_with_len 0 k)) same ∙ sym (map-map f at (range_with_len 0 many))

-- a file that is written of such parts
pub written_file : (e file : ElectionView) (word word' comment comment' votes votes' : List ℕ) (selected selected' : List Bool) (kept kept' : Further) (text : List ℕ)
    → e ≡ file → word ≡ word' → comment ≡ comment' → votes ≡ votes' → selected ≡ selected' → kept ≡ kept'
    → text ≡ text_of_rows (file_rows e word comment votes selected kept) → text ≡ text_of_rows (file_rows file word' comment' votes' selected' kept')
written_file e file word word' comment comment' votes votes' selected selected' kept kept' text a b c d f g is =
    is ∙ λ i. text_of_rows (file_rows (a i) (b i) (c i) (d i) (f i) (g i))

-- an election that is put back in the order of the file has as many projects
pub filed_many : (order : List ℕ) (e : ElectionView) → IsOrder order → length order ≡ length e.projects
    → length (in_order (map (position_in order) (range_with_len 0 (length order))) e).projects ≡ length e.projects
filed_many order e is many =
    let n = length order in
    let back = map (position_in order) (range_with_len 0 n) in
    let known : All (λ place. place < length e.projects) back = λ k d below.
    (let within : k < n = omega (arith, below, length-map-range_with_len (position_in order) 0 n) in
    let at = get_or-map-range_with_len (position_in order) 0 n k k d within (omega arith) in
    omega (arith, at, (position_known order is k within).0, many)) in
    ap length (those_at e.projects nothing back known) ∙ length-map back (λ place. get_or e.projects place nothing)
    ∙ length-map-range_with_len (position_in order) 0 n ∙ many

-- no file would be read back as the election, or memory was refused
pub stopped_by : (e : ElectionView) (fault : ExportFault) → (fault ≢ NoMemory → export_refusal e ≡ Some fault) → IsStopped e (merged (Export fault))
stopped_by e NoMemory refused = tt
stopped_by e fault refused = refused
