-- Rows written one after the other.
use Rattle.std.proofs.Common.{◌≡◌, ◌<◌, ◌+◌, ℕ, zero, suc, Bool, false, length, get_or, take, List, [], ◌∷◌, ◌++◌, append_assoc, append-nil, sym, ◌∙◌, ap, arith}
use Rattle.std.specs.Prelude.{slice_index, slice_index_or}
use Rattle.std.specs.Str.{IsUtf8}
use Rattle.csv.specs.Records.{AllText}
use Rattle.pb_core.specs.Election.{ProjectView}
use Rattle.pb_rows.specs.Reading.{Fields}
use Rattle.pb_rows.specs.Writing.{text_of_row, text_of_rows}
use Rattle.pb_rows.proofs.RowsText.{text_of_rows-nil, text_of_rows-cons, text_of_rows-append}
use Rattle.pb_read.proofs.ListFacts.{AllByRecursion-append}
use Rattle.pb_export.specs.Inner.Growing.{Grows}
use Rattle.pb_export.specs.Inner.Parts.{project_row, projects_from}

-- rows of one text, and of two
pub one_text : (field : List ℕ) → IsUtf8 field → AllText (field ∷ [])
unfolding AllText
one_text field text = (text, tt)

pub two_text : (key value : List ℕ) → IsUtf8 key → IsUtf8 value → AllText (key ∷ value ∷ [])
unfolding AllText
two_text key value first second = (first, (second, tt))

-- a text to which no row was added
pub none_grown : (old : List ℕ) → Grows [] old old
none_grown old = record { text = rw text_of_rows-nil (sym (append-nil old)); are_text = tt }

-- the rows of one list, and then those of another
pub grown : (rows more : List Fields) (old mid new : List ℕ) → Grows rows old mid → Grows more mid new → Grows (rows ++ more) old new
grown rows more old mid new first second = record {
  text = second.text ∙ rw first.text (append_assoc old (text_of_rows rows) (text_of_rows more) ∙ ap (λ (t : List ℕ). old ++ t) (sym (text_of_rows-append rows more)));
  are_text = AllByRecursion-append AllText rows more first.are_text second.are_text;
}

-- one row more
pub row_grown : (rows : List Fields) (row : Fields) (old mid new : List ℕ) → Grows rows old mid → new ≡ mid ++ text_of_row row → AllText row → Grows (rows ++ row ∷ []) old new
row_grown rows row old mid new first put text =
    grown rows (row ∷ []) old mid new first (record { text = put ∙ ap (λ (t : List ℕ). mid ++ t) (simp (text_of_rows-cons, text_of_rows-nil, append-nil)); are_text = (text, tt) })

-- the projects so far, and the next
pub projects_more : (votes : List ℕ) (selected : List Bool) (more_of : ℕ → Fields) (place : ℕ) (projects : List ProjectView) (i j : ℕ) (p : ProjectView) → i < length projects → p ≡ get_or projects i p → place + i ≡ j
    → projects_from votes selected more_of place (take (suc i) projects)
    ≡ projects_from votes selected more_of place (take i projects) ++ project_row p (slice_index votes j) (slice_index_or selected j false) (more_of j) ∷ []
projects_more votes selected more_of place [] i j p below is at = absurd (omega (arith, below))
projects_more votes selected more_of place (q ∷ projects) zero j p below is at =
    let same : place ≡ j = omega (arith, at) in
    ap (λ (r : ProjectView). project_row r (slice_index votes place) (slice_index_or selected place false) (more_of place) ∷ []) (sym is)
    ∙ ap (λ n. project_row p (slice_index votes n) (slice_index_or selected n false) (more_of n) ∷ []) same
projects_more votes selected more_of place (q ∷ projects) (suc i) j p below is at =
    ap (λ (rows : List Fields). project_row q (slice_index votes place) (slice_index_or selected place false) (more_of place) ∷ rows)
    (projects_more votes selected more_of (place + 1) projects i j p (omega (arith, below)) is (omega (arith, at)))
