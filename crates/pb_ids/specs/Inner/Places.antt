-- Ids with their places, as a map.
use mathlib.Core.HLevel.{Σ_prop_path}
use Rattle.std.proofs.Common.{ap, sym, ◌∙◌}
use Rattle.std.proofs.lemmas.Map.Text.{is_eq-slice_cmp}
use Rattle.std.proofs.lemmas.Cmp.{nat_list_eq_equiv}
use Rattle.std.specs.Cmp.Lexicographic.{nat_list_cmp_total, slice_cmp}
use Rattle.std.specs.Coded.{Coded-set, coded_option, coded_ℕ, Π_prop}
use Rattle.std.specs.FinMap.{FinMap, empty, get, insert, get-empty, get-insert, same_map}
use Rattle.std.specs.FinMap.{slice_cmp-IsAntisymmetric, nat_cmp-IsAntisymmetric}
use Rattle.std.specs.Ordering.{nat_cmp}
use Rattle.std.specs.Prelude.{◌≡◌, ℕ, List, Option, Some, None, if◌then◌else◌}
use Rattle.std.specs.Str.{bytes_eq}

-- from texts to places
abbrev pub Places : Type 0
Places = FinMap (slice_cmp nat_cmp) ℕ

-- nothing is in the empty map
pub get_none : (text : List ℕ) → ◌≡◌ {A = Option ℕ} (get (empty {R = slice_cmp nat_cmp}) text) None
get_none text = get-empty (slice_cmp nat_cmp) text

-- what is in a map in which a text was given a place
pub get_inserted : (places : Places) (id : List ℕ) (place : ℕ) (text : List ℕ) →
    get (insert places id place) text ≡ (if bytes_eq id text then Some place else get places text)
get_inserted places id place text =
    get-insert nat_list_cmp_total places id place text
    ∙ ap (λ same. if same then Some place else get places text)
    (is_eq-slice_cmp text id ∙ nat_list_eq_equiv.symm text id)

-- maps that have the same at each text are one
pub same_places : (m n : Places) → ((text : List ℕ) → get m text ≡ get n text) → m ≡ n
same_places m n same =
    same_map nat_list_cmp_total (slice_cmp-IsAntisymmetric nat_cmp-IsAntisymmetric) m n same

-- a map that has what is found
abbrev pub Shows : (List ℕ → Option ℕ) → Type 0
Shows found = (places : Places) × ((text : List ℕ) → get places text ≡ found text)

pub Shows-prop : (found : List ℕ → Option ℕ) → IsProp (Shows found)
Shows-prop found = λ m n.
    Σ_prop_path (λ places. Π_prop (λ text. Coded-set (coded_option coded_ℕ) _ _))
    (same_places m.0 n.0 (λ text. m.1 text ∙ sym (n.1 text)))
