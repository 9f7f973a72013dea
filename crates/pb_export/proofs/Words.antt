-- Ids that would be read as a section's head.
use Rattle.std.proofs.Common.{◌≡◌, ◌||◌, ℕ, Bool, List, [], ◌∷◌, map, refl, ap, ◌∙◌}
use Rattle.std.specs.List.{list_any}
use Rattle.std.proofs.lemmas.List.Folds.{list_any-append}
use Rattle.pb_core.specs.Election.{ElectionView, ProjectView, VoterView, project_ids, voter_ids}
use Rattle.pb_export.specs.Inner.Parts.{has_section_word}
use Rattle.pb_export.specs.Inner.Parts.{is_section_word}

list_any-map : {X : Type 0} (f : X → List ℕ) (test : List ℕ → Bool) (xs : List X) → list_any test (map f xs) ≡ list_any (λ x. test (f x)) xs
list_any-map f test [] = refl
list_any-map f test (x ∷ xs) = ap (λ t. test (f x) || t) (list_any-map f test xs)

-- those of the projects, and those of the voters
pub section_words : (e : ElectionView) → has_section_word e ≡ (list_any (λ p. is_section_word p.id) e.projects || list_any (λ v. is_section_word v.id) e.voters)
section_words e =
    list_any-append is_section_word (project_ids e) (voter_ids e)
    ∙ ap (λ t. t || list_any is_section_word (voter_ids e)) (list_any-map (λ (p : ProjectView). p.id) is_section_word e.projects)
    ∙ ap (λ t. list_any (λ (p : ProjectView). is_section_word p.id) e.projects || t) (list_any-map (λ (v : VoterView). v.id) is_section_word e.voters)
