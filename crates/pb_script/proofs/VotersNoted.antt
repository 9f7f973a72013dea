-- How the voters of a file are noted.
use Rattle.std.proofs.Common.{◌≡◌, ◌∙◌, ℕ, ◌+◌, ◌<◌, List, [], ◌∷◌, ◌++◌, fold, get_or, length, map, take, refl, sym, ap}
use Rattle.std.specs.FinMap.{empty, insert}
use Rattle.std.proofs.lemmas.List.{take_more}
use Rattle.pb_core.specs.Election.{VoterView}
use Rattle.pb_ids.specs.Inner.Places.{Places}

-- a table of the ids of these voters
abbrev pub ids_from : Places → List VoterView → Places
ids_from table voters = fold (λ ids id. insert ids id 0) table (map (λ v. v.id) voters)

ids_from-push : (table : Places) (voters : List VoterView) (v : VoterView) → ids_from table (voters ++ v ∷ []) ≡ insert (ids_from table voters) v.id 0
ids_from-push table [] v = refl
ids_from-push table (w ∷ ws) v = ids_from-push (insert table w.id 0) ws v

pub voter_noted : (table new : Places) (voters : List VoterView) (i : ℕ) (v : VoterView) (id : List ℕ) → table ≡ ids_from empty (take i voters)
    → i < length voters → v ≡ get_or voters i v → id ≡ v.id → new ≡ insert table id 0 → new ≡ ids_from empty (take (i + 1) voters)
voter_noted table new voters i v id so_far below read id_is put =
    put ∙ (λ j. insert (so_far j) (id_is j) 0) ∙ ap (λ (w : VoterView). insert (ids_from empty (take i voters)) w.id 0) read
    ∙ sym (ids_from-push empty (take i voters) (get_or voters i v)) ∙ ap (ids_from empty) (sym (take_more voters i v below))
