-- Who supports a project, in the words of their law.
use Rattle.std.proofs.Common.{◌≡◌, ℕ, ◌<◌, length, Contains, refl, subst}
use Rattle.std.specs.Prelude.{◌==◌, slice_index_or}
use Rattle.std.specs.List.{list_any}
use Rattle.std.proofs.lemmas.Bool.{eq-eqb, eqb-true}
use Rattle.std.proofs.lemmas.List.Folds.{Any-from_list_any, list_any-from_Any}
use Rattle.pb_core.proofs.Members.{from_filter, in_filter}
use Rattle.pb_core.specs.Election.{ElectionView}
use Rattle.pb_price.specs.Supporters.{ballot_at, supporters_of}

module _ (e : ElectionView) (place voter : ℕ) where
  pub supporter_approves : Contains (supporters_of e place) voter → (voter < length e.voters) × Contains (ballot_at e voter) place
  unfolding supporters_of
  supporter_approves found =
      let (below, passes) = from_filter (λ v. list_any (λ p. p == place) (ballot_at e v)) (length e.voters) voter found in
      let (k, x, within, here, same) = Any-from_list_any (λ p. p == place) (ballot_at e voter) passes in
      (below, (k, within, subst (λ (y : ℕ). slice_index_or (ballot_at e voter) k y ≡ y) (eqb-true x place same) here))

  pub approving_supports : (voter < length e.voters) × Contains (ballot_at e voter) place → Contains (supporters_of e place) voter
  unfolding supporters_of
  approving_supports (below, (k, within, here)) =
      in_filter (λ v. list_any (λ p. p == place) (ballot_at e v)) (length e.voters) voter below
      (list_any-from_Any (λ p. p == place) (ballot_at e voter) (k, place, within, here, eq-eqb place place refl))
