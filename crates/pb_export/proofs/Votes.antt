-- VOTES, read back.
use Rattle.std.proofs.Common.{◌≡◌, ◌≢◌, ◌<◌, ℕ, false, List, [], ◌∷◌, ◌++◌, length, map, All, None, refl, sym, arith}
use Rattle.std.specs.Prelude.{slice_index_or}
use Rattle.std.specs.List.{AllByRecursion, AllZip}
use Rattle.std.specs.Str.{trim, trim_start, trim_end, chars}
use Rattle.std.proofs.Math.Utf8.{encode}
use Rattle.std.specs.List.Sorted.{IsStrictlyIncreasing}
use Rattle.pb_core.specs.Inner.Ids.{AreDistinct}
use Rattle.pb_core.specs.Election.{ElectionView, VoterView, project_ids}
use Rattle.pb_rows.specs.Reading.{Fields}
use Rattle.pb_read.specs.Inner.Fields.{trimmed}
use Rattle.pb_read.specs.Rows.{head_of, rows_of}
use Rattle.pb_read.specs.StandsFor.{GivesAll, GivesVoter}
use Rattle.pb_export.specs.FileRows.{votes_rows}
use Rattle.pb_export.specs.declared.further.Further.{Further}
use Rattle.pb_export.specs.Inner.Behind.{of_voter}
use Rattle.pb_export.specs.Inner.Parts.{is_section_word, vote_row, vote_text}
use Rattle.pb_export.proofs.Headers.{both_fields, vote_header}
use Rattle.pb_export.proofs.Pieces.{IsPiece, ballot_back, names_back, pieces_back}
use Rattle.pb_export.proofs.Projects.{GivesFront, plain_row, row_kept}

-- a voter that a file can give, where the projects have these ids
pub record IsWritable (ids : List (List ℕ)) (v : VoterView) : Type 0 where
  pub has_id : v.id ≢ []
  pub tidy_id : trim v.id ≡ v.id
  pub no_head : is_section_word v.id ≡ false
  pub rises : IsStrictlyIncreasing v.ballot
  pub known : All (λ place. place < length ids) v.ballot
  pub pieces : AllByRecursion IsPiece (map (λ place. slice_index_or ids place []) v.ballot)

-- a row gives a voter, where the columns stand as they are written
abbrev Gives : List (List ℕ) → Fields → VoterView → Type 0
Gives = GivesVoter (record { voter = 0; vote = 1 })

module _ (ids : List (List ℕ)) (more_of : List ℕ → Fields) (distinct : AreDistinct ids) where
  gives_voter : (v : VoterView) → IsWritable ids v → Gives ids (trimmed (vote_row ids more_of v)) v
  gives_voter v is =
      let vote = trim (vote_text ids v.ballot) in
      let pieces = pieces_back (map (λ place. slice_index_or ids place []) v.ballot) is.pieces in
      record {
        whole = both_fields 0 1 (trimmed (vote_row ids more_of v)) (omega arith) (omega arith);
        id = sym is.tidy_id;
        known = names_back ids distinct vote v.ballot is.known pieces;
        ballot = ballot_back ids distinct vote v.ballot is.known pieces is.rises;
      }

  gives_all : (voters : List VoterView) → AllByRecursion (IsWritable ids) voters →
      AllByRecursion (λ row. head_of row ≡ None) (rows_of (map (vote_row ids more_of) voters)) × AllZip (Gives ids) (rows_of (map (vote_row ids more_of) voters)) voters
  gives_all [] are = (tt, tt)
  gives_all (v ∷ voters) are =
      let rest = gives_all voters are.1 in
      let vote : Fields = vote_text ids v.ballot ∷ more_of v.id in
      rw (row_kept v.id vote (map (vote_row ids more_of) voters) are.0.tidy_id are.0.has_id)
      ((plain_row v.id vote are.0.tidy_id are.0.no_head, rest.0), (gives_voter v are.0, rest.1))

-- after META and PROJECTS
pub gives_voters : (e : ElectionView) (further : Further) (front : List Fields) → GivesFront e front → AreDistinct (project_ids e) → AllByRecursion (IsWritable (project_ids e)) e.voters →
    GivesAll (record { voter = 0; vote = 1 }) e (front ++ rows_of (votes_rows (project_ids e) further e.voters))
unfolding head_of trim_start trim_end chars encode
gives_voters e further front before distinct are =
    let all = gives_all (project_ids e) (of_voter further) distinct e.voters are in
    (_, _, rows_of (map (vote_row (project_ids e) (of_voter further)) e.voters), (front, _, refl, before, refl, (refl, all.0)), vote_header further.voter_names, all.1)
