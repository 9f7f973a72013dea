-- Which elections a file can be written of.
use Rattle.std.specs.Prelude.{◌==◌, ◌&&◌, Bool, true, [], ◌∷◌, ◌++◌, Option, Some, None, if◌then◌else◌}
use Rattle.std.specs.Prelude.{is_some, nat_le, slice_index_or}
use Rattle.std.specs.List.{list_all, list_any}
use Rattle.std.specs.Option.{option_map_or}
use Rattle.std.specs.Str.{bytes_eq, trim}
use Rattle.pb_core.specs.Election.{ElectionView, most_projects, project_ids, voter_ids}
use Rattle.pb_read.specs.Rows.{head_of}
use Rattle.pb_export.specs.declared.export_fault.ExportFault.{ExportFault}
use Rattle.pb_export.specs.declared.export_fault.ExportFault.TheVariants.{SectionWord, CommaInId, OfNoFile}

-- projects' ids and names have no white space at their ends, and a limit on a ballot's length is one that a
-- file can name, as in every election that a file stands for
abbrev pub is_of_file : ElectionView → Bool
is_of_file e =
    list_all (λ p. bytes_eq (trim p.id) p.id && bytes_eq (trim p.name) p.name) e.projects
    && option_map_or (λ most. nat_le most most_projects) e.max_length true

-- what refuses an election, want of memory aside: the id of a project or a voter would be read as a section's
-- head; or a ballot approves a project whose id has a comma (code 44); or no file stands for such an election
abbrev pub export_refusal : ElectionView → Option ExportFault
export_refusal e = let ids = project_ids e in
    if list_any (λ id. is_some (head_of (id ∷ []))) (ids ++ voter_ids e) then Some SectionWord
    else if list_any (λ v. list_any (λ place. list_any (λ b. b == 44) (slice_index_or ids place [])) v.ballot) e.voters
    then Some CommaInId
    else if is_of_file e then None else Some OfNoFile
