-- How many rows were refused for which reason.
use denote.Enum.Declared.{tag_of}
use Rattle.std.specs.Prelude.{◌+◌, ◌-◌, ◌^◌, ◌==◌, ℕ, List, Result, filter_map, map, min, slice_index_or, slice_set}
use Rattle.std.specs.List.{count_by, range_with_len}
use Rattle.std.specs.Result.{result_err}
use Rattle.pb_core.specs.Request.{EntryView}
use Rattle.pb_script.specs.contracts.admission.RowRefusal.{the_type}
use Rattle.pb_script.specs.declared.admission.RowRefusal.{RowRefusal}

-- how many of these are refused for each reason, in the order in which `RowRefusal` declares them
abbrev pub refusals_of : List (Result EntryView RowRefusal) → List ℕ
refusals_of became = map (λ n. count_by (λ why. tag_of the_type why == n) (filter_map result_err became)) (range_with_len 0 6)

-- these counts, once a row is refused for this
abbrev pub with_refusal : List ℕ → RowRefusal → List ℕ
with_refusal counts why = let place = tag_of the_type why in
    slice_set counts place (min (slice_index_or counts place 0 + 1) (2 ^ 64 - 1))
