-- The limit on a ballot's length that a value of META's `max_length` names.
use Rattle.std.specs.Prelude.{ℕ, Bool, ◌&&◌, ◌==◌, not, nat_le, List, Option, Some, None, Result, Ok, Err}
use Rattle.std.specs.Prelude.{if◌then◌else◌}
use Rattle.std.specs.List.{list_all}
use Rattle.std.specs.Str.Parse.{digits_value}
use Rattle.pb_core.specs.Election.{most_projects}
use Rattle.pb_core.specs.MoneyText.{fraction, has_money_form, whole_part}
use Rattle.pb_read.specs.Rows.{is_empty}
use Rattle.pb_read.specs.declared.fault.ReadKind.{ReadKind}
use Rattle.pb_read.specs.declared.fault.ReadKind.TheVariants.{BadLength}

-- digits, then perhaps a point or a comma and one zero (code 48) or more
abbrev pub has_length_form : List ℕ → Bool
has_length_form text = has_money_form text && list_all (λ c. c == 48) (fraction text)

-- no limit where the text is empty, or the number is above 10,000
abbrev pub max_length_of : List ℕ → Result (Option ℕ) ReadKind
max_length_of text =
    if is_empty text then Ok None
    else if not (has_length_form text) then Err BadLength
    else if not (nat_le (digits_value 10 (whole_part text)) most_projects) then Ok None
    else Ok (Some (digits_value 10 (whole_part text)))
