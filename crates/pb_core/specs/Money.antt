-- The amount that a text names.
use Rattle.std.specs.Prelude.{ℕ, ◌^◌, List, Result, Ok, Err, if◌then◌else◌, not, nat_le}
use Rattle.pb_core.specs.MoneyText.{has_money_form, is_in_hundredths, hundredths}
use Rattle.pb_core.specs.declared.money_fault.MoneyFault.{MoneyFault}
use Rattle.pb_core.specs.declared.money_fault.MoneyFault.TheVariants.{BadMoney, MoneyTooFine, MoneyTooLarge}

-- the largest amount that is read: ten million million units, in hundredths
abbrev pub largest_money : ℕ
largest_money = 10 ^ 15

-- the amount that a text names, in hundredths, or the first fault
abbrev pub money_of : List ℕ → Result ℕ MoneyFault
money_of t =
    if not (has_money_form t) then Err BadMoney
    else if not (is_in_hundredths t) then Err MoneyTooFine
    else if nat_le (hundredths t) largest_money then Ok (hundredths t)
    else Err MoneyTooLarge
