-- The form of money texts, and what their digits name.
use Rattle.std.specs.Prelude.{◌≡◌, ◌⊎◌, ℕ, ◌+◌, ◌*◌, ◌/◌, ◌%◌, ◌^◌, Bool, ◌&&◌, ◌||◌, ◌==◌, not}
use Rattle.std.specs.Prelude.{List, [], ◌∷◌, ◌++◌, length, take, drop, codes, decimal}
use Rattle.std.specs.List.{before_first, after_first, list_all}
use Rattle.std.specs.Str.Parse.{IsNumeral, digits_value}
use Rattle.std.specs.Char.{is_ascii_digit}

-- one digit or more, and nothing else
abbrev pub is_number : List ℕ → Bool
is_number t = not (length t == 0) && list_all is_ascii_digit t

-- a point or a comma: both mark decimals
abbrev pub is_mark : ℕ → Bool
is_mark c = (c == 46) || (c == 44)

-- what stands before the first mark, and after it
abbrev pub whole_part : List ℕ → List ℕ
whole_part t = before_first is_mark t

abbrev pub fraction : List ℕ → List ℕ
fraction t = after_first is_mark t

-- a money text: a number, or a number, a mark and a number
abbrev pub has_money_form : List ℕ → Bool
has_money_form t = is_number t || (is_number (whole_part t) && is_number (fraction t))

-- each digit after the second decimal is `0`
abbrev pub is_in_hundredths : List ℕ → Bool
is_in_hundredths t = list_all (λ c. c == 48) (drop 2 (fraction t))

-- the amount that a money text names, in hundredths; missing decimals count as zeros
abbrev pub hundredths : List ℕ → ℕ
hundredths t = 100 * digits_value 10 (whole_part t) + digits_value 10 (take 2 (fraction t ++ codes "00"))

-- the text of an amount: the whole units, a point, and two digits
abbrev pub money_text : ℕ → List ℕ
money_text h = decimal (h / 100) ++ codes "." ++ (48 + h / 10 % 10) ∷ (48 + h % 10) ∷ []

-- the text is the digits of whole units, or these, a point or a comma, and the digits of decimals
abbrev pub IsMoneyText : (text whole decimals : List ℕ) → Type 0
IsMoneyText text whole decimals =
    IsNumeral 10 whole
    × (((text ≡ whole) × (decimals ≡ []))
    ⊎ (IsNumeral 10 decimals
    × ((text ≡ whole ++ (codes "." ++ decimals)) ⊎ (text ≡ whole ++ (codes "," ++ decimals)))))

-- all the digits make one number, with as many decimals as stand after the mark; it is this many hundredths
abbrev pub IsWorth : (whole decimals : List ℕ) → ℕ → Type 0
IsWorth whole decimals h = 10 ^ length decimals * h ≡ 100 * digits_value 10 (whole ++ decimals)
