-- Columns with further ones behind them.
use Rattle.std.proofs.Common.{◌≡◌, ◌<◌, ℕ, Bool, true, cond, List, ◌∷◌, codes, length, map, Some, None, refl, ap, ◌∙◌, arith}
use Rattle.std.specs.Prelude.{nat_lt, option_map, position}
use Rattle.std.specs.List.{position_or_len}
use Rattle.std.specs.Option.{option_zip}
use Rattle.std.specs.Str.{trim, trim_start, trim_end, chars}
use Rattle.std.proofs.Math.Utf8.{encode}
use Rattle.std.proofs.lemmas.Bool.{and_from, cond-true, lt-ltb}
use Rattle.pb_rows.specs.Reading.{Fields}
use Rattle.pb_read.specs.Columns.{column, has_fields, project_columns, vote_columns}
use Rattle.pb_read.specs.Rows.{is_word}

-- a row that is long enough has both fields
pub both_fields : (place other : ℕ) (row : Fields) → place < length row → other < length row → has_fields place other row ≡ true
both_fields place other row first second = and_from _ _ (lt-ltb place (length row) first) (lt-ltb other (length row) second)

-- the first place that passes is within the list
position_is : {X : Type 0} (p : X → Bool) (xs : List X) (k : ℕ) → position_or_len p xs ≡ k → k < length xs → position p xs ≡ Some k
position_is p xs k at below = ap (λ n. cond (nat_lt n (length xs)) (Some n) None) at ∙ cond-true (nat_lt k (length xs)) (Some k) None (lt-ltb k (length xs) below)

-- the columns of PROJECTS are found whatever follows them
pub project_header : (more : Fields) → project_columns (map trim (codes "project_id" ∷ codes "cost" ∷ codes "votes" ∷ codes "name" ∷ codes "selected" ∷ more)) ≡ Some (record { id = 0; cost = 1; name = Some 3 })
unfolding trim_start trim_end chars encode
project_header more =
    let header : Fields = map trim (codes "project_id" ∷ codes "cost" ∷ codes "votes" ∷ codes "name" ∷ codes "selected" ∷ more) in
    let id : column (codes "project_id") header ≡ Some 0 = position_is (is_word (codes "project_id")) header 0 refl (omega arith) in
    let cost : column (codes "cost") header ≡ Some 1 = position_is (is_word (codes "cost")) header 1 refl (omega arith) in
    let name : column (codes "name") header ≡ Some 3 = position_is (is_word (codes "name")) header 3 refl (omega arith) in
    λ i. option_map (λ both. record { id = both.0; cost = both.1; name = name i }) (option_zip (id i) (cost i))

-- and so are those of VOTES
pub vote_header : (more : Fields) → vote_columns (map trim (codes "voter_id" ∷ codes "vote" ∷ more)) ≡ Some (record { voter = 0; vote = 1 })
unfolding trim_start trim_end chars encode
vote_header more =
    let header : Fields = map trim (codes "voter_id" ∷ codes "vote" ∷ more) in
    let voter : column (codes "voter_id") header ≡ Some 0 = position_is (is_word (codes "voter_id")) header 0 refl (omega arith) in
    let vote : column (codes "vote") header ≡ Some 1 = position_is (is_word (codes "vote")) header 1 refl (omega arith) in
    λ i. option_map (λ both. record { voter = both.0; vote = both.1 }) (option_zip (voter i) (vote i))
