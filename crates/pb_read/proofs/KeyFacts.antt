-- A field names one key of META at most.
use Rattle.std.proofs.Common.{◌≡◌, Bool, true, false, true≢false, cond, List, ℕ, Some, None, map, codes, refl, sym, ◌∙◌, subst}
use Rattle.std.specs.Char.{to_ascii_lowercase}
use Rattle.std.specs.Str.{bytes_eq}
use Rattle.std.proofs.lemmas.Slice.Eq.{bytes_eq-Decides}
use Rattle.pb_core.specs.Money.{money_of}
use Rattle.pb_rows.specs.Reading.{Fields}
use Rattle.pb_read.specs.Inner.Machine.{with_row, with_value}
use Rattle.pb_read.specs.Lengths.{max_length_of}
use Rattle.pb_read.specs.Rows.{field, is_word}
use Rattle.pb_read.specs.declared.meta.Meta.{Meta}
use Rattle.pb_read.specs.declared.meta_key.MetaKey.TheVariants as key

abbrev lower : List ℕ → List ℕ
lower text = map to_ascii_lowercase text

-- a field that is one word is not another
pub not_both : (word other text : List ℕ) → bytes_eq (lower other) (lower word) ≡ false → is_word word text ≡ true → is_word other text ≡ false
not_both word other text differ is = subst (λ t. bytes_eq (lower other) t ≡ false) ((bytes_eq-Decides (lower word) (lower text)).0 is) differ

-- what META says with one more row, each key for itself
abbrev pub with_each : Meta → Fields → Meta
with_each meta row = record {
  budget = cond (is_word (codes "budget") (field row 0)) (Some (money_of (field row 1))) meta.budget;
  approval = cond (is_word (codes "vote_type") (field row 0)) (Some (is_word (codes "approval") (field row 1))) meta.approval;
  max_length = cond (is_word (codes "max_length") (field row 0)) (max_length_of (field row 1)) meta.max_length;
}

pub with_each-same : (meta : Meta) (row : Fields) → with_each meta row ≡ with_row meta row
with_each-same meta row = go _ _ _ refl refl refl
  where
    name : List ℕ
    name = field row 0

    value : List ℕ
    value = field row 1

    go : (b v l : Bool) → is_word (codes "budget") name ≡ b → is_word (codes "vote_type") name ≡ v → is_word (codes "max_length") name ≡ l →
        ◌≡◌ {A = Meta} (record { budget = cond b (Some (money_of value)) meta.budget; approval = cond v (Some (is_word (codes "approval") value)) meta.approval; max_length = cond l (max_length_of value) meta.max_length })
        (with_value meta (cond b (Some key.Budget) (cond v (Some key.VoteType) (cond l (Some key.MaxLength) None))) value)
    go true true l is_b is_v is_l = absurd (true≢false (sym is_v ∙ not_both (codes "budget") (codes "vote_type") name refl is_b))
    go true false true is_b is_v is_l = absurd (true≢false (sym is_l ∙ not_both (codes "budget") (codes "max_length") name refl is_b))
    go true false false is_b is_v is_l = refl
    go false true true is_b is_v is_l = absurd (true≢false (sym is_l ∙ not_both (codes "vote_type") (codes "max_length") name refl is_v))
    go false true false is_b is_v is_l = refl
    go false false true is_b is_v is_l = refl
    go false false false is_b is_v is_l = refl
