use Rattle.std.proofs.Common.{◌≡◌, ◌++◌, ◌∙◌, [], ◌∷◌, ap, codes, refl}
use Rattle.csv.specs.Writing.{escaped, fields_text, is_blank}
use Rattle.pb_rows.specs.Writing.{text_of_row}
use Rattle.pb_commands.proofs.ties_table.put_more.Goals as goal

more : text_of_row (codes "more" ∷ [] ∷ [] ∷ [] ∷ [] ∷ [] ∷ []) ≡ codes "more;;;;;\n"
unfolding text_of_row fields_text is_blank escaped
more = refl

pub returns-in_ok-put_row : goal.returns-in_ok-put_row
returns-in_ok-put_row c = rw c.if-not-is_whole.true (c.in_ok-put_row.ensures.text ∙ ap (λ t. c.args.rows.now.text ++ t) more)
