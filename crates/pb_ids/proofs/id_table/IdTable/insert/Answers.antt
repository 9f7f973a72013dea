use Rattle.std.proofs.Common.{◌≡◌, ℕ, List, ap, sym, ◌∙◌}
use Rattle.std.specs.FinMap.{get}
use Rattle.pb_ids.proofs.TableFacts.{inserted, shows_after, unchanged}
use Rattle.pb_ids.specs.Inner.Kept.{found}
use Rattle.pb_ids.proofs.id_table.IdTable.insert.Goals as goal

pub invariant_of-self-inside : goal.invariant_of-self-inside
invariant_of-self-inside g c =
    let was : (text : List ℕ) → get c.args.self.now text ≡ found c.self.inside.kept text = λ text. ap (λ m. get m text) (sym c.self.view_is) ∙ c.self.inside.shown.1 text in
    (shows_after c.args.id.now c.args.place c.args.self.now was c.insert.result c.insert.ensures.places c.insert.ensures.err, (c.insert.ensures.few c.self.inside.few, tt))

pub returns-clause-ok : goal.returns-clause-ok
returns-clause-ok g c =
    let was : (text : List ℕ) → get c.args.self.now text ≡ found c.self.inside.kept text = λ text. ap (λ m. get m text) (sym c.self.view_is) ∙ c.self.inside.shown.1 text in
    inserted c.args.id.now c.args.place c.args.self.now was c.insert.result c.insert.ensures.places c.self-1.given.0

pub returns-clause-err : goal.returns-clause-err
returns-clause-err g c =
    let was : (text : List ℕ) → get c.args.self.now text ≡ found c.self.inside.kept text = λ text. ap (λ m. get m text) (sym c.self.view_is) ∙ c.self.inside.shown.1 text in
    unchanged c.args.id.now c.args.place c.args.self.now was c.insert.result c.insert.ensures.err c.self-1.given.0
