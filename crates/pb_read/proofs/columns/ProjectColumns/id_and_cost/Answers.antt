use Rattle.std.proofs.Common.{Some, refl, ap, sym, ◌∙◌}
use Rattle.std.proofs.lemmas.Bool.{ne_eqb, eq-eqb}
use Rattle.pb_core.specs.Money.{money_of}
use Rattle.pb_read.proofs.DraftFacts.{explains, project_found, project_lacks, project_unread}
use Rattle.pb_read.proofs.ListFacts.{length-is_empty}
use Rattle.pb_read.specs.Rows.{is_empty}
use Rattle.pb_read.proofs.columns.ProjectColumns.id_and_cost.Goals as goal

pub returns-then-not-has_fields-clause-err : goal.returns-then-not-has_fields-clause-err
returns-then-not-has_fields-clause-err c = λ e. project_lacks c.args.self.now c.args.row.now e (sym c.has_fields.ensures ∙ c.if-not-has_fields.true)

pub returns-in-Err-clause-err : goal.returns-in-Err-clause-err
returns-in-Err-clause-err c = λ e.
    explains c.of_money.result _ (project_unread c.args.self.now c.args.row.now e (sym c.has_fields.ensures ∙ c.if-not-has_fields.false) c.in-Err.fault (ap money_of (sym c.field.ensures.field) ∙ sym c.in-Err.ensures) ∙ ap Some (sym c.of_money.ensures))

pub returns-then-cost-eq0-clause-err : goal.returns-then-cost-eq0-clause-err
returns-then-cost-eq0-clause-err c = λ e.
    let free = eq-eqb c.in-Ok.cost 0 (sym c.cost.view_is ∙ c.if-cost-eq0.true) in
    project_found c.args.self.now c.args.row.now e (sym c.has_fields.ensures ∙ c.if-not-has_fields.false) (ap money_of (sym c.field.ensures.field) ∙ sym c.in-Ok.ensures) free refl refl refl

pub returns-then-is_empty-clause-err : goal.returns-then-is_empty-clause-err
returns-then-is_empty-clause-err c = λ e.
    let costs = ne_eqb c.in-Ok.cost 0 (λ z. c.if-cost-eq0.false (c.cost.view_is ∙ z)) in
    let no_id = ap is_empty (sym c.field-id.ensures.field) ∙ sym (length-is_empty c.field-id.result.now) ∙ sym c.is_empty.ensures ∙ c.if-is_empty.true in
    project_found c.args.self.now c.args.row.now e (sym c.has_fields.ensures ∙ c.if-not-has_fields.false) (ap money_of (sym c.field.ensures.field) ∙ sym c.in-Ok.ensures) costs no_id refl refl

pub returns-clause-ok : goal.returns-clause-ok
returns-clause-ok c = record {
  whole = sym c.has_fields.ensures ∙ c.if-not-has_fields.false;
  reads = ap money_of (sym c.field.ensures.field) ∙ sym c.in-Ok.ensures;
  costs = ne_eqb c.in-Ok.cost 0 (λ z. c.if-cost-eq0.false (c.cost.view_is ∙ z));
  id_is = c.field-id.ensures.field;
  has_id = ap is_empty (sym c.field-id.ensures.field) ∙ sym (length-is_empty c.field-id.result.now) ∙ sym c.is_empty.ensures ∙ c.if-is_empty.false;
}
