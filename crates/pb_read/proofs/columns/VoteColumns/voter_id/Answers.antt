use Rattle.std.proofs.Common.{◌≡◌, ◌≢◌, [], refl, ap, sym, ◌∙◌}
use Rattle.std.specs.Str.{trim}
use Rattle.std.proofs.lemmas.Option.{MatchOption-at_some, MatchOption-at_none}
use Rattle.pb_read.proofs.DraftFacts.{not_trimmed_away, vote_found, vote_lacks}
use Rattle.pb_read.specs.Rows.{is_empty}
use Rattle.pb_read.proofs.columns.VoteColumns.voter_id.Goals as goal

pub returns-then-not-has_fields-clause-err : goal.returns-then-not-has_fields-clause-err
returns-then-not-has_fields-clause-err c = λ e. vote_lacks c.args.self.now c.args.row.now e (sym c.has_fields.ensures ∙ c.if-not-has_fields.true)

pub returns-in_default-clause-err : goal.returns-in_default-clause-err
returns-in_default-clause-err c = λ e.
    let nothing = MatchOption-at_none (trim c.field.result.now ≡ []) _ c.in_default.is c.in_ok-id.ensures in
    let no_id = ap is_empty (sym c.field.ensures.field ∙ sym c.field.ensures.tidy ∙ nothing) in
    vote_found c.args.self.now c.args.row.now e (sym c.has_fields.ensures ∙ c.if-not-has_fields.false) no_id refl refl refl

pub returns-clause-ok : goal.returns-clause-ok
returns-clause-ok c =
    let said = MatchOption-at_some _ (λ id. (trim c.field.result.now ≢ []) × (id ≡ trim c.field.result.now)) c.in-Some.id c.in-Some.is c.in_ok-id.ensures in
    record {
      whole = sym c.has_fields.ensures ∙ c.if-not-has_fields.false;
      id_is = said.1 ∙ c.field.ensures.tidy ∙ c.field.ensures.field;
      has_id = ap is_empty (sym c.field.ensures.field) ∙ not_trimmed_away c.field.result.now c.in-Some.id (λ z. said.0 (sym said.1 ∙ z)) said.1 c.field.ensures.tidy;
    }
