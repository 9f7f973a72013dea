use Rattle.std.proofs.Common.{◌∙◌, ap, sym, ◌||◌, ◌≡◌, true, false}
use Rattle.std.specs.List.{list_any}
use Rattle.pb_core.specs.Election.{ElectionView, ProjectView, VoterView}
use Rattle.pb_export.proofs.Words.{section_words}
use Rattle.pb_export.specs.Inner.Parts.{is_section_word}
use Rattle.pb_export.proofs.readable.has_section_word.Goals as goal

pub returns-then-has_project_word : goal.returns-then-has_project_word
returns-then-has_project_word c =
    let e : ElectionView = c.args.election.now in
    let voters = list_any (λ (v : VoterView). is_section_word v.id) e.voters in
    let word : list_any (λ (p : ProjectView). is_section_word p.id) e.projects ≡ true =
    sym (c.has_project_word.ensures ∙ ap (list_any (λ (p : ProjectView). is_section_word p.id)) c.projects.ensures.projects) ∙ c.if-has_project_word.true in
    c.if-has_project_word.true ∙ sym (section_words e ∙ ap (λ t. t || voters) word)

pub returns-else-has_project_word : goal.returns-else-has_project_word
returns-else-has_project_word c =
    let e : ElectionView = c.args.election.now in
    let voters = list_any (λ (v : VoterView). is_section_word v.id) e.voters in
    let none : list_any (λ (p : ProjectView). is_section_word p.id) e.projects ≡ false =
    sym (c.has_project_word.ensures ∙ ap (list_any (λ (p : ProjectView). is_section_word p.id)) c.projects.ensures.projects) ∙ c.if-has_project_word.false in
    c.has_voter_word.ensures ∙ ap (list_any (λ (v : VoterView). is_section_word v.id)) c.voters.ensures.voters ∙ sym (section_words e ∙ ap (λ t. t || voters) none)
