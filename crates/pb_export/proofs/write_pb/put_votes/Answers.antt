use Rattle.std.proofs.Common.{◌≡◌, ◌∷◌, ◌++◌, ◌+◌, [], List, codes, map, take, refl, ap, ◌∙◌, subst, sym}
use Rattle.std.proofs.lemmas.List.{map_more}
use Rattle.csv.specs.Records.{AllText}
use Rattle.pb_core.specs.Election.{ProjectView, VoterView, project_ids}
use Rattle.pb_rows.specs.Reading.{Fields}
use Rattle.pb_rows.specs.Writing.{text_of_row}
use Rattle.pb_export.specs.FileRows.{votes_rows}
use Rattle.pb_export.specs.Inner.Behind.{behind, of_voter}
use Rattle.pb_export.specs.Inner.Parts.{vote_row, vote_text}
use Rattle.pb_export.specs.Inner.Growing.{Grows}
use Rattle.pb_export.proofs.Grown.{none_grown, row_grown}
use Rattle.pb_export.proofs.Tidy.{plain_text}
use Rattle.pb_export.proofs.write_pb.put_votes.Goals as goal

heads_text : AllText (codes "VOTES" ∷ []) × ((more : Fields) → AllText more → AllText (codes "voter_id" ∷ codes "vote" ∷ more))
unfolding AllText
heads_text = ((plain_text (codes "VOTES") refl, tt), λ more are. (plain_text (codes "voter_id") refl, (plain_text (codes "vote") refl, are)))

pub loop-voter-init : goal.loop-voter-init
loop-voter-init c =
    let old = c.args.rows.now.text in
    let names = rw c.names_of_voters.ensures at c.in_ok-put_with.ensures.text in
    let are = rw c.names_of_voters.ensures at c.in_ok-put_with.ensures.are_text in
    row_grown _ _ old _ _ (row_grown [] _ old _ _ (none_grown old) c.in_ok-put_row.ensures.text heads_text.0) names (heads_text.1 c.args.further.now.voter_names are)

pub loop-voter-preserved : goal.loop-voter-preserved
unfolding AllText
loop-voter-preserved c =
    let e = c.args.election.now in
    let ids = project_ids e in
    let voters = c.voters-voter-items.result.now in
    let i = c.loop-voter.voter-index in
    let v = c.voter-item.result in
    let old = c.args.rows.now.text in
    let mid = c.loop-voter.rows.text in
    let ids_are : map (λ (p : ProjectView). p.id) c.projects-projects.result.now ≡ ids = ap (map (λ (p : ProjectView). p.id)) c.projects-projects.ensures.projects in
    let ballot : c.places.result.now ≡ v.ballot = c.places.ensures.places ∙ ap (λ (w : VoterView). w.ballot) c.voter.view_is in
    let further = c.args.further.now in
    let id : c.text-id.result.now ≡ v.id = c.text-id.ensures.text ∙ ap (λ (w : VoterView). w.id) c.voter.view_is in
    let vote : c.as_str.result.now ≡ vote_text ids v.ballot = c.as_str.ensures.value ∙ c.in_ok-vote.ensures ∙ (λ k. vote_text (ids_are k) (ballot k)) in
    let more : Fields = (of_voter further) v.id in
    let fields = c.of_voter.ensures ∙ ap (of_voter further) id in
    let row : ◌≡◌ {A = Fields} (c.text-id.result.now ∷ c.as_str.result.now ∷ behind c.of_voter.result) (vote_row ids (of_voter further) v) = λ k. id k ∷ vote k ∷ fields k in
    let next : votes_rows ids further (take (i + 1) voters) ≡ votes_rows ids further (take i voters) ++ vote_row ids (of_voter further) v ∷ [] =
    ap (λ (rows : List Fields). (codes "VOTES" ∷ []) ∷ (codes "voter_id" ∷ codes "vote" ∷ further.voter_names) ∷ rows)
    (map_more (vote_row ids (of_voter further)) voters i v c.loop-voter-test.true ∙ ap (λ (w : VoterView). map (vote_row ids (of_voter further)) (take i voters) ++ vote_row ids (of_voter further) w ∷ []) (sym c.voter-item.is)) in
    subst (λ (rows : List Fields). Grows rows old c.put_with-in-loop-voter.new.rows.text) (sym next)
    (row_grown (votes_rows ids further (take i voters)) (vote_row ids (of_voter further) v) old mid c.put_with-in-loop-voter.new.rows.text c.loop-voter.invariant
    (c.in_ok-put_with-2.ensures.text ∙ ap (λ (fields : Fields). mid ++ text_of_row fields) row) (subst AllText row (c.text-id.utf8, (c.as_str.utf8, c.in_ok-put_with-2.ensures.are_text))))
