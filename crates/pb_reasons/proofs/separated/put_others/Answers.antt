use Rattle.std.proofs.Common.{◌≡◌, ◌∙◌, ◌++◌, ◌∷◌, [], ◌<◌, ℕ, Bool, List, ap, arith, length, map, sym, subst, take}
use Rattle.std.specs.Prelude.{filter}
use Rattle.std.specs.List.{range_with_len}
use Rattle.std.proofs.lemmas.Bool.{eqb-true}
use Rattle.pb_core.specs.Election.{ElectionView, ProjectView}
use Rattle.pb_core.specs.Order.{position_in}
use Rattle.pb_price.proofs.BuiltLists.{range_with_len_more}
use Rattle.pb_reasons.specs.Inner.AllTies.{told_with, with_other}
use Rattle.pb_reasons.specs.declared.told_tie.ToldTie.{ToldTie}
use Rattle.pb_reasons.proofs.Far.{empty_is, far_none, far_passed, far_told, flag_is, none_pass}
use Rattle.pb_rounds.specs.MostVotes.{is_taken}
use Rattle.pb_reasons.proofs.separated.put_others.Goals as goal
use Rattle.pb_reasons.proofs.separated.put_others.Goals.{then-index+in_ok-tell, else-index}

pub returns-then-is_empty : goal.returns-then-is_empty
returns-then-is_empty g c =
    let x = c.args.count.now in
    let none : c.args.others.now ≡ [] = empty_is c.args.others.now (eqb-true (length c.args.others.now) 0 (sym c.is_empty.ensures ∙ c.if-is_empty.true)) in
    let rows : told_with x c.args.first (is_taken c.args.others.now) ≡ [] =
    ap (λ (others : List ℕ). told_with x c.args.first (is_taken others)) none
    ∙ ap (map (λ place. with_other c.args.first (position_in x.order place))) (none_pass (range_with_len 0 (length x.election.projects))) in
    far_none g.row.MOST c.args.told.now.rows.items c.args.told.now.few ∙ ap (λ (rows : List ToldTie). take g.row.MOST (c.args.told.now.rows.items ++ rows)) (sym rows)

pub loop-place-init : goal.loop-place-init
loop-place-init g c = far_none g.row.MOST c.args.told.now.rows.items c.args.told.now.few

pub loop-place-preserved : goal.loop-place-preserved
loop-place-preserved g c =
    let x = c.args.count.now in
    let place = c.loop-place.place in
    let others = c.args.others.now in
    let old = c.args.told.now.rows.items in
    let position = position_in x.order place in
    let test : ℕ → Bool = λ place. is_taken others (position_in x.order place) in
    let row : ℕ → ToldTie = λ place. with_other c.args.first (position_in x.order place) in
    let many : length c.projects-projects.result.now ≡ length x.election.projects = ap (λ (ps : List ProjectView). length ps) c.projects-projects.ensures.projects ∙ ap (λ (e : ElectionView). length e.projects) c.election.ensures.election in
    let known : c.position-position.result < length c.projects-projects.result.now = omega (arith, c.position-position.ensures.known, many) in
    let is : c.index.result.now ≡ is_taken others c.position-position.result =
    flag_is c.in_ok-ties.ties.items others (length c.projects-projects.result.now) c.position-position.result c.index.result.now c.in_ok-ties.ensures known c.index.ensures in
    let here : c.index.result.now ≡ test place = is ∙ ap (is_taken others) c.position-position.ensures.position in
    subst (λ (ps : List ℕ). c.if-index.told.rows.items ≡ take g.row.MOST (old ++ map row (filter test ps))) (sym (range_with_len_more place)) (elim c.if-index.branch [
      | then-index+in_ok-tell w ↦
          rw w.told-is (far_told g.row.MOST test row (range_with_len 0 place) place old c.loop-place.told.rows.items _ (sym here ∙ w.if-index.true) c.loop-place.invariant
          (w.in_ok-tell.ensures ∙ ap (λ (r : ToldTie). take g.row.MOST (c.loop-place.told.rows.items ++ r ∷ [])) (w.with_other.ensures ∙ ap (with_other c.args.first) c.position-position.ensures.position)))
      | else-index w ↦
          rw w.told-is (far_passed g.row.MOST test row (range_with_len 0 place) place old c.loop-place.told.rows.items c.loop-place.told.rows.items (sym here ∙ w.if-index.false) c.loop-place.invariant)
    ])

pub returns : goal.returns
returns g c =
    let x = c.args.count.now in
    let many : length c.projects-projects.result.now ≡ length x.election.projects = ap (λ (ps : List ProjectView). length ps) c.projects-projects.ensures.projects ∙ ap (λ (e : ElectionView). length e.projects) c.election.ensures.election in
    let all : c.loop-place.place ≡ length x.election.projects = omega (arith, many, c.loop-place-test.false, c.loop-place.auto.place-end) in
    c.loop-place.invariant
    ∙ ap (λ n. take g.row.MOST (c.args.told.now.rows.items ++ map (λ place. with_other c.args.first (position_in x.order place)) (filter (λ place. is_taken c.args.others.now (position_in x.order place)) (range_with_len 0 n)))) all
