use Rattle.std.proofs.Common.{◌≡◌, List, ℕ, subst}
use Rattle.std.specs.List.Sorted.{IsPermutation, IsSortedBy}
use Rattle.std.specs.Prelude.{IfOk}
use Rattle.pb_price.proofs.SupporterLists.{support_form}
use Rattle.pb_rounds.specs.Inner.Candidates.{candidates_of}
use Rattle.pb_rounds.specs.declared.by_votes.candidate.Candidate.{Candidate}
use Rattle.pb_rounds.proofs.InOrder.{comes_before, in_order_is_computed}
use Rattle.pb_rounds.proofs.by_votes.filling_up.most_votes_first.Goals as goal

pub returns : goal.returns
returns g c =
    let s = c.args.supporters.now in
    let taken = c.args.taken.now in
    let moved : IsPermutation (candidates_of s taken) c.as_slice.result.now =
    rw c.as_slice.ensures.value (subst (λ (xs : List Candidate). IsPermutation xs c.sort_unstable.new.self.items) c.in_ok-candidates.ensures.candidates c.sort_unstable.ensures.permutation) in
    let sorted : IsSortedBy comes_before c.as_slice.result.now = rw c.as_slice.ensures.value c.sort_unstable.ensures.sorted in
    let computed = in_order_is_computed s (support_form s c.candidates.ensures.is_support) taken c.args.left c.as_slice.result.now moved sorted in
    subst (λ (places : List ℕ). IfOk c.affordable.result (λ added. added.items ≡ places)) computed c.affordable.ensures
