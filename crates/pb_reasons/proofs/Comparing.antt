-- A comparison that grows voter by voter, and what a ballot has of the winners place by place.
use Rattle.std.proofs.Common.{◌≡◌, ℕ, ◌+◌, ◌^◌, ◌<◌, ◌≤◌, Bool, true, false, cond, List, [], ◌∷◌, ◌++◌, length, get_or, take, refl, sym, ◌∙◌, ap, arith, append-nil}
use Rattle.std.specs.Prelude.{filter, nat_lt, ◌==◌, sum_by}
use Rattle.std.proofs.lemmas.List.{get_or_read}
use Rattle.std.proofs.lemmas.List.Elements.{filter_more}
use Rattle.std.proofs.lemmas.List.Sums.{count_by-le-length, count_by_more_no, count_by_more_yes, sum_by_more, sum_by_push}
use Rattle.std.specs.List.Sorted.{IsStrictlyIncreasing}
use Rattle.pb_core.specs.Election.{ElectionView, IsElection, VoterView}
use Rattle.pb_rounds.specs.MostVotes.{is_taken}
use Rattle.pb_price.proofs.BuiltLists.{ballot_known, ballot_read}
use Rattle.pb_price.specs.Supporters.{cost_at, support_of}
use Rattle.pb_reasons.specs.Comparison.{choices_of, worth_of}
use Rattle.pb_reasons.specs.Inner.Comparing.{AreFlags, IsSmall, content_of, row_after, with_voter}
use Rattle.pb_reasons.proofs.Listing.{few_places}
use Rattle.pb_reasons.specs.declared.content.Content.{Content}
use Rattle.pb_reasons.specs.declared.rule_row.RuleRow.{RuleRow}

-- a choice more, which is a winner
pub chosen_more : (e : ElectionView) (winners ballot : List ℕ) (i : ℕ) → i < length ballot → is_taken winners (get_or ballot i 0) ≡ true
    → (choices_of winners (take (i + 1) ballot) ≡ choices_of winners (take i ballot) + 1)
    × (worth_of e winners (take (i + 1) ballot) ≡ worth_of e winners (take i ballot) + cost_at (support_of e) (get_or ballot i 0))
chosen_more e winners ballot i below wins = (
  count_by_more_yes (is_taken winners) ballot i 0 below wins,
  ap (sum_by (cost_at (support_of e))) (filter_more (is_taken winners) ballot i 0 below)
      ∙ ap (λ b. sum_by (cost_at (support_of e)) (filter (is_taken winners) (take i ballot) ++ cond b (get_or ballot i 0 ∷ []) [])) wins
      ∙ sum_by_push (cost_at (support_of e)) (filter (is_taken winners) (take i ballot)) (get_or ballot i 0),
)

-- a choice more, which is none
pub passed_over : (e : ElectionView) (winners ballot : List ℕ) (i : ℕ) → i < length ballot → is_taken winners (get_or ballot i 0) ≡ false
    → (choices_of winners (take (i + 1) ballot) ≡ choices_of winners (take i ballot))
    × (worth_of e winners (take (i + 1) ballot) ≡ worth_of e winners (take i ballot))
passed_over e winners ballot i below loses = (
  count_by_more_no (is_taken winners) ballot i 0 below loses,
  ap (sum_by (cost_at (support_of e)))
      (filter_more (is_taken winners) ballot i 0 below
      ∙ ap (λ b. filter (is_taken winners) (take i ballot) ++ cond b (get_or ballot i 0 ∷ []) []) loses
      ∙ append-nil (filter (is_taken winners) (take i ballot))),
)

-- a flag tells whether a project is among the winners
pub flag_tells : (projects : ℕ) (winners : List ℕ) (flags : List Bool) (place : ℕ) (flag : Bool) → AreFlags projects winners flags
    → place < projects → flag ≡ get_or flags place flag → is_taken winners place ≡ flag
flag_tells projects winners flags place flag are known is =
    sym (get_or_read flags place flag (rw are.one_each known) is false ∙ are.flagged place known)

-- a rule's row with one voter more
pub row_more : (e : ElectionView) (winners other : List ℕ) (voters : List VoterView) (i : ℕ) (v : VoterView) → i < length voters → v ≡ get_or voters i v
    → row_after e winners other (take (i + 1) voters)
    ≡ with_voter (row_after e winners other (take i voters)) (content_of e winners v.ballot) (content_of e other v.ballot)
row_more e winners other voters i v below here =
    let without = sum_by_more (λ (u : VoterView). cond (choices_of winners u.ballot == 0) 1 0) voters i v below in
    let choices = sum_by_more (λ (u : VoterView). choices_of winners u.ballot) voters i v below in
    let worth = sum_by_more (λ (u : VoterView). worth_of e winners u.ballot) voters i v below in
    let more_choices = sum_by_more (λ (u : VoterView). cond (nat_lt (choices_of other u.ballot) (choices_of winners u.ballot)) 1 0) voters i v below in
    let more_worth = sum_by_more (λ (u : VoterView). cond (nat_lt (worth_of e other u.ballot) (worth_of e winners u.ballot)) 1 0) voters i v below in
    rw (without, choices, worth, more_choices, more_worth, ← here) refl

bit : (b : Bool) → cond b 1 0 ≤ 1
bit true = omega arith
bit false = omega arith

-- the numbers stay such as the voters can make
pub small_more : (voters : ℕ) (r : RuleRow) (own other : Content) → IsSmall voters r → own.choices < 2 ^ 32 → own.worth ≤ 2 ^ 96
    → IsSmall (voters + 1) (with_voter r own other)
small_more voters r own other small few little = record {
  without = omega (arith, small.without, bit (own.choices == 0));
  choices = omega (arith, small.choices, few);
  worth = omega (arith, small.worth, little);
  more_choices = omega (arith, small.more_choices, bit (nat_lt other.choices own.choices));
  more_worth = omega (arith, small.more_worth, bit (nat_lt other.worth own.worth));
}

-- no voter makes nothing
pub none_small : (e : ElectionView) (winners other : List ℕ) → IsSmall 0 (row_after e winners other [])
none_small e winners other = record {
  without = omega arith;
  choices = omega arith;
  worth = omega arith;
  more_choices = omega arith;
  more_worth = omega arith;
}

-- the ballot that a turn of a loop has is shorter than 2 ^ 32
pub few_choices : (e : ElectionView) (voters : List VoterView) (i : ℕ) (v : VoterView) (ballot : List ℕ) → IsElection e → voters ≡ e.voters → i < length voters
    → v ≡ get_or voters i v → ballot ≡ v.ballot → IsStrictlyIncreasing ballot → length ballot < 2 ^ 32
few_choices e voters i v ballot h same below here cast rise =
    let known = ballot_known e i ballot h (rw same at below) (ballot_read e voters i v ballot same below here cast) in
    omega (arith, few_places (length e.projects) ballot rise known, h.few_projects)

-- a rule's row as it grows by the next voter, whose ballot has this of both rules' winners
module _ (e : ElectionView) (winners other : List ℕ) (voters : List VoterView) (i : ℕ) (v : VoterView) (ballot : List ℕ) (before after : RuleRow) (own beside : Content)
    (below : i < length voters) (here : v ≡ get_or voters i v) (cast : ballot ≡ v.ballot) (own_is : own ≡ content_of e winners ballot)
    (beside_is : beside ≡ content_of e other ballot) (grown : after ≡ with_voter before own beside) where
  pub row_grown : before ≡ row_after e winners other (take i voters) → after ≡ row_after e winners other (take (i + 1) voters)
  row_grown before_is = grown ∙ rw (before_is, own_is, beside_is, cast) (sym (row_more e winners other voters i v below here))

  pub small_grown : length ballot < 2 ^ 32 → own.worth ≤ 2 ^ 96 → IsSmall i before → IsSmall (i + 1) after
  small_grown few little small =
      let choices : own.choices ≡ choices_of winners ballot = ap (λ (c : Content). c.choices) own_is in
      rw grown (small_more i before own beside small (omega (arith, choices, few, count_by-le-length (is_taken winners) ballot)) little)
