-- What a shared desk comes to once its clerks are back.
use Rattle.std.specs.Prelude.{◌≡◌, true, false, List, length, map, Result, Ok, Err}
use Rattle.pb_core.specs.Request.{EntryView}
use Rattle.pb_desk.specs.Desk.{DeskView, closed_election, standing_of}
use Rattle.pb_rounds.specs.Counted.{IsCountFault, IsCountOf}
use Rattle.pb_rounds.specs.TieOrder.{IsSortedFor}
use Rattle.pb_rounds.specs.declared.rule.Rule.{Rule}
use Rattle.pb_shared.specs.Clerk.{ClerkView, IsAnothers, IsMergeOf, SharedView}
use Rattle.pb_closing.specs.declared.close_fault.CloseFault.{CloseFault}
use Rattle.pb_closing.specs.declared.close_fault.CloseFault.TheVariants.{Unfinished, NoMemory, NotSorted, NotCounted}
use Rattle.pb_closing.specs.declared.closing.Closing.{Closing}
use Rattle.pb_closing.specs.declared.closing.Closing.TheVariants.{Open, Counted}

-- What a desk comes to. Where it is open it is handed on. Where it is shut the ballots that its journal
-- leaves are counted; or it is handed back where memory is refused, or its election is, before it is sorted; or
-- the sorted one is, where its count is refused.
abbrev pub ComesTo : DeskView → Rule → Result Closing CloseFault → Type 0
ComesTo d rule (Ok (Open desk)) = ((standing_of d).is_shut ≡ false) × (desk ≡ d)
ComesTo d rule (Ok (Counted count)) = ((standing_of d).is_shut ≡ true) × (count.entries ≡ length d.journal)
    × IsSortedFor rule.ties (closed_election d) count.order count.election × IsCountOf count.election rule.options count.outcome
ComesTo d rule (Err (NoMemory desk)) = ((standing_of d).is_shut ≡ true) × (desk ≡ d)
ComesTo d rule (Err (NotSorted election)) = ((standing_of d).is_shut ≡ true) × (election ≡ closed_election d)
ComesTo d rule (Err (NotCounted fault order election)) = ((standing_of d).is_shut ≡ true)
    × IsSortedFor rule.ties (closed_election d) order election × IsCountFault election rule.options fault
ComesTo d rule (Err (Unfinished word)) = ⊥

-- The headline. There is one journal. It is legal, begins with what each of these clerks has seen, and past
-- the start is a merge of the clerks' own calls; and the answer is what the desk with this journal comes to.
-- Or a clerk who is not among these holds the lock.
abbrev pub IsClosedAs : SharedView → List ClerkView → Rule → Result Closing CloseFault → Type 0
IsClosedAs shared clerks rule (Err (Unfinished word)) = IsAnothers shared (map (λ c. c.sheet) clerks) word
IsClosedAs shared clerks rule answer = (journal : List EntryView) × IsMergeOf shared clerks journal
    × ComesTo (record shared.start { journal = journal }) rule answer
