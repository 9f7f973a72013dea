-- Why the count of a shut desk is refused.
use Rattle.std.specs.Prelude.{◌≡◌, ⊤, true}
use Rattle.pb_desk.specs.Desk.{DeskView, closed_election, standing_of}
use Rattle.pb_reasons.specs.CountedElection.{IsFaultIn}
use Rattle.pb_rounds.specs.declared.count_fault.CountFault.{CountFault}
use Rattle.pb_rounds.specs.declared.count_fault.CountFault.TheVariants.{NoMemory}
use Rattle.pb_rounds.specs.declared.rule.Rule.{Rule}
use Rattle.pb_commands.specs.Inner.Beside.{IsRefusedBeside}

-- the desk is shut, and the count of the ballots that its journal leaves is refused; or memory is
abbrev pub IsRefusedDesk : DeskView → Rule → CountFault → Type 0
IsRefusedDesk d rule NoMemory = ⊤
IsRefusedDesk d rule fault =
    ((standing_of d).is_shut ≡ true) × IsFaultIn rule (closed_election d) fault

-- so is the count by one of these rules
abbrev pub IsRefusedDeskBeside : DeskView → (rule other : Rule) → CountFault → Type 0
IsRefusedDeskBeside d rule other NoMemory = ⊤
IsRefusedDeskBeside d rule other fault =
    ((standing_of d).is_shut ≡ true) × IsRefusedBeside rule other (closed_election d) fault
