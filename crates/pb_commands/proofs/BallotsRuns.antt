-- A file and a journal have one text of each table of their desk.
use Rattle.std.proofs.Common.{◌≡◌, ℕ, List, sym, ◌∙◌, ap}
use Rattle.pb_desk.specs.Desk.{DeskView}
use Rattle.pb_commands.specs.Inner.Ballots.{BallotsWrites}
use Rattle.pb_commands.proofs.AuditAccepted.{one_desk}

-- a file and a journal have one table
pub one_table : (table : DeskView → List ℕ) (bytes journal first second : List ℕ) → BallotsWrites table bytes journal first → BallotsWrites table bytes journal second
    → first ≡ second
one_table table bytes journal first second one other =
    one.2 ∙ ap table (one_desk bytes journal one.0 other.0 one.1 other.1) ∙ sym other.2
