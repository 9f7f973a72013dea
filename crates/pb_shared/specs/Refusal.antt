-- How a shared desk refuses.
use Rattle.std.specs.Prelude.{◌≡◌, ◌≢◌, ℕ, ◌+◌, [], ◌∷◌, length}
use Rattle.pb_shared.specs.Clerk.{IsAnothers, Sees, SharedView, Tries}
use Rattle.pb_shared.specs.declared.seat_view.Sheet.{Sheet}
use Rattle.pb_shared.specs.declared.shared_fault.SharedFault.{SharedFault}
use Rattle.pb_shared.specs.declared.shared_fault.SharedFault.TheVariants.{Busy, JournalFull, NoMemory}

-- a call was refused: all of the tries were lost, the last to the holder, and nothing else has changed; or
-- one won the lock, and the clerk has seen the desk's journal, which is full exactly where that is the fault
abbrev pub Refuses : (tries : ℕ) → SharedView → Sheet → SharedFault → Sheet → Type 0
Refuses tries d x (Busy holder) x' = Tries tries d x (holder + 1) x' × IsAnothers d (x ∷ []) (holder + 1)
    × (length x'.found ≡ length x.found + tries) × (x' ≡ record x { found = x'.found })
Refuses tries d x JournalFull x' = Sees tries d x x' × (length x'.seen ≡ d.start.room)
Refuses tries d x NoMemory x' = Sees tries d x x' × (length x'.seen ≢ d.start.room)
