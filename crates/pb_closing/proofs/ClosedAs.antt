-- What a desk comes to is what its clerks' shared desk is closed as.
use Rattle.std.proofs.Common.{◌≡◌, List, Ok, Err, subst}
use Rattle.std.specs.Prelude.{Result}
use Rattle.pb_desk.specs.Desk.{DeskView}
use Rattle.pb_rounds.specs.declared.rule.Rule.{Rule}
use Rattle.pb_shared.specs.Clerk.{ClerkView, IsMergeOf, SharedView}
use Rattle.pb_closing.specs.Closed.{ComesTo, IsClosedAs}
use Rattle.pb_closing.specs.declared.close_fault.CloseFault.{CloseFault}
use Rattle.pb_closing.specs.declared.close_fault.CloseFault.TheVariants.{Unfinished, NoMemory, NotSorted, NotCounted}
use Rattle.pb_closing.specs.declared.closing.Closing.{Closing}

pub closed_as : (shared : SharedView) (clerks : List ClerkView) (rule : Rule) (d : DeskView) (answer : Result Closing CloseFault)
    → (d ≡ record shared.start { journal = d.journal }) × IsMergeOf shared clerks d.journal → ComesTo d rule answer → IsClosedAs shared clerks rule answer
closed_as shared clerks rule d (Err (Unfinished word)) finished comes = absurd comes
closed_as shared clerks rule d (Ok closing) finished comes =
    (d.journal, finished.1, subst (λ (desk : DeskView). ComesTo desk rule (Ok closing)) finished.0 comes)
closed_as shared clerks rule d (Err (NoMemory desk)) finished comes =
    (d.journal, finished.1, subst (λ (own : DeskView). ComesTo own rule (Err (NoMemory desk))) finished.0 comes)
closed_as shared clerks rule d (Err (NotSorted election)) finished comes =
    (d.journal, finished.1, subst (λ (own : DeskView). ComesTo own rule (Err (NotSorted election))) finished.0 comes)
closed_as shared clerks rule d (Err (NotCounted fault order election)) finished comes =
    (d.journal, finished.1, subst (λ (own : DeskView). ComesTo own rule (Err (NotCounted fault order election))) finished.0 comes)
