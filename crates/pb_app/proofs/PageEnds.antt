-- How the runs of a page end.
use Rattle.std.proofs.Common.{◌≢◌, ℕ, List, Option, Some, None, Err}
use Rattle.pb_command_line.specs.declared.task.PageRun.{PageRun}
use Rattle.pb_commands.proofs.Endings.{Look, passed_on}
use Rattle.pb_commands.specs.Beside.{BesideRefuses}
use Rattle.pb_commands.specs.Closed.{CountRefuses, Gives}
use Rattle.pb_commands.specs.Decided.{Applies}
use Rattle.pb_commands.specs.Ends.{Ends}
use Rattle.pb_commands.specs.declared.decide.Decide.{Decide}
use Rattle.pb_faults.specs.declared.fault.AppFault.{AppFault}
use Rattle.pb_faults.specs.declared.fault.AppFault.TheVariants.{Write}
use Rattle.pb_reasons.specs.CountedElection.{IsCountIn}
use Rattle.pb_rounds.specs.declared.rule.Rule.{Rule}
use Rattle.pb_app.specs.Inner.Page.{IsCountFor, IsPageBy, PageRefuses}

module _ (rule : Rule) (files : Option (List ℕ)) (journals : Option (Option (List ℕ))) (look : Look) where
  -- what refuses the count by the rule refuses that of a page
  pub plain_pass : {T A : Type 0} (fault : AppFault) → fault ≢ Write → Ends {T = T} (Gives (IsCountIn rule)) (CountRefuses rule) files journals look (Err fault)
      → Ends {T = A} (Gives (IsCountFor rule None)) (PageRefuses rule None) files journals look (Err fault)
  plain_pass fault reads ends =
      passed_on (λ (journal : Option (List ℕ)). journal) (Gives (IsCountIn rule)) (CountRefuses rule) (Gives (IsCountFor rule None)) (PageRefuses rule None)
      files journals journals look fault (λ journal is. is) (λ bytes journal e refused. refused)
      (λ bytes journal counted gives. (counted.0, (gives.0, gives.1, gives.2.0))) reads ends

  -- and what refuses the counts by two
  pub decided_pass : (decide : Decide) {T A : Type 0} (fault : AppFault) → fault ≢ Write
      → Ends {T = T} (Gives (Applies decide rule)) (BesideRefuses rule decide.other) files journals look (Err fault)
      → Ends {T = A} (Gives (IsCountFor rule (Some decide))) (PageRefuses rule (Some decide)) files journals look (Err fault)
  decided_pass decide fault reads ends =
      passed_on (λ (journal : Option (List ℕ)). journal) (Gives (Applies decide rule)) (BesideRefuses rule decide.other) (Gives (IsCountFor rule (Some decide)))
      (PageRefuses rule (Some decide)) files journals journals look fault (λ journal is. is) (λ bytes journal e refused. refused)
      (λ bytes journal counted gives. ((counted.0.rule, gives.2.0, gives.2.1), (gives.0, gives.1, gives.2.3))) reads ends

-- what refuses the count of a page refuses the page
pub page_pass : (run : PageRun) (rule : Rule) (decide : Option Decide) (files : Option (List ℕ)) (journals : Option (Option (List ℕ))) (look : Look)
    → {T A : Type 0} (fault : AppFault) → fault ≢ Write → Ends {T = T} (Gives (IsCountFor rule decide)) (PageRefuses rule decide) files journals look (Err fault)
    → Ends {T = A} (Gives (IsPageBy run rule decide)) (PageRefuses rule decide) files journals look (Err fault)
page_pass run rule decide files journals look fault reads ends =
    passed_on (λ (journal : Option (List ℕ)). journal) (Gives (IsCountFor rule decide)) (PageRefuses rule decide) (Gives (IsPageBy run rule decide)) (PageRefuses rule decide)
    files journals journals look fault (λ journal is. is) (λ bytes journal e refused. refused)
    (λ bytes journal text told. (told.2.0, (told.0, told.1, told.2.1))) reads ends
