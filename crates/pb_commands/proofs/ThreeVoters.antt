-- The definitions, computed on an election of three voters.
use Rattle.std.proofs.Common.{◌≡◌, [], ◌∷◌, None, codes, refl}
use Rattle.csv.specs.Writing.{escaped, fields_text, is_blank}
use Rattle.std.specs.Fmt.{digits}
use Rattle.pb_core.specs.Election.{ElectionView}
use Rattle.pb_price.specs.Supporters.{supporters_of}
use Rattle.pb_price.specs.declared.grain.Grain.TheVariants.{Hundredths}
use Rattle.pb_read.specs.declared.fault.ReadKind.TheVariants.{MoneyTooFine}
use Rattle.pb_reasons.specs.Counted.{counted}
use Rattle.pb_rounds.specs.Outcome.{OutcomeView}
use Rattle.pb_rounds.specs.TieOrder.{by_file}
use Rattle.pb_rounds.specs.declared.measure.Measure.TheVariants.{Votes}
use Rattle.pb_rounds.specs.declared.options.Completion.TheVariants.{Add1}
use Rattle.pb_rounds.specs.declared.rule.FillUp.TheVariants.{Nothing}
use Rattle.pb_rounds.specs.declared.rule.Rule.{Rule}
use Rattle.pb_rows.specs.ExactText.{exact_text}
use Rattle.pb_rows.specs.Writing.{text_of_row, text_of_rows}
use Rattle.pb_faults.specs.Fault.{line, merged, told}
use Rattle.pb_commands.specs.Report.{report_of}
use Rattle.pb_faults.specs.declared.fault.AppFault.TheVariants.{Read}

-- budget 100.00; the first two voters approve the first project, the last two the second
abbrev e : ElectionView
e = record {
  budget = 10000;
  projects = record { id = codes "a"; name = []; cost = 3000 } ∷ record { id = codes "b"; name = []; cost = 6000 } ∷ [];
  voters = record { id = codes "v1"; ballot = 0 ∷ [] } ∷ record { id = codes "v2"; ballot = 0 ∷ 1 ∷ [] } ∷ record { id = codes "v3"; ballot = 1 ∷ [] } ∷ [];
  max_length = None;
}

-- after five raises both are elected
abbrev o : OutcomeView
o = record {
  share = 3833;
  raised = 5;
  elected = record { place = 0; price = 1500; exact = record { amount = 1500; payers = 1 }; collected = 3000 }
      ∷ record { place = 1; price = 3667; exact = record { amount = 3667; payers = 1 }; collected = 6000 } ∷ [];
  rests = 2333 ∷ 0 ∷ 166 ∷ [];
  priced = [];
}

-- by a rule that takes these options
abbrev by_votes : Rule
by_votes = record {
  options = record { step = 100; max_raises = 1000000; workers = 1; completion = Add1; measure = Votes; grain = Hundredths };
  fill_up = Nothing;
  ties = by_file;
}

report : report_of (record { election = e; order = 0 ∷ 1 ∷ []; rule = by_votes; counted = counted e Nothing o }) ≡ codes "budget;100.00\nvoters;3\nshare;38.33\nraises;5\nelected;a;30.00;15.00\nelected;b;60.00;36.67\nspent;90.00\nsurplus;0.00\n"
unfolding report_of exact_text text_of_rows text_of_row fields_text is_blank escaped digits supporters_of
report = refl

too_fine : line (told (merged (Read (record { kind = MoneyTooFine; at = 7 })))).1 ≡ codes "fault;read;12;MoneyTooFine;7\n"
unfolding digits
too_fine = refl
