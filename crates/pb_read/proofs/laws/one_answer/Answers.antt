use Rattle.pb_read.proofs.Uniqueness.{none_before, one_election, one_fault, one_with_it, refused_from_outside}
use Rattle.pb_read.proofs.laws.one_answer.Goals as goal

pub returns-clause-one_election : goal.returns-clause-one_election
returns-clause-one_election c = one_election

pub returns-clause-one_fault : goal.returns-clause-one_fault
returns-clause-one_fault c = one_fault

pub returns-clause-not_both : goal.returns-clause-not_both
returns-clause-not_both c = refused_from_outside

pub returns-clause-none_before : goal.returns-clause-none_before
returns-clause-none_before c = none_before

pub returns-clause-one_with_it : goal.returns-clause-one_with_it
returns-clause-one_with_it c = one_with_it
