use Rattle.pb_price.specs.Supporters.{support_of}
use Rattle.pb_rounds.proofs.Added.{added_are_paid, added_differ, added_have_votes, added_were_not_taken, election_is_filled}
use Rattle.pb_rounds.proofs.Filled.{rule_from_filled}
use Rattle.pb_rounds.proofs.by_votes.laws.what_is_added_fits.Goals as goal

pub returns : goal.returns
returns c = record {
  paid = λ e taken left h. added_are_paid (support_of e) taken left _ (election_is_filled e taken left h);
  supported = λ e taken left h. added_have_votes (support_of e) taken left _ (election_is_filled e taken left h);
  not_taken = λ e taken left h. added_were_not_taken (support_of e) taken left _ (election_is_filled e taken left h);
  once = λ e taken left h. added_differ (support_of e) taken left _ (election_is_filled e taken left h);
  none_fits = λ e taken left place h.
      (rule_from_filled (support_of e) taken left _ (election_is_filled e taken left h)).none_fits place;
}
