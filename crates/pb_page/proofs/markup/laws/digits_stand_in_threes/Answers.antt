use Rattle.pb_page.proofs.Threes.{few_stand, three_more}
use Rattle.pb_page.proofs.markup.laws.digits_stand_in_threes.Goals as goal

pub returns-clause-few : goal.returns-clause-few
returns-clause-few c = few_stand

pub returns-clause-more : goal.returns-clause-more
returns-clause-more c = three_more
