use Rattle.pb_core.proofs.MoneyNamed.{amount_read, bad_money, too_fine_read, too_large_read}
use Rattle.pb_core.proofs.laws.money_is_what_its_text_names.Goals as goal

pub returns : goal.returns
returns c = record { amount = amount_read; bad = bad_money; too_fine = too_fine_read; too_large = too_large_read }
