-- The kinds of the faults that an amount can have; private contracts speak of them.
use Rattle.pb_core.specs.declared.money_fault.MoneyFault.{MoneyFault}
use Rattle.pb_core.specs.declared.money_fault.MoneyFault.TheVariants as money
use Rattle.pb_read.specs.declared.fault.ReadKind.{ReadKind}
use Rattle.pb_read.specs.declared.fault.ReadKind.TheVariants.{BadMoney, MoneyTooFine, MoneyTooLarge}

abbrev pub kind_of_money : MoneyFault → ReadKind
kind_of_money money.BadMoney = BadMoney
kind_of_money money.MoneyTooFine = MoneyTooFine
kind_of_money money.MoneyTooLarge = MoneyTooLarge
