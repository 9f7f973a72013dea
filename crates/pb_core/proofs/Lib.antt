-- The lemmas that the proofs of this crate share.
pub mod Conditions
pub mod Elections
pub mod InOrder
pub mod Members
pub mod MoneyBack
pub mod MoneyNamed
pub mod MoneyParts
pub mod MoneyTexts
pub mod MoneyWorth
pub mod OrderWords
pub mod Orders
pub mod Rising
pub mod Trim
