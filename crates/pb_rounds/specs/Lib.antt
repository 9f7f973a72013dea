-- The words that public contracts reach, a notion a file.
pub mod Cheapest
pub mod Completed
pub mod Count
pub mod CountFault
pub mod Counted
pub mod Fairness
pub mod Key
pub mod Outcome
pub mod Payments
pub mod PriceSystem
pub mod PricingRecord
pub mod RuleNames
pub mod Run
pub mod TieOrder
pub mod MostVotes
pub mod Inner
