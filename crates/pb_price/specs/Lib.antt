-- The words that public contracts reach, a notion a file.
pub mod Claims
pub mod Grain
pub mod Price
pub mod PriceFault
pub mod Supporters
pub mod Inner
