-- What inner functions compute. Contracts of public functions do not need it.
pub mod Times
pub mod ShortPrices
