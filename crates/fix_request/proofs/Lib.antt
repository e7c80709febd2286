-- Offered to the crates above: what they may cite.
pub mod Agree
pub mod ValidRequests
pub mod ShortRequests
pub mod FirmRules
-- What the proofs of this crate alone cite.
mod AgreeHeaders
mod AgreeOrders
mod AgreeFirms
mod AgreeChanges
mod Answering
mod Senders
mod FirstField
mod FirstMark
mod Places
mod Passing
mod Rows
mod ValidOrders
mod Giving
mod Holding
mod Noting
mod Numbers
mod Prices
mod Splits
mod Symbols
mod TwoDigits
mod Times
