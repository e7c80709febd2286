-- Offered to the crates above: what they may cite.
pub mod Filters
pub mod Levels
pub mod Pairs
pub mod Live
pub mod Named
pub mod Walks
pub mod LeftFrom
pub mod TradedShares
pub mod Matching
pub mod Found
pub mod Sorted
pub mod Tops
pub mod Right
pub mod Settled
pub mod Fits
pub mod Calls
pub mod LineCounts
pub mod Parts
pub mod Lasts
-- What the proofs of this crate alone cite.
mod Mapped
mod Kept
mod KeptCalls
mod Trading
mod Marks
mod WalkSteps
mod WalkLevel
