-- Offered to the crates above: what they may cite.
pub mod SlotHolds
pub mod ShareLots
pub mod KeptByTrades
pub mod SweptBooks
pub mod Done
pub mod Uncrossed
pub mod Streams
pub mod BalancedHistories
pub mod Bounds
pub mod Sweeps
pub mod Entered
pub mod BalancedRequests
pub mod BalancedClosings
pub mod NumberedSteps
pub mod NumberedHistories
pub mod Unwritten
pub mod LevelSteps
pub mod Cores
-- What the proofs of this crate alone cite.
mod FirmSteps
mod Lots
mod StopRounds
mod StopsLeft
mod Tops
mod Events
mod Growth
mod Told
mod Books
mod Trades
mod Replaces
mod Counted
mod NumberedMatches
mod Sums
mod Singles
mod LevelSums
mod Matching
mod Entering
mod Stops
mod States
mod LevelRequests
mod LevelClosings
