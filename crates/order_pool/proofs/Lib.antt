-- Offered to the crates above: what they may cite.
pub mod PoolFacts
-- What the proofs of this crate alone cite.
mod Places
mod Lent
mod Nodes
mod Cells
mod CellsAt
mod Paths
mod RingMoves
mod WholeRings
mod Views
mod Pools
mod PoolCalls
mod Shown
mod Calls
mod Starts
