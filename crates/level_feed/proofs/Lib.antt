-- Offered to the crates above: the fold law, and what it stands on.
pub mod Folding
pub mod Chains
pub mod LevelsOf
pub mod Sums
pub mod GoingOn
-- what is noted,
pub mod Noting
pub mod RowsAt
-- What the proofs of this crate alone cite: of rows,
pub mod Order
mod Changes
mod Lengths
mod Taking
-- of texts,
mod Words
mod Written
-- and of the calls.
mod Compared
mod Collected
mod Merging
mod KeptApart
mod FoundRows
mod KeptRows
mod PrintedRows
mod BlockTexts
mod Placed
mod AtLevel
mod Picked
mod PlainNumbers
mod RowsRead
