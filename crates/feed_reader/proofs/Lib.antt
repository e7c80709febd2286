-- Offered to the crates above: what is told of a whole input.
pub mod WholeFeeds
-- What the proofs of this crate alone cite.
mod Fronts
mod Pieces
mod GoingOn
mod Turns
