-- Offered to the crates above: what they may cite.
pub mod SessionLaws
pub mod Listed
-- What the proofs of this crate alone cite.
mod Cuts
mod Agree
mod Names
mod Taken
mod Parts
mod Lengths
mod Whole
