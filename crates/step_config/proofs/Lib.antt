-- Offered to the crates above: what they may cite.
pub mod Right
-- What the proofs of this crate alone cite.
mod NoFault
mod Places
