-- Offered to the crates above: what they may cite.
pub mod WholeFeeds
-- What the proofs of this crate alone cite.
mod SentLevels
mod Noted
mod Telling
mod Taking
