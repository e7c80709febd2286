-- Offered to the crates above: what they may cite.
pub mod Records
pub mod Walked
pub mod Heads
pub mod LastTexts
pub mod AmendedAt
pub mod Unique
-- What the proofs of this crate alone cite.
mod Torn
mod Storing
mod Looking
mod Stepping
mod Appended
mod Staging
mod Texts
mod AmendedTexts
mod Passing
mod LastPlaces
mod Fronts
mod Pieces
mod Created
mod Creating
mod Found
