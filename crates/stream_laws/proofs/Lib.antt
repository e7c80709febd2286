-- Offered to the crates above: what they may cite.
pub mod MadeStreams
pub mod MadeValues
pub mod Histories
pub mod Products
pub mod NamesDiffer
pub mod SameListings
pub mod Amended
pub mod States
pub mod StatesAt
pub mod Folds
pub mod Repeats
-- What the proofs of this crate alone cite.
mod MadeFields
mod Drawn
mod MadeFrames
mod Looked
mod Values
mod Fields
mod Bodies
mod Said
mod Frames
mod Engine
mod Requests
mod WrittenReports
mod Streams
mod Whole
