-- Offered to the crates above: that messages and histories lead to right states, that these have right images, which are read back,
-- and what a product has in common with one that may follow it;
pub mod States
pub mod Histories
pub mod Images
pub mod Following
-- and what holds on the way there: of each order, while one is matched, when one comes in, and of the requests that bring it.
pub mod Orders
pub mod Held
pub mod Prices
pub mod Matching
pub mod Arriving
pub mod Names
pub mod Reached
pub mod NewOrders
pub mod Replaces
pub mod Amended
-- What the proofs of this crate alone cite: of the states that messages lead to,
mod Counted
mod Closings
-- and of images.
mod Places
mod Rows
mod RowLists
mod OrderRows
mod Beside
mod RightRows
mod TopMarks
mod TopsRead
mod ImagePlaces
mod Numbers
mod Parts
