-- Offered to the crates above: what they may cite.
pub mod EachTrade
pub mod EachOrder
pub mod Events
pub mod Advance
pub mod Done
pub mod Rounds
pub mod Names
pub mod Numbered
pub mod Renamed
pub mod Swept
pub mod Standing
pub mod Resting
pub mod SlotsKept
pub mod Showing
pub mod StepShares
