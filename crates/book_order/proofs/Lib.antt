-- Offered to the crates above: what they may cite.
pub mod Before
pub mod Each
pub mod Levels
