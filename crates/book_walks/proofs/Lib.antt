-- Offered to the crates above: what they may cite.
pub mod SideLevels
pub mod OrderWalks
pub mod MetOrders
pub mod SideSlots
pub mod InstrumentWalks
