pub mod FirmSets
pub mod Firms
