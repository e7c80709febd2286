pub mod Records
pub mod Histories
pub mod Kept
pub mod BadPlaces
pub mod Products
pub mod Passed
pub mod Recovering
pub mod Inner
