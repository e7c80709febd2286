pub mod Ids
pub mod Inner
