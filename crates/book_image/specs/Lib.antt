pub mod Rows
pub mod Image
pub mod Kinds
pub mod Rules
pub mod Faults
pub mod Reading
pub mod Inner
