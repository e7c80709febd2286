pub mod Draws
pub mod Inner
pub mod Messages
pub mod Stream
