pub mod Queues
pub mod Inner
