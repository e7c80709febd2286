pub mod Messages
pub mod Answers
pub mod SessionLines
pub mod Again
pub mod SessionOut
pub mod Inner
