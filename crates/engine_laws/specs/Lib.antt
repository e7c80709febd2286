pub mod MatchLaws
pub mod Stops
pub mod FirmSteps
pub mod Bounds
pub mod Heads
pub mod Lines
pub mod LevelsTold
pub mod LevelLaws
