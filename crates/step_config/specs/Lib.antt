pub mod Rules
pub mod Presets
pub mod RightSteps
pub mod RepeatLaws
pub mod StepLaws
