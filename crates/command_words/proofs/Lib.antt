mod Passing
mod NumberTexts
mod OptionTexts
mod Taken
pub mod Examples
