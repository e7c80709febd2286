mod Capped
mod Places
pub mod NumberTexts
mod PriceTexts
pub mod PricesAgain
pub mod Tests
pub mod Written
pub mod Marks
mod NameFronts
mod Times
mod ShortPrices
mod Ends
mod Blocks
