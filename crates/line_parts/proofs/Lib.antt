mod Decimals
pub mod Framing
mod PriceTexts
pub mod RowLaws
mod Sums
