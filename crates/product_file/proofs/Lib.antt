-- Offered to the crates above: what they may cite.
pub mod RightTexts
-- What the proofs of this crate alone cite.
mod Mapped
mod Numbered
mod Given
mod Lists
mod RightFirms
mod RightShares
mod RightRules
mod RightInstruments
mod Seven
mod SharesAfter
mod InstrumentsAfter
mod RightProduct
mod Judged
mod FaultsInOrder
mod RowValues
mod RowFirms
mod RowShares
mod RowRules
mod RowInstruments
mod RowProduct
mod ReadTexts
mod SameLists
