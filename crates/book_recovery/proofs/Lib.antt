-- Offered to the crates above: what they may cite.
pub mod FromLastImage
pub mod GoodRecords
pub mod GoodHistories
pub mod OneWay
pub mod Histories
pub mod PlainJournals
pub mod ProductLists
pub mod KeptHistories
pub mod Standings
pub mod StatesBehind
pub mod TrueImages
pub mod AmendmentPayloads
-- What the proofs of this crate alone cite.
mod LastImages
mod Applied
mod GivenFrames
mod RecordContents
mod Replaying
mod Ahead
mod Starting
mod Passes
mod FewBytes
mod Counting
mod RightImages
mod ImageKinds
mod ReplayedOne
mod Payloads
mod NewCores
mod Reading
mod ProductsTaken
mod LastAmendments
mod AmendmentFronts
mod KeepingAll
mod EarlierProducts
mod Added
