pub mod Names
pub mod Reading
pub mod Texts
pub mod Told
pub mod Sums
pub mod Histories
pub mod FeedLaws
pub mod Repeats
