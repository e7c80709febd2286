pub mod Feeds
pub mod WholeFeeds
pub mod Inner
