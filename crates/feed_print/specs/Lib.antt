pub mod FeedPlaces
pub mod FeedTexts
pub mod FeedWorks
