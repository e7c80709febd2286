pub mod Streams
pub mod Acts
pub mod Trades
pub mod RightActs
pub mod Lines
pub mod Shares
pub mod Firms
pub mod Markets
