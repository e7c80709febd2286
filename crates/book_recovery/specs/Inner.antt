-- What the private functions promise each other. A reader need not believe any of it: recovery's one call speaks only of the
-- files beside this one.
pub mod Starting
pub mod Counting
pub mod Replays
pub mod Contents
pub mod Following
pub mod Keeping
pub mod Ahead
