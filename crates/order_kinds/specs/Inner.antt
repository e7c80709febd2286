-- What the private functions promise each other. A reader need not believe any of it: the core's calls speak only of the
-- files beside this one.
pub mod Terms
pub mod Taking
pub mod Triggering
pub mod Replacing
pub mod Apart
pub mod Collecting
pub mod ComingIn
pub mod Closing
pub mod Amending
