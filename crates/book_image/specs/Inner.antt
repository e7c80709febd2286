-- What the private functions promise each other. A reader need not believe any of it: the crate's calls speak only of the files
-- beside this one.
pub mod Writing
pub mod Checking
pub mod Loading
