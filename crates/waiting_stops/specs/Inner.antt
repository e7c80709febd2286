-- What is true of the fields of this crate's types, and what its private functions promise each other. A reader need not believe any
-- of it: the calls of `WaitingStops` speak only of the file beside this one.
pub mod Bounds
pub mod Kept
