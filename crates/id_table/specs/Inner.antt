-- What the private functions of this crate promise each other. A reader need not believe any of it: the calls of the table
-- speak only of the file beside this one.
pub mod Forests
pub mod Frees
pub mod Kept
pub mod Nodes
pub mod Places
pub mod Ways
