-- What the private functions of this crate promise each other. A reader need not believe any of it: the calls of the levels
-- speak only of the file beside this one.
pub mod Table
pub mod Sides
pub mod Kept
