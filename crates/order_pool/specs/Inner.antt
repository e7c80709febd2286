-- What the private functions of this crate promise each other. A reader need not believe any of it: the calls of the pool
-- speak only of the file beside this one.
pub mod Places
pub mod Block
pub mod Rings
