-- What the private functions of this crate promise each other. A reader need not believe any of it: the calls of a book, the
-- trades and the walk along a level speak only of the files beside this one.
pub mod FreeSlots
pub mod Walk
