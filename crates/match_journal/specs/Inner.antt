-- What the private functions promise each other. A reader need not believe any of it: the journal's calls speak only of the
-- files beside this one.
pub mod Stores
pub mod Fronts
pub mod Heads
