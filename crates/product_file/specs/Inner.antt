-- What the private functions of this crate compute, in their own steps. A reader need not believe any of it: it is proved
-- to give `product_of` of `ProductTexts`, which is all that the public calls speak of.
pub mod Keys
pub mod FirmNames
pub mod Shares
pub mod Algorithms
pub mod StepLists
pub mod Instruments
pub mod Documents
