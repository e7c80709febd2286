-- What the inner functions compute, one step after the other. Nothing of this need be believed: `read_request` promises
-- `request_of` (Requests), and proofs/Agree.antt shows on plain data that these steps give it.
pub mod Values
pub mod Rules
pub mod Orders
pub mod Requests
pub mod Noting
pub mod Views
pub mod Slots
pub mod Kinds
