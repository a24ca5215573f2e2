-- A process with what its labels read and change, and what a label comes to
pub mod Own
-- What a continuous assignment does to its drivers
pub mod Drives
-- What each label that touches no other process does, a row for each
pub mod Turns
-- What a continuous assignment means for its drivers
pub mod Laws
