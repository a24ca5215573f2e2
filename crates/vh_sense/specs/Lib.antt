-- Which change of a vector is an edge, or a change of some of its digits.
pub mod Edges
-- What a wait waits for, and which changes end it.
pub mod Waits
-- Which objects an expression reads.
pub mod Reads
-- The force and assign statements of a design that read an object, in their order.
pub mod Follows
-- Who waits on what, and what each call makes of it.
pub mod Sensitivity
-- How contracts see what is inside.
pub mod Views
-- What the definitions mean.
pub mod Laws
