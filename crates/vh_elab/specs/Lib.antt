-- Tasks and functions
pub mod Routines
-- The second pass over an instance: processes and bodies
pub mod Coded
-- The second pass: connected ports
pub mod Connected
-- Which parts make a design
pub mod Fitting
-- The design of a source, or its least fault
pub mod Elaborated
-- How contracts see what the code holds
pub mod Views
