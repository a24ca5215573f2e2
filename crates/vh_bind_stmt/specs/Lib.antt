-- What a statement assigns to
pub mod Targets
-- Delays
pub mod Delays
-- Which calls of functions an expression makes, and what it reads
pub mod Calls
-- What an event control waits for
pub mod Events
-- Display calls and their formats
pub mod Shows
-- How contracts see what the code holds
pub mod Views
