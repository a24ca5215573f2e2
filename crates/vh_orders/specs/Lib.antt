-- The names of a design's objects.
pub mod Names
-- How the address in a word's name is read.
pub mod Addresses
-- How an object is found by an index of names.
pub mod LookUp
-- What orders read and change.
pub mod World
-- What is asked of what a handle names
pub mod Things
-- What each order is answered and what it changes, a row for each.
pub mod Orders
-- How contracts see a world, and what its functions do to it.
pub mod Views
