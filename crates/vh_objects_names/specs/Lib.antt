-- The paths of objects below a scope
pub mod Paths
-- What a name stands for, in words that no code is near to
pub mod NameLaw
-- How the address in a word's name is read
pub mod Addresses
