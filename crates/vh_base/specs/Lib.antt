-- Designs of the first subset
pub mod First
-- What a source and a sink do
pub mod Outside
-- Those in memory, exactly
pub mod Memory
-- How their files are seen
pub mod Held
-- What natives may order
pub mod Promise
-- Classes of bytes
pub mod Classes
-- Lists of names
pub mod Lists
-- Checks in a row
pub mod Checks
-- The names of ends and faults
pub mod Faults
-- The words for reasons and errors
pub mod Words
