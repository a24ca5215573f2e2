-- The words of the command line.
pub mod Words
-- How contracts see what the code says of words
pub mod Views
