-- What the generate constructs of an instance come to
pub mod Constructs
-- How contracts see what the code holds
pub mod Views
