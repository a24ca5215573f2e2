-- What is declared in each scope
pub mod Names
-- What names and paths stand for
pub mod LookUp
-- How contracts see what the code holds
pub mod Views
