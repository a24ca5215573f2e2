-- What is answered for tokens, with places
pub mod Answers
-- Parts of the table that have no name there
pub mod Pieces
-- How contracts see what the code holds
pub mod Views
