-- A turn of each loop of the parser
pub mod Loops
-- What is answered for the tokens of a source
pub mod AnswersLemmas
