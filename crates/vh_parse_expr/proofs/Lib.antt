-- Names and targets of the code, and words that are refused
pub mod ViewsLemmas
-- A turn of each loop of the parser
pub mod Loops
-- What a reading leaves are the last of its tokens
pub mod ReadingLemmas
-- What is answered for the tokens of an expression
pub mod AnswersLemmas
