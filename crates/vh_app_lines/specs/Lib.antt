-- How texts are quoted in the transcript.
pub mod Quoted
-- The words of orders.
pub mod Routines
-- The texts of orders and answers.
pub mod OrderText
