-- How much a reading takes
pub mod Size
-- Reading gives what the relations say
pub mod Outcomes
-- A reading goes on behind the end of some tokens
pub mod Places
-- Tokens begin a part where reading them comes to their end
pub mod Starts
-- What more levels change
pub mod Levels
-- All of this for parts of a grammar
pub mod Parts
-- Reading with an omission is the reading of the pure grammar, with the first place
pub mod OmissionsLemmas
-- When what is shown counts
pub mod ShownLemmas
-- The laws from what is known of a reading
pub mod Subjects
-- The laws of productions and of a whole source
pub mod LawsLemmas
-- First sets are the tokens with which parts begin
pub mod FirstsLemmas
-- Classes are first sets, and add nothing
pub mod ChoicesLemmas
-- Loops of a parser of the pure grammar
pub mod Turns
-- Loops of a parser with noted
pub mod OmissionTurns
