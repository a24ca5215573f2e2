-- Decoding a string from any byte on
pub mod TextsLemmas
-- The table of macros, seen as a list
pub mod GatheredLemmas
-- Cutting a macro's text into parts
pub mod MacroTextsLemmas
-- White space and comments, from any byte on
pub mod DirectivesLemmas
-- Reading the texts of macros that are open
pub mod UsesLemmas
-- Reading a file one piece after the other
pub mod SpellingLemmas
-- The laws of spelling
pub mod LawsLemmas
-- A table, and those of its rows that have a first byte
pub mod ViewsLemmas
-- A place that is moved over bytes
pub mod PlacesLemmas
-- The conditionals that are open
pub mod ConditionalsLemmas
-- The code's macros are those of the texts
pub mod MacroLemmas
-- What bytes begin with has one byte at least
pub mod BeginningLemmas
-- What a macro's parts come to is what its bytes spell
pub mod MacroTokensLemmas
-- A step of the lexer's function, and a piece of a text
pub mod StepLemmas
-- The pieces of a text are steps of the lexer's function
pub mod GoesLemmas
-- Skipped pieces and conditionals are steps of the lexer's function
pub mod CondLemmas
-- A text leads to its end
pub mod ReachedLemmas
-- What the lexer's function gives is a text
pub mod ChainLemmas
-- Runs of bytes, in a front of them that holds the run
pub mod BytesLemmas
-- A token is the longest one
pub mod LongLemmas
-- A number is the longest one
pub mod NumbersLemmas
-- Any token is the longest one
pub mod LongestLemmas
-- The pieces of a text cover its files
pub mod CoverLemmas
-- Small files with their tokens
pub mod Rows
-- What the answers for files say of their text
pub mod EndsLemmas
