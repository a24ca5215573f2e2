-- What a token of a script is
pub mod Token
-- Which tokens the bytes spell
pub mod Spelling
-- Where a byte stands
pub mod Places
-- The tree of a script
pub mod Tree
-- What is built
pub mod Built
-- The names in sight and the rules that count
pub mod Env
-- What a token means where it stands
pub mod Words
-- The productions
pub mod Grammar
-- The conditions of a table
pub mod Conditions
-- The table
pub mod Table
-- What is answered for bytes
pub mod Answers
-- How contracts see what the code holds
pub mod Views
