-- The tokens that are always spelled the same
pub mod Lexemes
-- The tokens, what each means, and their classes
pub mod Tokens
-- The productions that are nested, and small parts
pub mod Parts
-- Names, selects and targets
pub mod Names
-- Expressions
pub mod Expressions
-- Types, ranges and declared names
pub mod Declarations
-- Statements
pub mod Statements
-- Items, modules and sources
pub mod Items
-- The grammar
pub mod Grammar
-- The classes of tokens, as the code names them
pub mod Classes
-- Small lemmas on conditions
pub mod Conditions
-- Levels of operators
pub mod Levels
-- The conditions of names and targets
pub mod NameConditions
-- The conditions of expressions
pub mod ExpressionConditions
-- The conditions of types, ranges and declared names
pub mod DeclarationConditions
-- The conditions of statements
pub mod StatementConditions
-- The conditions of items, modules and sources
pub mod ItemConditions
-- The table with the proofs that it meets the conditions
pub mod Table
