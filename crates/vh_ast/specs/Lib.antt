-- Expressions as plain trees, and how they are made of their parts
pub mod Expressions
-- Declarations as plain trees
pub mod Declarations
-- Statements as plain trees
pub mod Statements
-- Items, modules and sources as plain trees
pub mod Items
-- How contracts see what the code holds
pub mod Views
