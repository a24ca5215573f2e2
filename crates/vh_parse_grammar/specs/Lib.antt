-- What a production is written with
pub mod Part
-- Lists in brackets of any depth
pub mod Nest
-- Reading the pure grammar
pub mod Reading
-- Reading with an omission of what is left out
pub mod Omissions
-- What reading means, by cases on parts
pub mod Sentences
-- That productions and turns take tokens
pub mod Conditions
-- First sets
pub mod Firsts
-- What is asked of the classes of choices, and what they are
pub mod Choices
-- The language without its classes
pub mod Language
-- The table, and what tokens can be read as
pub mod Table
-- The laws
pub mod Laws
-- What a parser's function ensures
pub mod Says
