-- The bytes of which texts are made
pub mod Bytes
-- The classes of bytes that runs are made of
pub mod Classes
-- The reserved words and their keywords
pub mod Keywords
-- The operators and symbols
pub mod Symbols
-- The number with which bytes begin
pub mod Numbers
-- The string with which bytes begin
pub mod Texts
-- What bytes begin with
pub mod Beginning
-- The macros, and what has been made of the text so far
pub mod Gathered
-- How contracts see the table of macros
pub mod MacroViews
-- The conditionals that are open
pub mod Conditionals
-- What reading has come to
pub mod State
-- The text of a macro, and its parts
pub mod MacroTexts
-- The directives: the state after each
pub mod Directives
-- How the bytes of files spell tokens
pub mod Spelling
-- What the files so far come to
pub mod Lexed
-- How contracts see what the code holds
pub mod Views
-- What the code answers, against what the bytes come to
pub mod Outcomes
-- Pieces stand inside the bytes
pub mod Inside
-- The texts of macros that are open
pub mod Uses
-- The laws of spelling
pub mod Laws
-- The place of a byte
pub mod Places
-- What a macro's text spells
pub mod MacroTokens
-- What files spell, as a tree
pub mod SourceText
-- How far files have a text
pub mod Reached
-- What the answers say of the text
pub mod Ends
-- The laws of texts
pub mod TextLaws
