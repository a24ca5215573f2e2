-- The bytes that numbers and value texts are written with
pub mod Symbols
-- The text of a value
pub mod Texts
-- The digits that a text spells, and how many of them a width holds
pub mod Digits
-- What the code keeps of digits and numbers
pub mod Views
-- The value of a literal
pub mod Literals
-- The value that an application's text gives an object
pub mod Values
