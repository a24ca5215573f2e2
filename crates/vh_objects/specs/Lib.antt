-- What kind an object has, and which kinds have what
pub mod Kinds
-- Which objects a design has, and by which number and address they are named
pub mod Objects
-- The objects that stand in a relation to an object
pub mod Relations
-- The properties of objects
pub mod Properties
-- How contracts see what the code holds
pub mod Views
