-- Which kinds of object may stand where
pub mod Kinds
-- The width and the sign of an expression by its parts
pub mod Widths
-- Which objects, expressions and drivers may stand in a design
pub mod Fits
