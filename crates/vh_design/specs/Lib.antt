-- What contracts see of a design
pub mod Shape
-- What contracts see of the parts that are handed in
pub mod Handed
-- Which parts make a design
pub mod Validity
-- What the rules mean for the numbers of a design
pub mod Laws
-- The same for codes, waits, display calls and statements
pub mod CodeLaws
