-- Lists that are trees already
pub mod Same
-- A turn of each loop of the parser
pub mod Loops
