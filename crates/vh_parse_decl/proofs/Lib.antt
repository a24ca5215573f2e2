-- A turn of each loop of the parser
pub mod Loops
