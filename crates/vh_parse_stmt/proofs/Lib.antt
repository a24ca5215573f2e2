-- Parts that are read alike
pub mod Pieces
-- A turn of each loop of the parser
pub mod Loops
