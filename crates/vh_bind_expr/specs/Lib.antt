-- What is known of what may be read, and called
pub mod Kinds
-- What rows say behind the parts that are bound already
pub mod Rows
