-- Keys in their order.
pub mod Rows
-- Entries by rising numbers.
pub mod Recent
