-- What a row and the keys behind it are together.
pub mod RowsLemmas
-- What rising numbers and what they have are together.
pub mod RecentLemmas
