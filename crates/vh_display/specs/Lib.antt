-- What each conversion of a format shows of a value
pub mod Texts
-- Which conversions a format has, and what stands between them
pub mod Formats
-- The text of a display call
pub mod Calls
-- What the reading of formats means
pub mod Laws
