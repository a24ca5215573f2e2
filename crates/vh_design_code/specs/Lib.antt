-- What an assignment changes, and how many digits
pub mod Targets
-- Which operations may stand in a code, a row for each
pub mod Operations
-- Which codes, waits, display calls and statements may stand in a design
pub mod Codes
