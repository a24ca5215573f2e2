-- How ordered maps hold a schedule and a table
pub mod Views
