-- Which names are built in, and the table of some registrations
pub mod Table
-- How contracts see the rows that the code holds
pub mod Seen
