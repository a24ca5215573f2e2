-- What is held, and what each call makes of it
pub mod Schedule
-- How the buckets hold it
pub mod Views
