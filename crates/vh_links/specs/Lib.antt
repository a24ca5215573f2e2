-- The lists, and what each call makes of them
pub mod Lists
-- How links hold the lists
pub mod Views
