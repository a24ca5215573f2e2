-- Slots as cells, and what each call makes of them
pub mod Table
-- How slots and a slab hold the cells
pub mod Views
-- Runs of calls: a key is given once, and how many slots there are
pub mod Laws
