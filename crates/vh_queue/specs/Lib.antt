-- The entries of the event queue: regions, kinds of work, and which of them is due.
pub mod Entries
-- The event queue: its entries, and which of them may be picked.
pub mod Events
-- The ranked where entries wait, in their order.
pub mod Ranked
-- The least and the greatest serial.
pub mod Serials
-- The entries of four regions.
pub mod Lanes
-- How contracts see what is inside.
pub mod Views
-- What the definitions mean.
pub mod Laws
