-- What a net shows by its drivers.
pub mod Resolution
-- What a store holds, and what its calls do to it.
pub mod Contents
-- What it holds before all.
pub mod Opening
-- How contracts see what it has inside.
pub mod Views
-- What is done to one record, by call.
pub mod Acts
-- What a net's resolution means for its digits.
pub mod Laws
