-- What the effect of an order can be.
pub mod OrdersLemmas
-- Addresses in brackets, and the words of a memory by their names.
pub mod AddressesLemmas
-- An object by its name: the lesser of two that an index has, and one object more in it.
pub mod LookUpLemmas
