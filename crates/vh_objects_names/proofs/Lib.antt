-- Addresses in brackets
mod AddressesLemmas
-- An object with those between it and a scope
mod PathsLemmas
-- The first that is meant
mod LeastLemmas
-- What a name means
mod NameLawLemmas
