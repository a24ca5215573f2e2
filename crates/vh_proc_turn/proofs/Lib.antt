-- The widths of a `case`, its subject and its values
mod CaseLemmas
-- How many digits drivers have side by side
pub mod DrivesLemmas
-- A driver comes to its new value
mod LawsLemmas
-- A variable may be forced
mod ForciblesLemmas
