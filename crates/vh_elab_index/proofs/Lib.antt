-- The first of a name, and one more
pub mod FirstLemmas
