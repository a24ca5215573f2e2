-- What ordered maps hold, before and after each call
pub mod ViewsLemmas
