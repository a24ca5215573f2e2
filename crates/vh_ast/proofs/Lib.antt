-- What the views of trees with lists of parts are
pub mod ViewsLemmas
