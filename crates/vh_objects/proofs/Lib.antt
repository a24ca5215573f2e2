-- Lemmas on the relations
mod RelationsLemmas
-- Lemmas on the children of objects
mod ViewsLemmas
-- Lemmas on the order of objects
mod OrderLemmas
-- Lemmas on the words of a memory
mod WordsLemmas
