-- What is answered for short texts, and which trees they have
pub mod Texts
