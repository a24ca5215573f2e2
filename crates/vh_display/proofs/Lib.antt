-- The columns of a number, and the number of known digits
pub mod TextsLemmas
-- What a format shows, byte by byte
pub mod FormatsLemmas
-- The text of a call, argument by argument
pub mod CallsLemmas
-- Formats, piece by piece
pub mod LawsLemmas
