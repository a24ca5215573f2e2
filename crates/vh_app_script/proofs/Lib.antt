-- Cutting bytes into tokens, from any place on
mod Cutting
-- The number that digits spell
mod Numbers
-- Where nothing is left out, reading with a symbol is reading
mod Plain
-- A turn of each loop of the parser
mod Loops
-- Names of the code, with one more
mod Names
