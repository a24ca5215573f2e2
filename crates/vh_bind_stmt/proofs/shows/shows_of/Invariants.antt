use Rattle.std.proofs.Common.{◌≡◌, ◌≤◌, drop}
use Rattle.vh_bind_stmt.specs.Shows.{shows_from, shows_of}
use Rattle.vh_bind_stmt.proofs.shows.shows_of.Given as goal

-- What is shown so far, with what is left, is what the format shows; at most one argument a byte.
abbrev pub invariant-loop-b : goal.invariant-loop-b
invariant-loop-b l = record {
  shows : shows_from l.columns l.count (drop l.b-index l.format) ≡ shows_of l.format;
  most : l.count ≤ l.b-index;
}
