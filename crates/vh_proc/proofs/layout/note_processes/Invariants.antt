use Rattle.std.proofs.Common.{◌≡◌, ◌<◌, ℕ, Some, slice_get}
use Rattle.vh_design_code.specs.declared.code.Code.{Code}
use Rattle.vh_proc.specs.declared.layout.Owner.TheVariants as owner
use Rattle.vh_proc.specs.Homes.{SaysAll, Grow}
use Rattle.vh_proc.proofs.layout.note_processes.Given as goal

-- The codes so far are.
abbrev pub invariant-loop-k : goal.invariant-loop-k
invariant-loop-k l = record {
  noted : (n : ℕ) (c : Code) → n < l.k → slice_get l.d.codes n ≡ Some c → SaysAll l.homes.entries (owner.Process n) c.blocks;
  kept : Grow l.initial.homes.entries l.homes.entries;
}
