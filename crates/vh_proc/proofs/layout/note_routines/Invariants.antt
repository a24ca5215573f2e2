use Rattle.std.proofs.Common.{◌≡◌, ◌<◌, ℕ, true, Some}
use Rattle.vh_design_code.specs.declared.code.Code.{Code}
use Rattle.vh_design.specs.Validity.{body_at}
use Rattle.vh_design_nodes.specs.Fits.{has_body}
use Rattle.vh_proc.specs.declared.layout.Owner.TheVariants as owner
use Rattle.vh_proc.specs.Homes.{Says, SaysAll, Grow}
use Rattle.vh_proc.proofs.layout.note_routines.Given as goal

-- Those so far are.
abbrev pub invariant-loop-o : goal.invariant-loop-o
invariant-loop-o l = record {
  own : (r : ℕ) → r < l.o → has_body l.d.objects r ≡ true → Says l.homes.entries (owner.Routine r) r;
  noted : (r : ℕ) (c : Code) → r < l.o → body_at l.d r ≡ Some c → SaysAll l.homes.entries (owner.Routine r) c.blocks;
  kept : Grow l.initial.homes.entries l.homes.entries;
}
