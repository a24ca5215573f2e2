use Rattle.std.proofs.Common.{◌≡◌, ◌+◌, drop}
use Rattle.vh_host.specs.Acceptance.{begin_from}
use Rattle.vh_host.specs.Reading.{files_seen}
use Rattle.vh_host.proofs.design.begin_of.Given as goal

-- None of those so far is a Verilog file.
abbrev pub invariant-loop-file : goal.invariant-loop-file
invariant-loop-file l = record {
  number : l.number ≡ l.file-index + 1;
  same : begin_from l.number (files_seen (drop l.file-index l.files)) ≡ begin_from 1 (files_seen l.files);
}
