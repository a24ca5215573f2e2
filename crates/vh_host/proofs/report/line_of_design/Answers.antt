use Rattle.std.proofs.Common.{append_assoc, rules}
use Rattle.vh_host.proofs.report.line_of_design.Goals as goal

pub returns : goal.returns
returns c = simp append_assoc (search rules)
