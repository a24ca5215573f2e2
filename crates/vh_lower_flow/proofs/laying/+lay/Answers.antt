use Rattle.std.proofs.Common.{rules}
use Rattle.vh_lower_flow.proofs.ViewsLemmas.{tree-of}
use Rattle.vh_lower_flow.proofs.laying.+lay.Goals as goal

pub lay-returns-in_ok-lay_items-in-Case : goal.lay-returns-in_ok-lay_items-in-Case
lay-returns-in_ok-lay_items-in-Case t c = rw (tree-of c.args.flow.now _ c.in-Case.is) (search rules)
