-- A `case` of the code is seen as one.
use Rattle.std.proofs.Common.{rules}
use Rattle.vh_elab_sites.proofs.TreesLemmas.{tree-Case}
use Rattle.vh_elab_sites.proofs.stmts.+stmts.Goals as goal

pub add_stmt-returns-in-Case : goal.add_stmt-returns-in-Case
add_stmt-returns-in-Case t c = rw (tree-Case c.args.stmt.now _ _ _ c.in-Case.is) (search rules)
