-- A `case` of the code is seen as one, and a block.
use Rattle.std.proofs.Common.{rules}
use Rattle.vh_lower.proofs.TreesLemmas.{tree-Case, tree-Block}
use Rattle.vh_lower.proofs.stmt.+lower.Goals as goal

pub lower_stmt-returns-in_err-lower_items-in-Case : goal.lower_stmt-returns-in_err-lower_items-in-Case
lower_stmt-returns-in_err-lower_items-in-Case t c =
    record {
      made = rw (tree-Case c.args.stmt.now _ _ _ c.in-Case.is) (search rules);
      sound = search rules;
      same = search rules;
    }

pub lower_stmt-returns-in_ok-case_flow-in-Case : goal.lower_stmt-returns-in_ok-case_flow-in-Case
lower_stmt-returns-in_ok-case_flow-in-Case t c =
    record {
      made = rw (tree-Case c.args.stmt.now _ _ _ c.in-Case.is) (search rules);
      sound = search rules;
      same = search rules;
    }

pub lower_stmt-returns-in-Block : goal.lower_stmt-returns-in-Block
lower_stmt-returns-in-Block t c =
    record {
      made = rw (tree-Block c.args.stmt.now _ _ _ _ c.in-Block.is, ← c.as_slice-in-Block.ensures) c.lower_block.ensures.made;
      sound = search rules;
      same = search rules;
    }
