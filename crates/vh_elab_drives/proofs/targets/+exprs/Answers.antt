use Rattle.std.proofs.Common.{rules}
use Rattle.vh_bind.proofs.TreesLemmas.{tree-of}
use Rattle.vh_elab_drives.proofs.targets.+exprs.Goals as goal

pub add_expr-returns-in-Name : goal.add_expr-returns-in-Name
add_expr-returns-in-Name t c =
    rw (tree-of c.args.e.now _ _ c.in-Primary.is c.in-Name.is) (search rules)

pub add_expr-returns-in-Concat : goal.add_expr-returns-in-Concat
add_expr-returns-in-Concat t c =
    rw (tree-of c.args.e.now _ _ c.in-Primary.is c.in-Concat.is) (search rules)
