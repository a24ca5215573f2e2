-- How contracts see what the code holds.
use Rattle.std.specs.Prelude.{ℕ, List, Vec, Option, map}
use Rattle.vh_ast.specs.declared.expr.Expr.{Expr}
use Rattle.vh_ast.specs.declared.expr.Primary.{Primary}
use Rattle.vh_ast.specs.declared.expr.Primary.TheVariants as prim
use Rattle.vh_ast.specs.Expressions.{ExprFormTree, number, text, named, call, system, paren, concat, repeat, exprs}
use Rattle.vh_ast.specs.Views.{expr_tree, name_tree, sel_tree}
use Rattle.std.specs.Option.{option_map}
use Rattle.vh_bind.specs.declared.scope.Scope as code
use Rattle.vh_bind.specs.Scopes.{Scope}

-- Where an expression stands.
abbrev pub scope_seen : code.Scope → Scope
scope_seen s = record {
  names = s.names.now;
  around = s.around.now;
  top = s.top.id;
  top_name = s.top.name.now;
  genvars = s.genvars.now;
  objects = s.objects.now;
  exprs = s.exprs.now;
  routines = s.routines.now;
  unit = s.unit;
  precision = s.precision;
}

-- Numbers of expressions, where none is passed over.
abbrev pub numbers_of : {A : Type 0} → Option (Vec ℕ A) → Option (List ℕ)
numbers_of numbers = option_map (λ v. v.items) numbers

-- A primary of the code.
abbrev pub primary_tree : Primary Expr → ExprFormTree
primary_tree (prim.Number n) = number n
primary_tree (prim.Text bytes) = text bytes
primary_tree (prim.Name n s) = named (name_tree n) (sel_tree s)
primary_tree (prim.Call n arguments) = call (name_tree n) (exprs (map expr_tree arguments))
primary_tree (prim.System id arguments) = system id (exprs (map expr_tree arguments))
primary_tree (prim.Paren e) = paren (expr_tree e)
primary_tree (prim.Concat parts) = concat (exprs (map expr_tree parts))
primary_tree (prim.Repeat count parts) = repeat (expr_tree count) (exprs (map expr_tree parts))
