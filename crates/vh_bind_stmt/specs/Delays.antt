-- Delays. (IEEE 1364-2005, 9.7.1)
use Rattle.std.specs.Prelude.{ℕ, Option, Some, None}
use Rattle.std.specs.Option.{option_map}
use Rattle.vh_base.specs.declared.place.Place.{Place}
use Rattle.vh_design_nodes.specs.declared.expr.ExprKind.TheVariants as kind
use Rattle.vh_design_code.specs.declared.target.Delay.{Delay}
use Rattle.vh_ast.specs.Expressions.{named, name, no_index, no_step, no_sel}
use Rattle.vh_ast.specs.Statements.{DelayValueTree, delay_number, delay_id, delay_expr, DelayTree}
use Rattle.vh_bind.specs.declared.scope.Mode.TheVariants as mode
use Rattle.vh_bind.specs.Steps.{Step, ◌>>=◌, pure}
use Rattle.vh_bind.specs.Nodes.{pushed}
use Rattle.vh_bind.specs.Scopes.{Scope}
use Rattle.vh_bind.specs.Constants.{bound, form_bound}

-- How long, a row for each form.
abbrev pub amount_bound : Scope → Place → DelayValueTree → Step (Option ℕ)
amount_bound s place (delay_number n) = pushed mode.Value s place (kind.Literal n.value)
amount_bound s place (delay_id id) = form_bound mode.Value s id.place (named (name id no_index no_step) no_sel)
amount_bound s place (delay_expr e) = bound mode.Value s e

-- In units of the module.
abbrev pub delay_in : Scope → Option ℕ → Option Delay
delay_in s amount = option_map (λ e. record { amount = e; unit = s.unit }) amount

abbrev pub delay_bound : Scope → DelayTree → Step (Option Delay)
delay_bound s d = amount_bound s d.place d.value >>= (λ e. pure (delay_in s e))
