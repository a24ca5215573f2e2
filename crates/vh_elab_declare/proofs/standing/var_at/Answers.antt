use Rattle.std.proofs.Common.{rules, ◌≡◌, subst}
use Rattle.vh_ast.specs.Views.{type_tree}
use Rattle.vh_bind.specs.Steps.{Gives}
use Rattle.vh_bind.specs.Views.{scope_seen}
use Rattle.vh_elab_sites.specs.Sites.{typed, joined}
use Rattle.vh_elab_sites.specs.Views.{var_type_seen}
use Rattle.vh_elab_declare.specs.Constants.{var_measure}
use Rattle.vh_elab_declare.specs.Constants
use Rattle.vh_elab_declare.specs.Views.{home_seen, known_seen}
use Rattle.vh_elab_declare.proofs.standing.var_at.Goals as goal

-- What is lent is the scope.
pub returns-in-Typed-default-None : goal.returns-in-Typed-default-None
unfolding var_measure
returns-in-Typed-default-None c =
    let lent : scope_seen c.in_scope.ensures.0.now ≡ Constants.scope_at (home_seen c.args.home) (known_seen c.args.known.now) c.args.scope = search rules in
    let seen : var_type_seen c.args.var_type ≡ typed (type_tree c.in-Typed-default-None.own.now) = search rules in
    rw seen
    (subst (λ s. Gives (Constants.typed_measure s (type_tree c.in-Typed-default-None.own.now)) c.in_scope.result) lent (search rules))

pub returns-in-Typed-default-Some : goal.returns-in-Typed-default-Some
unfolding var_measure
returns-in-Typed-default-Some c =
    let lent : scope_seen c.in_scope-in-Typed-default-Some.ensures.0.now ≡ Constants.scope_at (home_seen c.args.home) (known_seen c.args.known.now) c.args.scope = search rules in
    let seen : var_type_seen c.args.var_type ≡ joined (type_tree c.in-Typed-default-Some.own.now) (type_tree c.in-Typed-default-Some.port.now) = search rules in
    rw seen
    (subst (λ s. Gives (Constants.joined_measure s (type_tree c.in-Typed-default-Some.own.now) (type_tree c.in-Typed-default-Some.port.now)) c.in_scope-in-Typed-default-Some.result) lent (search rules))
