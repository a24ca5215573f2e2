-- The force and assign statements of a design that read an object, in the order in which they follow its changes.
-- (IEEE 1364-2005, 9.3; the order is own)
use Rattle.std.specs.Prelude.{ℕ, Bool, true, false, List, [], ◌++◌, filter, length, Option, Some, None}
use Rattle.std.specs.BTreeSet.{insert_key}
use Rattle.std.specs.List.{fold, filter_map, flat_map, find, range_with_len}
use Rattle.std.specs.Ordering.{nat_cmp, bool_cmp, ordering_then, is_lt}
use Rattle.std.specs.declared.cmp.Ordering.{Ordering}
use Rattle.vh_design_code.specs.declared.code.Code.{Code}
use Rattle.vh_design_code.specs.declared.operation.Operation.{Operation}
use Rattle.vh_design_code.specs.declared.operation.Operation.TheVariants as operation
use Rattle.vh_design_code.specs.declared.operation.Single.{Single}
use Rattle.vh_design_code.specs.declared.operation.Single.TheVariants as single
use Rattle.vh_design.specs.Shape.{Shape}
use Rattle.vh_design.specs.Validity.{body_at}
use Rattle.vh_sense.specs.declared.follow.Follow.{Follow}
use Rattle.vh_sense.specs.Reads.{reads}

-- What a statement with one label keeps up to date: the object that it forces or assigns, by an expression. (9.3)
abbrev pub kept_by : Single → Option Follow
kept_by (single.Force o e) = Some (record { object = o; force = true; expr = e })
kept_by (single.Procedural o e) = Some (record { object = o; force = false; expr = e })
kept_by _ = None

-- And any other statement nothing.
abbrev pub follow_of : Operation → Option Follow
follow_of (operation.Single s) = kept_by s
follow_of _ = None

-- The force and assign statements of a code, in its order.
abbrev pub statements_in : Code → List Follow
statements_in c = filter_map (λ i. follow_of i.operation) c.instructions

-- Those of the body of an object, where it is a task or function with one.
abbrev pub statements_of_body : Option Code → List Follow
statements_of_body None = []
statements_of_body (Some c) = statements_in c

-- Those of a design: of its processes, and of its tasks and functions. (10)
abbrev pub statements : Shape → List Follow
statements d =
    flat_map statements_in d.codes
    ++ flat_map (λ o. statements_of_body (body_at d o)) (range_with_len 0 (length d.objects))

-- By object, a force before an assign, then by expression. (own)
abbrev pub follow_cmp : Follow → Follow → Ordering
follow_cmp a b =
    ordering_then (nat_cmp a.object b.object) (ordering_then (bool_cmp b.force a.force) (nat_cmp a.expr b.expr))

-- In that order, each once.
abbrev pub rising : List Follow → List Follow
rising fs = fold (insert_key follow_cmp) [] fs

-- The statements that follow a change of the object: their expression reads it.
abbrev pub followers : Shape → ℕ → List Follow
followers d o = rising (filter (λ f. reads d.exprs o f.expr) (statements d))

-- Does one stand behind another, where there is another?
abbrev pub is_behind : Option Follow → Follow → Bool
is_behind None f = true
is_behind (Some a) f = is_lt (follow_cmp a f)

-- The first that stands behind it.
abbrev pub first_behind : Option Follow → List Follow → Option Follow
first_behind after fs = find (is_behind after) fs
