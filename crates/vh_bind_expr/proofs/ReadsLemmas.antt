-- Lemmas on `specs/Objects.antt` of vh_bind: what may be read, and called, is there, and of such a kind.
use Rattle.std.proofs.Common.{◌≡◌, ◌==◌, ℕ, Bool, true, false, List, length, Option, Some, None, Result, Ok, Err, slice_get, refl}
use Rattle.std.specs.Prelude.{if◌then◌else◌, IfOk}
use Rattle.std.specs.Option.{option_and_then}
use Rattle.vh_base.specs.declared.place.Place.{Place}
use Rattle.vh_base.specs.declared.faults.DesignFault.TheVariants.{N7}
use Rattle.vh_logic.specs.Vector.{Vector}
use Rattle.vh_design_nodes.specs.declared.expr.ExprNode.{ExprNode}
use Rattle.vh_design_nodes.specs.declared.expr.Range.{Range}
use Rattle.vh_design_nodes.specs.declared.object.Detail.{Detail}
use Rattle.vh_design_nodes.specs.declared.object.Kind.{Kind}
use Rattle.vh_design_nodes.specs.declared.object.Kind.TheVariants as of
use Rattle.vh_design_nodes.specs.declared.object.ObjectInfo.{ObjectInfo}
use Rattle.vh_design_nodes.specs.Kinds.{is_vector, is_memory, is_function, is_variable}
use Rattle.vh_design_nodes.specs.Fits.{has_kind}
use Rattle.vh_store.specs.Opening.{constant_in}
use Rattle.vh_bind_scope.specs.declared.names.Meaning.{Meaning}
use Rattle.vh_bind_scope.specs.declared.names.Meaning.TheVariants as means
use Rattle.vh_bind_scope.specs.declared.look_up.Declaration.{Declaration}
use Rattle.vh_bind_scope.specs.LookUp.{found}
use Rattle.vh_bind.specs.declared.readable.Function.{Function}
use Rattle.vh_bind.specs.declared.fault.ElabFault.{ElabFault}
use Rattle.vh_bind.specs.declared.scope.Routine.{Routine}
use Rattle.vh_bind.specs.Steps.{Gives}
use Rattle.vh_bind.specs.Scopes.{Scope, genvar_value}
use Rattle.vh_bind.specs.Selects.{Outcome}
use Rattle.vh_bind.specs.Objects.{directions_of, parameter_read, object_read, there_read, genvar_read, meaning_read, found_read, alone_read, path_read, with_result, routine_of, function_at, function_meant}
use Rattle.vh_bind_expr.specs.Kinds.{IsReadable, IsCallable}
use Rattle.vh_bind.specs.Constants.{called}

has-kind : (test : Kind → Bool) (os : List ObjectInfo) (o : ℕ) (i : ObjectInfo) → slice_get os o ≡ Some i → test i.kind ≡ true
    → has_kind test os o ≡ true
has-kind test os o i is h = rw is h

parameter-readable : (os : List ObjectInfo) (o : ℕ) (r : Range) (v : Option Vector) → has_kind is_vector os o ≡ true
    → IsReadable os (parameter_read o r v)
parameter-readable os o r None h = tt
parameter-readable os o r (Some v) h = h

object-readable : (os : List ObjectInfo) (ns : List ExprNode) (o : ℕ) (r : Range) (d : Detail) (k : Kind)
    → ((test : Kind → Bool) → test k ≡ true → has_kind test os o ≡ true) → IsReadable os (object_read ns o r d k)
object-readable os ns o r d of.Module h = tt
object-readable os ns o r d of.GenScope h = tt
object-readable os ns o r d of.NamedBegin h = tt
object-readable os ns o r d of.NamedFork h = tt
object-readable os ns o r d of.Task h = tt
object-readable os ns o r d of.Function h = tt
object-readable os ns o r d of.Net h = h is_vector refl
object-readable os ns o r d of.Reg h = h is_vector refl
object-readable os ns o r d of.IntegerVar h = h is_vector refl
object-readable os ns o r d of.TimeVar h = h is_vector refl
object-readable os ns o r d of.Memory h = h is_memory refl
object-readable os ns o r d of.Parameter h = parameter-readable os o r (constant_in ns d) (h is_vector refl)
object-readable os ns o r d of.Port h = tt
object-readable os ns o r d of.NamedEvent h = tt
object-readable os ns o r d of.Initial h = tt
object-readable os ns o r d of.Always h = tt
object-readable os ns o r d of.ContAssign h = tt
object-readable os ns o r d of.SysTaskCall h = tt
object-readable os ns o r d of.SysFuncCall h = tt
object-readable os ns o r d of.Constant h = tt
object-readable os ns o r d of.Operation h = tt

there-readable : (os : List ObjectInfo) (ns : List ExprNode) (o : ℕ) (r : Range)
    → IsReadable os (there_read ns o r (slice_get os o))
there-readable os ns o r = by (slice_get os o) refl
  where
    by : (x : Option ObjectInfo) → slice_get os o ≡ x → IsReadable os (there_read ns o r x)
    by None is = tt
    by (Some i) is = object-readable os ns o r i.detail i.kind (λ test t. has-kind test os o i is t)

genvar-readable : (os : List ObjectInfo) (v : Option Vector) → IsReadable os (genvar_read v)
genvar-readable os None = tt
genvar-readable os (Some v) = tt

meaning-readable : (s : Scope) (g : Option Vector) (m : Meaning) → IsReadable s.objects (meaning_read s g m)
meaning-readable s g (means.Object o r) = there-readable s.objects s.exprs o r
meaning-readable s g (means.Result o r) = there-readable s.objects s.exprs o r
meaning-readable s g means.Genvar = genvar-readable s.objects g
meaning-readable s g means.Blocks = tt
meaning-readable s g means.Gate = tt

found-readable : (s : Scope) (w : List ℕ) (d : Option Declaration) → IsReadable s.objects (found_read s w d)
found-readable s w None = tt
found-readable s w (Some d) = meaning-readable s (genvar_value s.genvars d.scope w) d.meaning

pub alone-readable : (s : Scope) (w : List ℕ) → IsReadable s.objects (alone_read s w)
alone-readable s w = found-readable s w (found s.names s.around w)

pub path-readable : (s : Scope) (m : Option Meaning) → IsReadable s.objects (path_read s m)
path-readable s None = tt
path-readable s (Some m) = meaning-readable s None m

result-callable : (s : Scope) (f : ℕ) (v : Option ℕ) → has_kind is_function s.objects f ≡ true
    → IsCallable s.objects (with_result s f v)
result-callable s f None h = tt
result-callable s f (Some v) h = by (has_kind is_variable s.objects v) refl
  where
    by : (b : Bool) → has_kind is_variable s.objects v ≡ b
        → IsCallable s.objects (if b then Some (record { id = f; result = v }) else None)
    by true is = record { function = h; variable = is }
    by false is = tt

routine-callable : (s : Scope) (f : ℕ) (r : Option Routine) → has_kind is_function s.objects f ≡ true
    → IsCallable s.objects (option_and_then (λ (x : Routine). with_result s f x.result) r)
routine-callable s f None h = tt
routine-callable s f (Some r) h = result-callable s f r.result h

at-callable : (s : Scope) (f : ℕ) → IsCallable s.objects (function_at s f)
at-callable s f = by (has_kind is_function s.objects f) refl
  where
    by : (b : Bool) → has_kind is_function s.objects f ≡ b
        → IsCallable s.objects (if b then option_and_then (λ (x : Routine). with_result s f x.result) (routine_of s f) else None)
    by true is = routine-callable s f (routine_of s f) is
    by false is = tt

meant-callable : (s : Scope) (m : Meaning) → IsCallable s.objects (function_meant s m)
meant-callable s (means.Object o r) = at-callable s o
meant-callable s (means.Result o r) = tt
meant-callable s means.Genvar = tt
meant-callable s means.Blocks = tt
meant-callable s means.Gate = tt

counted-callable : (s : Scope) (place : Place) (n : ℕ) (o : Option Function) (f : Function) → IsCallable s.objects o
    → called s place n o ≡ Ok (Some f) → IsCallable s.objects (Some f)
counted-callable s place n None f h is = absurd (cc)
counted-callable s place n (Some g) f h is = by (n == length (directions_of s g.id)) is
  where
    outcome : Bool → Outcome (Option Function)
    outcome b = if b then Ok (Some g) else Err (N7, place)

    by : (b : Bool) → outcome b ≡ Ok (Some f) → IsCallable s.objects (Some f)
    by true at = let same : f ≡ g = cc in rw same h
    by false at = absurd (cc)

pub called-callable : (s : Scope) (place : Place) (n : ℕ) (o : Option Function) (m : Meaning) (r : Result (Option Function) ElabFault)
    → o ≡ function_meant s m → Gives (called s place n o) r → IfOk r (λ x. IsCallable s.objects x)
called-callable s place n o m (Ok None) same is = tt
called-callable s place n o m (Ok (Some f)) same is =
    counted-callable s place n o f (rw same (meant-callable s m)) is
called-callable s place n o m (Err fault) same is = tt
