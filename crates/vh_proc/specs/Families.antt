-- Which processes come from each of the design, and which have called a task or function. (own)
use Rattle.std.specs.Prelude.{◌≡◌, ◌<◌, ◌≤◌, ℕ, List, Bool, true, false, ◌==◌, ◌&&◌, ◌||◌, not, if◌then◌else◌, Option, Some, None, IfSome, unwrap_or, slice_get}
use Rattle.std.specs.BTreeMap.{is_at}
use Rattle.std.specs.BTreeSet.{BTreeSet, contains}
use Rattle.std.specs.List.{AllByRecursion}
use Rattle.std.specs.Map.{lookup}
use Rattle.std.specs.Option.{option_map}
use Rattle.std.specs.Ordering.{nat_cmp}
use Rattle.vh_design_code.specs.declared.operation.Operation.{Operation}
use Rattle.vh_design_code.specs.declared.operation.Operation.TheVariants as op
use Rattle.vh_design.specs.Shape.{Shape}
use Rattle.vh_proc_thread.specs.Control.{Control, is_inside}
use Rattle.vh_proc_turn.specs.declared.process.Process.{Process}
use Rattle.vh_proc.specs.declared.families.Families.{Families}

-- Is a number in the family of this process of the design?
abbrev pub is_of : List (BTreeSet ℕ) → ℕ → ℕ → Bool
is_of fs k p = unwrap_or (option_map (λ f. contains nat_cmp f p) (slice_get fs k)) false

-- The process of the design that a number comes from.
abbrev pub root_of : ℕ → Families → Option ℕ
root_of p fs = lookup (is_at (nat_cmp p)) fs.roots.entries

-- Is it noted that this process of the design, or one that comes from it, has called a task or function?
abbrev pub is_caller : List (ℕ × BTreeSet ℕ) → ℕ → ℕ → Bool
is_caller cs r k = unwrap_or (option_map (λ f. contains nat_cmp f k) (lookup (is_at (nat_cmp r)) cs)) false

-- Each call that a thread is in is noted of the process that it comes from.
abbrev pub NotesCalls : List (ℕ × BTreeSet ℕ) → Control → Type 0
NotesCalls cs t = AllByRecursion (λ c. IfSome c.routine (λ r. is_caller cs r t.root ≡ true)) t.calls

-- What a label calls.
abbrev pub called_by : Operation → Option ℕ
called_by (op.Assign e targets) = None
called_by (op.Hold e width delay) = None
called_by (op.Store targets) = None
called_by (op.Schedule s) = None
called_by (op.Pause it) = None
called_by (op.Test condition otherwise) = None
called_by (op.Case c) = None
called_by (op.Loop it) = None
called_by (op.Fork positions) = None
called_by op.End = None
called_by (op.Enter routine inputs) = Some routine
called_by (op.Leave l) = None
called_by (op.SysCall call) = None
called_by (op.SysFunc call) = None
called_by (op.Single it) = None
called_by (op.Drive it) = None
called_by (op.Initial object e) = None

-- A number is in one family more; or in one less.
abbrev pub MembersJoin : List (BTreeSet ℕ) → List (BTreeSet ℕ) → ℕ → ℕ → Type 0
MembersJoin old new k p = (n q : ℕ) → is_of new n q ≡ (is_of old n q || (n == k && p == q))

abbrev pub MembersLeave : List (BTreeSet ℕ) → List (BTreeSet ℕ) → ℕ → ℕ → Type 0
MembersLeave old new k p = (n q : ℕ) → is_of new n q ≡ (is_of old n q && not (n == k && p == q))

-- A process of the design is a caller of this task or function, and all that were callers are.
pub record CallJoins (old new : List (ℕ × BTreeSet ℕ)) (r k : ℕ) : Type 0 where
  pub noted : is_caller new r k ≡ true
  pub kept : (s n : ℕ) → is_caller old s n ≡ true → is_caller new s n ≡ true

-- A number comes from a process of the design, and is in its family.
pub record Joins (old new : Families) (k p : ℕ) : Type 0 where
  pub members : MembersJoin old.sets.items new.sets.items k p
  pub callers : new.callers.entries ≡ old.callers.entries
  pub roots : (q : ℕ) → root_of q new ≡ (if p == q then Some k else root_of q old)

-- A number comes from none any more, and is in no family.
pub record Leaves (old new : Families) (p : ℕ) : Type 0 where
  pub members : (n q : ℕ) → is_of new.sets.items n q ≡ true → is_of old.sets.items n q ≡ true
  pub others : (n q : ℕ) → (p == q) ≡ false → is_of new.sets.items n q ≡ is_of old.sets.items n q
  pub gone : (n : ℕ) → root_of p old ≡ Some n → is_of new.sets.items n p ≡ false
  pub callers : new.callers.entries ≡ old.callers.entries
  pub roots : (q : ℕ) → root_of q new ≡ (if p == q then None else root_of q old)

-- A process calls this, where there is something that it calls.
pub record Calls (old new : Families) (p : ℕ) (routine : Option ℕ) : Type 0 where
  pub members : new.sets.items ≡ old.sets.items
  pub roots : (q : ℕ) → root_of q new ≡ root_of q old
  pub kept : (s n : ℕ) → is_caller old.callers.entries s n ≡ true → is_caller new.callers.entries s n ≡ true
  pub noted : IfSome routine (λ r. (k : ℕ) → root_of p old ≡ Some k → is_caller new.callers.entries r k ≡ true)

-- What has begun a process of this family is in no other.
pub record IsParent (fs : Families) (next k q : ℕ) : Type 0 where
  pub below : q < next
  pub alone : (n : ℕ) → root_of q fs ≡ Some n → n ≡ k

-- A process is in the family of its own one of the design, and what it has called is noted of that.
pub record IsKept (fs : Families) (next p : ℕ) (t : Process) : Type 0 where
  pub own : is_of fs.sets.items t.thread.root p ≡ true
  pub below : p < next
  pub begun : IfSome t.parent (IsParent fs next t.thread.root)
  pub calls : NotesCalls fs.callers.entries t.thread

-- What is in a family comes from its process.
abbrev pub IsExact : Families → Type 0
IsExact fs = (k p : ℕ) → is_of fs.sets.items k p ≡ true → root_of p fs ≡ Some k

-- Each is, and the numbers that none has had are in none.
pub record AreKept (fs : Families) (next : ℕ) (es : List (ℕ × Process)) : Type 0 where
  pub each : AllByRecursion (λ e. IsKept fs next e.0 e.1) es
  pub exact : IsExact fs
  pub fresh : (p : ℕ) → next ≤ p → root_of p fs ≡ None

-- Does a number come from a caller of this task or function? All that do, and no others, are in a set.
abbrev pub comes_from : Families → ℕ → ℕ → Bool
comes_from fs r p = unwrap_or (option_map (λ k. is_caller fs.callers.entries r k) (root_of p fs)) false

pub record ComeFrom (fs : Families) (r : ℕ) (all : BTreeSet ℕ) : Type 0 where
  pub has : (k p : ℕ) → is_caller fs.callers.entries r k ≡ true → is_of fs.sets.items k p ≡ true → contains nat_cmp all p ≡ true
  pub only : (p : ℕ) → contains nat_cmp all p ≡ true → comes_from fs r p ≡ true

-- Is the process of a number in a call of this task or function? Nobody of a family is.
abbrev pub is_in_call : Shape → ℕ → Option Process → Bool
is_in_call d r None = false
is_in_call d r (Some t) = is_inside d r t.thread

abbrev pub IsIdle : Shape → ℕ → List (BTreeSet ℕ) → List (ℕ × Process) → ℕ → Type 0
IsIdle d r fs es k = (p : ℕ) → is_of fs k p ≡ true → is_in_call d r (lookup (is_at (nat_cmp p)) es) ≡ false

-- Of the callers of it some are forgotten, of whom nobody is.
pub record Forgets (d : Shape) (r : ℕ) (es : List (ℕ × Process)) (old new : Families) : Type 0 where
  pub members : new.sets.items ≡ old.sets.items
  pub roots : (q : ℕ) → root_of q new ≡ root_of q old
  pub others : (s n : ℕ) → (r == s) ≡ false → is_caller new.callers.entries s n ≡ is_caller old.callers.entries s n
  pub idle : (k : ℕ) → is_caller old.callers.entries r k ≡ true → is_caller new.callers.entries r k ≡ false → IsIdle d r old.sets.items es k

-- A process that isn't in a family isn't inside a block or task, nor begun by one that is in it.
pub record IsPassed (d : Shape) (target : ℕ) (family : BTreeSet ℕ) (p : ℕ) (t : Process) : Type 0 where
  pub outside : contains nat_cmp family p ≡ false → is_inside d target t.thread ≡ false
  pub apart : IfSome t.parent (λ q. contains nat_cmp family q ≡ true → contains nat_cmp family p ≡ true)

-- A family has all that are inside, and all that one of it has begun.
abbrev pub HasAll : Shape → ℕ → BTreeSet ℕ → List (ℕ × Process) → Type 0
HasAll d target family es = AllByRecursion (λ e. IsPassed d target family e.0 e.1) es
