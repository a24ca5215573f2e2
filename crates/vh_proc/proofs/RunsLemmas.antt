-- Each process runs codes that are there, after every change of one.
use Rattle.std.proofs.Common.{◌≡◌, ◌<◌, ℕ, Bool, true, false, cond, List, [], ◌∷◌, length, Option, Some, None, refl, sym, subst}
use Rattle.std.specs.BTreeMap.{is_at, insert_entry}
use Rattle.std.specs.declared.cmp.Ordering.{Ordering}
use Rattle.std.specs.declared.cmp.Ordering.TheVariants.{Less, Equal, Greater}
use Rattle.std.specs.List.{AllByRecursion}
use Rattle.std.specs.Map.{lookup, set_value, remove_entry}
use Rattle.std.specs.Ordering.{nat_cmp, match_ordering}
use Rattle.vh_design.specs.Shape.{Shape}
use Rattle.vh_design_code.specs.declared.code.Goes.{Goes}
use Rattle.vh_design_nodes.specs.Fits.{has_body}
use Rattle.vh_proc_thread.specs.Control.{Control, Runs, goes_on, disabled, arrived}
use Rattle.vh_proc_turn.specs.declared.process.Process.{Process}
use Rattle.vh_proc.specs.Processes.{Processes, AllRun, process_at, changed, changed_in}
use Rattle.vh_proc.proofs.CallsLemmas.{calls-arrived, calls-disabled}
use Rattle.vh_proc.proofs.KinLemmas.{root-disabled}

abbrev pub EachRuns : Shape → List (ℕ × Process) → Type 0
EachRuns d es = AllByRecursion (λ e. Runs d e.1.thread) es

-- One that is found among them.
found-by : (d : Shape) (b : Bool) (t u : Process) (o : Option Process) → cond b (Some t) o ≡ Some u → Runs d t.thread → (o ≡ Some u → Runs d u.thread)
    → Runs d u.thread
found-by d true t u o is own rest = let same : t ≡ u = cc in subst (λ (v : Process). Runs d v.thread) same own
found-by d false t u o is own rest = rest is

pub runs-found : (d : Shape) (test : ℕ → Bool) (es : List (ℕ × Process)) (t : Process) → EachRuns d es → lookup test es ≡ Some t → Runs d t.thread
runs-found d test [] t all is = absurd (cc)
runs-found d test (e ∷ es) t all is = found-by d (test e.0) e.1 t (lookup test es) is all.0 (runs-found d test es t all.1)

-- One in another's position.
set-by : (d : Shape) (b : Bool) (e : ℕ × Process) (t : Process) (es us : List (ℕ × Process)) → Runs d e.1.thread → Runs d t.thread → EachRuns d es → EachRuns d us
    → EachRuns d (cond b ((e.0, t) ∷ es) (e ∷ us))
set-by d true e t es us own new old rest = (new, old)
set-by d false e t es us own new old rest = (own, rest)

pub runs-set : (d : Shape) (test : ℕ → Bool) (es : List (ℕ × Process)) (t : Process) → EachRuns d es → Runs d t.thread → EachRuns d (set_value test es t)
runs-set d test [] t all new = tt
runs-set d test (e ∷ es) t all new = set-by d (test e.0) e t es (set_value test es t) all.0 new all.1 (runs-set d test es t all.1 new)

-- Without one.
removed-by : (d : Shape) (b : Bool) (e : ℕ × Process) (es us : List (ℕ × Process)) → Runs d e.1.thread → EachRuns d es → EachRuns d us → EachRuns d (cond b es (e ∷ us))
removed-by d true e es us own old rest = old
removed-by d false e es us own old rest = (own, rest)

pub runs-removed : (d : Shape) (test : ℕ → Bool) (es : List (ℕ × Process)) → EachRuns d es → EachRuns d (remove_entry test es)
runs-removed d test [] all = tt
runs-removed d test (e ∷ es) all = removed-by d (test e.0) e es (remove_entry test es) all.0 all.1 (runs-removed d test es all.1)

-- With one more.
inserted-by : (d : Shape) (o : Ordering) (e : ℕ × Process) (k : ℕ) (t : Process) (es us : List (ℕ × Process)) → Runs d e.1.thread → Runs d t.thread → EachRuns d es → EachRuns d us
    → EachRuns d (match_ordering o ((k, t) ∷ e ∷ es) ((e.0, t) ∷ es) (e ∷ us))
inserted-by d Less e k t es us own new old rest = (new, (own, old))
inserted-by d Equal e k t es us own new old rest = (new, old)
inserted-by d Greater e k t es us own new old rest = (own, rest)

pub runs-inserted : (d : Shape) (es : List (ℕ × Process)) (k : ℕ) (t : Process) → EachRuns d es → Runs d t.thread → EachRuns d (insert_entry nat_cmp es k t)
runs-inserted d [] k t all new = (new, tt)
runs-inserted d (e ∷ es) k t all new = inserted-by d (nat_cmp k e.0) e k t es (insert_entry nat_cmp es k t) all.0 new all.1 (runs-inserted d es k t all.1 new)

-- One that is changed.
changed-by : (d : Shape) (o : Option Process) (p : ℕ) (change : Process → Process) (ps : Processes) → process_at p ps ≡ o → AllRun d ps
    → ((t : Process) → Runs d t.thread → Runs d (change t).thread) → AllRun d (changed_in o p change ps)
changed-by d None p change ps is all keeps = all
changed-by d (Some t) p change ps is all keeps =
    runs-set d (is_at (nat_cmp p)) ps.all (change t) all (keeps t (runs-found d (is_at (nat_cmp p)) ps.all t all is))

pub runs-changed : (d : Shape) (p : ℕ) (change : Process → Process) (ps : Processes) → AllRun d ps
    → ((t : Process) → Runs d t.thread → Runs d (change t).thread) → AllRun d (changed p change ps)
runs-changed d p change ps all keeps = changed-by d (process_at p ps) p change ps refl all keeps

-- Where a process goes on, performs a label, or leaves a block or task that is disabled.
abbrev IsThere : Shape → ℕ → Type 0
IsThere d r = has_body d.objects r ≡ true

pub runs-on : (d : Shape) (g : Goes) (t : Control) → Runs d t → Runs d (goes_on g t)
runs-on d g t runs = record { root = runs.root; calls = runs.calls }

pub runs-arrived : (d : Shape) (t : Control) → Runs d t → Runs d (arrived d t)
runs-arrived d t runs = record { root = runs.root; calls = calls-arrived (IsThere d) d t runs.calls }

pub runs-disabled : (d : Shape) (target : ℕ) (t : Control) → Runs d t → Runs d (disabled d target t)
runs-disabled d target t runs = record {
  root = subst (λ k. k < length d.codes) (sym (root-disabled d target t)) runs.root;
  calls = calls-disabled (IsThere d) d target t runs.calls;
}
