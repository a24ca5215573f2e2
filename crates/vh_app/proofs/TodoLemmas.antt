-- Lemmas on `specs/Todo.antt`: the steps of commands lie where they are laid, and lead where the commands do.
use Rattle.std.proofs.Common.{◌≡◌, ◌∙◌, ℕ, zero, suc, ◌+◌, ◌<◌, ◌≤◌, Bool, true, false, if◌then◌else◌, cond, List, [], ◌∷◌, ◌++◌, length, map, set, slice_get, find, Option, None, Some, option_map, refl, sym, ap, subst, arith, inl, inr}
use Rattle.std.specs.List.{position, position_or_len}
use Rattle.std.specs.Str.{bytes_eq}
use Rattle.std.proofs.lemmas.Bool.{lt-ltb}
use Rattle.std.proofs.lemmas.List.{length_push, append_assoc, append-nil}
use Rattle.std.proofs.lemmas.List.Folds.{find_at}
use Rattle.std.proofs.lemmas.Option.{slice_get_within}
use Rattle.vh_base.specs.declared.orders.Answer.{Answer}
use Rattle.vh_base.specs.declared.orders.Order.{Order}
use Rattle.vh_base.specs.declared.orders.Seen.{Seen}
use Rattle.vh_app_script.specs.Tree.{App, Command, ask, finish, choose, loop, Commands, no_command, one_command, commands}
use Rattle.vh_app_script.specs.Tree as tree
use Rattle.vh_app.specs.declared.point.Point.{Point}
use Rattle.vh_app.specs.declared.form.Node.{Node}
use Rattle.vh_app.specs.declared.form.Node.TheVariants.{Ask, Set, Turn, Go, Return}
use Rattle.vh_app.specs.declared.form.Procedure.{Procedure}
use Rattle.vh_app.specs.Layout.{atom_laid, form_laid, test_laid, choice_laid, turn_laid, size_of, sizes_of, with_command, with_commands, asked, Laid, with_procedure, with_procedures, startup_laid, script_laid}
use Rattle.vh_app.specs.Next.{Came, came_of, ordered_or, next_in, next_of, beginning, procedure_in, stored}
use Rattle.vh_app.specs.Script.{ScriptData}
use Rattle.vh_app.specs.Todo.{joined, Ordered, returned, tested, first_of, first_in, todo_next, LiesAt, LieAt, Part, Stands, Chain, all_of, Does, Agrees, startup_commands, named_in, StartupBegins, ProcedureBegins, OrdersInTurn}
use Rattle.vh_app.specs.Values.{holds, set_to}

-- Steps that begin with others.
abbrev Begins : List Node → List Node → Type 0
Begins xs all = (back : List Node) × (all ≡ xs ++ back)

less : (xs : List Node) (x : Node) (all : List Node) → Begins (xs ++ x ∷ []) all → Begins xs all
less xs x all h = (x ∷ h.0, h.1 ∙ append_assoc xs (x ∷ []) h.0)

get-seam : (xs : List Node) (x : Node) (ys : List Node) → slice_get (xs ++ x ∷ ys) (length xs) ≡ Some x
get-seam [] x ys = refl
get-seam (y ∷ xs) x ys = get-seam xs x ys

-- The step behind those.
stands : (xs : List Node) (x : Node) (all : List Node) (at : ℕ) → Begins (xs ++ x ∷ []) all → at ≡ length xs
    → slice_get all at ≡ Some x
stands xs x all at h e =
    ap (λ (ys : List Node). slice_get ys at) (h.1 ∙ append_assoc xs (x ∷ []) h.0)
    ∙ (ap (λ (n : ℕ). slice_get (xs ++ x ∷ h.0) n) e ∙ get-seam xs x h.0)

mutual
  -- Commands have as many steps as they say.
  counts : (c : Command) (ns : List Node) → length (with_command c ns) ≡ length ns + size_of c
  counts (ask target o) ns = length_push ns (Ask target (form_laid o))
  counts (tree.set n a added) ns = length_push ns (Set n (atom_laid a) (option_map atom_laid added))
  counts finish ns = length_push ns Return
  counts (choose test here there) ns =
      let first = choice_laid test (length ns) (sizes_of here) in
      let go = Go (length ns + sizes_of here + sizes_of there + 2) in
      let one = length_push ns first in
      let holding = counts-all here (ns ++ first ∷ []) in
      let two = length_push (with_commands here (ns ++ first ∷ [])) go in
      let failing = counts-all there (with_commands here (ns ++ first ∷ []) ++ go ∷ []) in
      omega arith
  counts (loop test body) ns =
      let turn = turn_laid test (length ns) (sizes_of body) in
      let one = length_push ns turn in
      let inside = counts-all body (ns ++ turn ∷ []) in
      let two = length_push (with_commands body (ns ++ turn ∷ [])) turn in
      omega arith

  counts-all : (cs : Commands) (ns : List Node) → length (with_commands cs ns) ≡ length ns + sizes_of cs
  counts-all no_command ns = omega arith
  counts-all (one_command c cs) ns =
      let one = counts c ns in
      let more = counts-all cs (with_command c ns) in
      omega arith

mutual
  -- They are only added.
  shorter : (c : Command) (ns all : List Node) → Begins (with_command c ns) all → Begins ns all
  shorter (ask target o) ns all h = less ns (Ask target (form_laid o)) all h
  shorter (tree.set n a added) ns all h = less ns (Set n (atom_laid a) (option_map atom_laid added)) all h
  shorter finish ns all h = less ns Return all h
  shorter (choose test here there) ns all h =
      let first = choice_laid test (length ns) (sizes_of here) in
      let go = Go (length ns + sizes_of here + sizes_of there + 2) in
      less ns first all
      (shorter-all here (ns ++ first ∷ []) all
      (less (with_commands here (ns ++ first ∷ [])) go all
      (shorter-all there (with_commands here (ns ++ first ∷ []) ++ go ∷ []) all h)))
  shorter (loop test body) ns all h =
      let turn = turn_laid test (length ns) (sizes_of body) in
      less ns turn all
      (shorter-all body (ns ++ turn ∷ []) all (less (with_commands body (ns ++ turn ∷ [])) turn all h))

  shorter-all : (cs : Commands) (ns all : List Node) → Begins (with_commands cs ns) all → Begins ns all
  shorter-all no_command ns all h = h
  shorter-all (one_command c cs) ns all h = shorter c ns all (shorter-all cs (with_command c ns) all h)

mutual
  -- The steps of commands lie where they are laid.
  lies : (c : Command) (ns all : List Node) (at to : ℕ) → Begins (with_command c ns) all → at ≡ length ns
      → to ≡ at + size_of c → LiesAt all at c to
  lies (ask target o) ns all at to h e f = (stands ns (Ask target (form_laid o)) all at h e, f)
  lies (tree.set n a added) ns all at to h e f =
      (stands ns (Set n (atom_laid a) (option_map atom_laid added)) all at h e, f)
  lies finish ns all at to h e f = (stands ns Return all at h e, f)
  lies (choose test here there) ns all at to h e f =
      let first = choice_laid test (length ns) (sizes_of here) in
      let go = Go (length ns + sizes_of here + sizes_of there + 2) in
      let one = ns ++ first ∷ [] in
      let mid = with_commands here one in
      let two = mid ++ go ∷ [] in
      let behind = shorter-all there two all h in
      let inside = less mid go all behind in
      let count = length_push ns first in
      let count_here = counts-all here one in
      let count_go = length_push mid go in (
        stands ns first all at (shorter-all here one all inside) e ∙ ap (λ (n : ℕ). Some (choice_laid test n (sizes_of here))) (sym e),
        lie here one all (at + 1) (at + 1 + sizes_of here) inside (omega arith) (omega arith),
        stands mid go all (at + 1 + sizes_of here) behind (omega arith) ∙ ap (λ (n : ℕ). Some (Go n)) (omega arith),
        lie there two all (at + sizes_of here + 2) to h (omega arith) (omega arith),
      )
  lies (loop test body) ns all at to h e f =
      let turn = turn_laid test (length ns) (sizes_of body) in
      let one = ns ++ turn ∷ [] in
      let mid = with_commands body one in
      let inside = less mid turn all h in
      let count = length_push ns turn in
      let count_body = counts-all body one in
      let same = ap (λ (n : ℕ). Some (turn_laid test n (sizes_of body))) (sym e) in (
        stands ns turn all at (shorter-all body one all inside) e ∙ same,
        lie body one all (at + 1) (at + 1 + sizes_of body) inside (omega arith) (omega arith),
        stands mid turn all (at + 1 + sizes_of body) h (omega arith) ∙ same,
        omega arith,
      )

  lie : (cs : Commands) (ns all : List Node) (at to : ℕ) → Begins (with_commands cs ns) all → at ≡ length ns
      → to ≡ at + sizes_of cs → LieAt all at cs to
  lie no_command ns all at to h e f = omega arith
  lie (one_command c cs) ns all at to h e f =
      let count = counts c ns in (
        at + size_of c,
        lies c ns all at (at + size_of c) (shorter-all cs (with_command c ns) all h) e refl,
        lie cs (with_command c ns) all (at + size_of c) to h (omega arith) (omega arith),
      )

mutual
  -- The steps behind commands lie behind them.
  onward : (c : Command) (ns : List Node) (at to : ℕ) → LiesAt ns at c to → at < to
  onward (ask target o) ns at to h = omega (arith, h.1)
  onward (tree.set n a added) ns at to h = omega (arith, h.1)
  onward finish ns at to h = omega (arith, h.1)
  onward (choose test here there) ns at to h =
      let le = onward-all there ns (at + sizes_of here + 2) to h.3 in
      omega arith
  onward (loop test body) ns at to h = omega (arith, h.3)

  onward-all : (cs : Commands) (ns : List Node) (at to : ℕ) → LieAt ns at cs to → at ≤ to
  onward-all no_command ns at to h = omega arith
  onward-all (one_command c cs) ns at to h =
      let one = onward c ns at h.0 h.1 in
      let more = onward-all cs ns h.0 to h.2 in
      omega arith

-- Commands one behind the other.
joined-none : (cs : Commands) → joined cs no_command ≡ cs
joined-none no_command = refl
joined-none (one_command c cs) = ap (one_command c) (joined-none cs)

joined-joined : (cs ds es : Commands) → joined (joined cs ds) es ≡ joined cs (joined ds es)
joined-joined no_command ds es = refl
joined-joined (one_command c cs) ds es = ap (one_command c) (joined-joined cs ds es)

first-joined : (s : ScriptData) (seen : Seen) (cs ds more : Commands) (vars : List Answer) (further : List Answer → Ordered)
    → first_in s seen (joined cs ds) more vars further
    ≡ first_in s seen cs (joined ds more) vars (λ after. first_in s seen ds more after further)
first-joined s seen no_command ds more vars further = refl
first-joined s seen (one_command c cs) ds more vars further =
    ap (λ (x : Commands). first_of s seen c x vars (λ after. first_in s seen (joined cs ds) more after further))
    (joined-joined cs ds more)
    ∙ ap (λ (f : List Answer → Ordered). first_of s seen c (joined cs (joined ds more)) vars f)
    (λ i. λ after. first-joined s seen cs ds more after further i)

-- What is still to do before more.
does-nothing : (s : ScriptData) (at : ℕ) → slice_get s.nodes at ≡ Some Return → Does s at no_command
does-nothing s at h = record { parts = []; chain = h; all = refl }

does-before : (s : ScriptData) (at to : ℕ) (cs more : Commands) → LieAt s.nodes at cs to → Does s to more
    → Does s at (joined cs more)
does-before s at to cs more h d = record {
  parts = record { here = cs; to = to } ∷ d.parts;
  chain = (inl h, d.chain);
  all = ap (joined cs) d.all;
}

does-over : (s : ScriptData) (at to : ℕ) (more : Commands) → slice_get s.nodes at ≡ Some (Go to) → at < to → Does s to more
    → Does s at more
does-over s at to more h lt d = record {
  parts = record { here = no_command; to = to } ∷ d.parts;
  chain = (inr (inl (refl, h, lt)), d.chain);
  all = d.all;
}

does-again : (s : ScriptData) (at to : ℕ) (test : tree.Test) (body more : Commands) → LiesAt s.nodes at (loop test body) to
    → Does s to more → Does s (at + 1) (joined body (one_command (loop test body) more))
does-again s at to test body more h d = record {
  parts =
      record { here = body; to = at + 1 + sizes_of body }
      ∷ record { here = one_command (loop test body) no_command; to = to }
      ∷ d.parts;
  chain = (
    inl h.1,
    (
      inr (inr (record { begin = at; test = test; body = body; is = refl; behind = refl; lies = h })),
      d.chain,
    ),
  );
  all = ap (λ (x : Commands). joined body (one_command (loop test body) x)) d.all;
}

-- From a place on the next order is that of w, whatever the variables are and with any count of steps that is
-- enough.
abbrev AgreesIn : ScriptData → (Order × Point × List Answer) → Ordered → Type 0
AgreesIn s n w = Agrees s n.0 n.1 n.2 w

abbrev Leads : ScriptData → Seen → ℕ → (List Answer → Ordered) → Type 0
Leads s seen at w =
    (n : ℕ) (vars : List Answer) → length s.nodes ≤ n + at → AgreesIn s (next_in n s seen vars (beginning at)) (w vars)

-- What comes of a step, where there are so many behind it.
abbrev comes : ℕ → ScriptData → Seen → Came → Order × Point × List Answer
comes m s seen c = ordered_or c.order c.at c.vars (next_in m s seen c.vars c.at)

step-leads : (s : ScriptData) (seen : Seen) (at : ℕ) (node : Node) (w : List Answer → Ordered) → slice_get s.nodes at ≡ Some node
    → ((m : ℕ) (vars : List Answer) → length s.nodes ≤ m + (at + 1)
    → AgreesIn s (comes m s seen (came_of s seen vars at (Some node))) (w vars))
    → Leads s seen at w
step-leads s seen at node w is h zero vars enough =
    let lt = slice_get_within s.nodes at node is in absurd (omega (arith, lt, enough))
step-leads s seen at node w is h (suc m) vars enough =
    subst (λ (o : Option Node). AgreesIn s (comes m s seen (came_of s seen vars at o)) (w vars)) (sym is)
    (h m vars (omega (arith, enough)))

go-leads : (s : ScriptData) (seen : Seen) (at to : ℕ) (w : List Answer → Ordered) → slice_get s.nodes at ≡ Some (Go to) → at < to
    → Leads s seen to w → Leads s seen at w
go-leads s seen at to w is lt l =
    step-leads s seen at (Go to) w is (λ m vars enough. l m vars (omega (arith, lt, enough)))

choice-leads : (s : ScriptData) (seen : Seen) (at size : ℕ) (test : tree.Test) (here there : List Answer → Ordered)
    → slice_get s.nodes at ≡ Some (choice_laid test at size) → Leads s seen (at + 1) here → Leads s seen (at + size + 2) there
    → Leads s seen at (λ vars. if holds vars seen (test_laid test) then here vars else there vars)
choice-leads s seen at size test here there is l k =
    step-leads s seen at (choice_laid test at size) (λ vars. if holds vars seen (test_laid test) then here vars else there vars) is
    (λ m vars enough. by m vars enough (holds vars seen (test_laid test)))
  where
    by : (m : ℕ) (vars : List Answer) → length s.nodes ≤ m + (at + 1) → (b : Bool)
        → AgreesIn s (next_in m s seen vars (beginning (if b then at + 1 else at + size + 2))) (if b then here vars else there vars)
    by m vars enough true = l m vars enough
    by m vars enough false = k m vars (omega (arith, enough))

turn-leads : (s : ScriptData) (seen : Seen) (at first fails : ℕ) (test : tree.Test) (body more : Commands)
    → slice_get s.nodes at ≡ Some (Turn (test_laid test) first fails)
    → Does s first (joined body (one_command (loop test body) more)) → Does s fails more
    → Leads s seen at (λ vars. tested (holds vars seen (test_laid test)) test body more vars)
turn-leads s seen at first fails test body more is d e =
    step-leads s seen at (Turn (test_laid test) first fails) (λ vars. tested (holds vars seen (test_laid test)) test body more vars) is
    (λ m vars enough. record { order = refl; waiting = refl; vars = refl; rest = by (holds vars seen (test_laid test)) })
  where
    by : (b : Bool) → Does s (if b then first else fails) (if b then joined body (one_command (loop test body) more) else more)
    by true = d
    by false = e

mutual
  -- The steps of commands lead where the commands do.
  command-leads : (s : ScriptData) (seen : Seen) (c : Command) (at to : ℕ) (more : Commands) (further : List Answer → Ordered)
      → LiesAt s.nodes at c to → Does s to more → Leads s seen to further
      → Leads s seen at (λ vars. first_of s seen c more vars further)
  command-leads s seen (ask target o) at to more further h d l =
      step-leads s seen at (Ask target (form_laid o)) (λ vars. first_of s seen (ask target o) more vars further) h.0
      (λ m vars enough. record {
        order = refl;
        waiting = refl;
        vars = refl;
        rest = subst (λ (x : ℕ). Does s x more) h.1 d;
      })
  command-leads s seen (tree.set n a added) at to more further h d l =
      step-leads s seen at (Set n (atom_laid a) (option_map atom_laid added))
      (λ vars. first_of s seen (tree.set n a added) more vars further) h.0
      (λ m vars enough.
      subst (λ (x : ℕ). Leads s seen x further) h.1 l m
      (set vars n (set_to vars seen (atom_laid a) (option_map atom_laid added))) enough)
  command-leads s seen finish at to more further h d l =
      step-leads s seen at Return returned h.0
      (λ m vars enough. record { order = refl; waiting = refl; vars = refl; rest = does-nothing s at h.0 })
  command-leads s seen (choose test here there) at to more further h d l =
      let le = onward-all there s.nodes (at + sizes_of here + 2) to h.3 in
      let behind = at + 1 + sizes_of here in
      let lt : behind < to = omega arith in
      choice-leads s seen at (sizes_of here) test (λ vars. first_in s seen here more vars further)
      (λ vars. first_in s seen there more vars further) h.0
      (commands-lead s seen here (at + 1) behind more further h.1 (does-over s behind to more h.2 lt d)
      (go-leads s seen behind to further h.2 lt l))
      (commands-lead s seen there (at + sizes_of here + 2) to more further h.3 d l)
  command-leads s seen (loop test body) at to more further h d l =
      turn-leads s seen at (at + 1) (at + sizes_of body + 2) test body more h.0 (does-again s at to test body more h d)
      (subst (λ (x : ℕ). Does s x more) h.3 d)

  commands-lead : (s : ScriptData) (seen : Seen) (cs : Commands) (at to : ℕ) (more : Commands) (further : List Answer → Ordered)
      → LieAt s.nodes at cs to → Does s to more → Leads s seen to further
      → Leads s seen at (λ vars. first_in s seen cs more vars further)
  commands-lead s seen no_command at to more further h d l = subst (λ (x : ℕ). Leads s seen x further) (sym h) l
  commands-lead s seen (one_command c cs) at to more further h d l =
      command-leads s seen c at h.0 (joined cs more) (λ after. first_in s seen cs more after further) h.1
      (does-before s h.0 to cs more h.2 d) (commands-lead s seen cs h.0 to more further h.2 d l)

-- So do the parts of what is still to do.
part-leads : (s : ScriptData) (seen : Seen) (at : ℕ) (p : Part) (rest : Commands) → Stands s.nodes at p → Does s p.to rest
    → Leads s seen p.to (λ vars. todo_next s seen rest vars)
    → Leads s seen at (λ vars. todo_next s seen (joined p.here rest) vars)
part-leads s seen at p rest h d l = by h
  where
    behind : Does s p.to (joined rest no_command)
    behind = subst (λ (cs : Commands). Does s p.to cs) (sym (joined-none rest)) d

    by : Stands s.nodes at p → Leads s seen at (λ vars. todo_next s seen (joined p.here rest) vars)
    by (inl lie) =
        subst (λ (w : List Answer → Ordered). Leads s seen at w)
        (λ i. λ vars. sym (first-joined s seen p.here rest no_command vars returned) i)
        (commands-lead s seen p.here at p.to (joined rest no_command) (λ after. todo_next s seen rest after) lie behind l)
    by (inr (inl go)) =
        subst (λ (cs : Commands). Leads s seen at (λ vars. todo_next s seen (joined cs rest) vars)) (sym go.0)
        (go-leads s seen at p.to (λ vars. todo_next s seen rest vars) go.1 go.2 l)
    by (inr (inr again)) =
        subst (λ (cs : Commands). Leads s seen at (λ vars. todo_next s seen (joined cs rest) vars)) (sym again.is)
        (turn-leads s seen at (again.begin + 1) (again.begin + sizes_of again.body + 2) again.test again.body (joined rest no_command)
        (ap (λ (x : ℕ). slice_get s.nodes x) again.behind ∙ again.lies.2)
        (does-again s again.begin p.to again.test again.body (joined rest no_command) again.lies behind)
        (subst (λ (x : ℕ). Does s x (joined rest no_command)) again.lies.3 behind))

chain-leads : (s : ScriptData) (seen : Seen) (ps : List Part) (at : ℕ) → Chain s.nodes at ps
    → Leads s seen at (λ vars. todo_next s seen (all_of ps) vars)
chain-leads s seen [] at h =
    step-leads s seen at Return returned h
    (λ m vars enough. record { order = refl; waiting = refl; vars = refl; rest = does-nothing s at h })
chain-leads s seen (p ∷ ps) at h =
    part-leads s seen at p (all_of ps) h.0 (record { parts = ps; chain = h.1; all = refl }) (chain-leads s seen ps p.to h.1)

-- At a point where commands are still to do the next order is theirs.
pub orders-in-turn : OrdersInTurn
orders-in-turn a at cs vars seen d =
    let s = script_laid a in
    subst (λ (x : Commands). AgreesIn s (next_of s at vars seen) (todo_next s seen x (stored at.waiting seen.last vars))) (sym d.all)
    (chain-leads s seen d.parts at.at d.chain (length s.nodes) (stored at.waiting seen.last vars) (omega arith))

-- The orders of a startup are laid as commands are.
asked-laid : (os : List tree.Order) (ns : List Node) → with_commands (startup_commands os) ns ≡ ns ++ map asked os
asked-laid [] ns = sym (append-nil ns)
asked-laid (o ∷ os) ns = asked-laid os (ns ++ asked o ∷ []) ∙ append_assoc ns (asked o ∷ []) (map asked os)

-- Procedures are only added.
procedures-behind : (ps : List tree.Procedure) (so : Laid) (all : List Node) → Begins (with_procedures so ps).nodes all
    → Begins so.nodes all
procedures-behind [] so all h = h
procedures-behind (p ∷ ps) so all h =
    shorter-all (commands p.commands) so.nodes all
    (less (with_commands (commands p.commands) so.nodes) Return all
    (procedures-behind ps (with_procedure so p) all h))

-- Commands with a return behind them are still to do where they are laid.
laid-does : (s : ScriptData) (cs : Commands) (ns : List Node) → Begins (with_commands cs ns ++ Return ∷ []) s.nodes
    → Does s (length ns) cs
laid-does s cs ns h = record {
  parts = record { here = cs; to = length ns + sizes_of cs } ∷ [];
  chain = (
    inl (lie cs ns s.nodes (length ns) (length ns + sizes_of cs) (less (with_commands cs ns) Return s.nodes h) refl refl),
    stands (with_commands cs ns) Return s.nodes (length ns + sizes_of cs) h (sym (counts-all cs ns)),
  );
  all = sym (joined-none cs);
}

pub startup-begins : StartupBegins
startup-begins a =
    let s = script_laid a in
    let h = procedures-behind a.procedures (startup_laid a.startup) s.nodes ([], sym (append-nil s.nodes)) in
    laid-does s (startup_commands a.startup) []
    (subst (λ (x : List Node). Begins (x ++ Return ∷ []) s.nodes) (sym (asked-laid a.startup [])) h)

-- The procedure of a name, where they are laid.
abbrev is_named : List ℕ → Procedure → Bool
is_named name p = bytes_eq p.name name

find-push : (p : Procedure → Bool) (xs : List Procedure) (y : Procedure) → find p xs ≡ None
    → find p (xs ++ y ∷ []) ≡ cond (p y) (Some y) None
find-push p [] y h = refl
find-push p (x ∷ xs) y h = by (p x) h (find-push p xs y)
  where
    by : (b : Bool) → cond b (Some x) (find p xs) ≡ None
        → (find p xs ≡ None → find p (xs ++ y ∷ []) ≡ cond (p y) (Some y) None)
        → cond b (Some x) (find p (xs ++ y ∷ [])) ≡ cond (p y) (Some y) None
    by true h more = cc
    by false h more = more h

find-stays : (p : Procedure → Bool) (xs : List Procedure) (x y : Procedure) → find p xs ≡ Some x
    → find p (xs ++ y ∷ []) ≡ Some x
find-stays p [] x y h = cc
find-stays p (z ∷ xs) x y h = by (p z) h (find-stays p xs x y)
  where
    by : (b : Bool) → cond b (Some z) (find p xs) ≡ Some x → (find p xs ≡ Some x → find p (xs ++ y ∷ []) ≡ Some x)
        → cond b (Some z) (find p (xs ++ y ∷ [])) ≡ Some x
    by true h more = h
    by false h more = more h

-- The procedure that p is laid as.
abbrev laid_as : Laid → tree.Procedure → Procedure
laid_as so p = record { name = p.name; start = length so.nodes }

stays-found : (name : List ℕ) (ps : List tree.Procedure) (so : Laid) (x : Procedure)
    → find (is_named name) so.procedures ≡ Some x → find (is_named name) (with_procedures so ps).procedures ≡ Some x
stays-found name [] so x h = h
stays-found name (p ∷ ps) so x h =
    stays-found name ps (with_procedure so p) x (find-stays (is_named name) so.procedures x (laid_as so p) h)

found-in : (s : ScriptData) (name : List ℕ) (x : Procedure) → find (is_named name) s.procedures ≡ Some x
    → procedure_in s (position (is_named name) s.procedures) ≡ Some (beginning x.start)
found-in s name x h =
    let n = position_or_len (is_named name) s.procedures in
    let is : slice_get s.procedures n ≡ Some x = sym (find_at (is_named name) s.procedures) ∙ h in
    ap (λ (b : Bool). procedure_in s (cond b (Some n) None)) (lt-ltb n (length s.procedures) (slice_get_within s.procedures n x is))
    ∙ ap (λ (o : Option Procedure). option_map (λ (p : Procedure). beginning p.start) o) is

-- It is found where its commands are laid.
abbrev FoundLaid : ScriptData → List ℕ → tree.Procedure → List Procedure → Type 0
FoundLaid s name p laid =
    (x : Procedure) × (find (is_named name) laid ≡ Some x) × Does s x.start (commands p.commands)

found-laid : (s : ScriptData) (name : List ℕ) (p : tree.Procedure) (ps : List tree.Procedure) (so : Laid)
    → find (is_named name) so.procedures ≡ None → named_in name ps ≡ Some p → Begins (with_procedures so ps).nodes s.nodes
    → FoundLaid s name p (with_procedures so ps).procedures
found-laid s name p [] so none h b = absurd cc
found-laid s name p (q ∷ ps) so none h b =
    by (bytes_eq q.name name) h (find-push (is_named name) so.procedures (laid_as so q) none)
    (λ none. λ h. found-laid s name p ps (with_procedure so q) none h b)
  where
    by : (b : Bool) → (if b then Some q else named_in name ps) ≡ Some p
        → find (is_named name) (with_procedure so q).procedures ≡ cond b (Some (laid_as so q)) None
        → (find (is_named name) (with_procedure so q).procedures ≡ None → named_in name ps ≡ Some p
        → FoundLaid s name p (with_procedures (with_procedure so q) ps).procedures)
        → FoundLaid s name p (with_procedures (with_procedure so q) ps).procedures
    by true h found more =
        let same : q ≡ p = cc in (
          laid_as so q,
          stays-found name ps (with_procedure so q) (laid_as so q) found,
          subst (λ (r : tree.Procedure). Does s (length so.nodes) (commands r.commands)) same
              (laid-does s (commands q.commands) so.nodes (procedures-behind ps (with_procedure so q) s.nodes b)),
        )
    by false h found more = more found h

pub procedure-begins : ProcedureBegins
procedure-begins a name p h =
    let s = script_laid a in
    let x = found-laid s name p a.procedures (startup_laid a.startup) refl h ([], sym (append-nil s.nodes)) in
    (beginning (x.0).start, found-in s name x.0 x.1, refl, x.2)
