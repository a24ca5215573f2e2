-- Each design with its scripts has an opening.
use Rattle.std.proofs.Common.{◌≡◌, ◌<◌, ◌+◌, ◌∙◌, ℕ, zero, suc, List, [], ◌∷◌, map, length, Bool, cond, Option, Some, None, refl, ap, arith}
use Rattle.std.proofs.lemmas.List.FromFn.{get_or-map-range_with_len}
use Rattle.std.specs.Prelude.{slice_get}
use Rattle.std.specs.BTreeMap.{is_at}
use Rattle.std.specs.List.{range_with_len}
use Rattle.std.specs.Map.{lookup}
use Rattle.std.specs.Ordering.{nat_cmp}
use Rattle.vh_app.specs.Script.{ScriptData}
use Rattle.vh_callbacks.proofs.CallbacksLemmas.{at_apart, at_same}
use Rattle.vh_logic.specs.Vector.{Vector}
use Rattle.vh_design_nodes.specs.declared.expr.ExprNode.{ExprNode}
use Rattle.vh_design.specs.Shape.{Shape}
use Rattle.vh_kernel.specs.Settle.{Opens, settled}
use Rattle.vh_kernel.specs.State.{State, IsBeforeAll, opening_agenda, world_before}
use Rattle.vh_sense.specs.Follows.{followers}
use Rattle.vh_sense.specs.Sensitivity.{Sensitivity, IsOpening as IsOpeningSense}
use Rattle.vh_proc_simulation.specs.Activity.{Activity, IsOpening, activity, first_entries, no_monitor}
use Rattle.vh_proc_simulation.specs.Follows.{no_serials}
use Rattle.vh_store.specs.Contents.{Contents}
use Rattle.vh_store.specs.Opening.{IsOpening as IsOpeningStore, opening_wired, first_result, result_at}

-- The results of the calls among expressions, of which the first has this number.
abbrev with-result : ℕ → Option Vector → List (ℕ × Vector) → List (ℕ × Vector)
with-result n None rs = rs
with-result n (Some v) rs = (n, v) ∷ rs

abbrev results-from : ℕ → List ExprNode → List (ℕ × Vector)
results-from n [] = []
results-from n (e ∷ es) = with-result n (first_result e) (results-from (n + 1) es)

passes : (n q : ℕ) (o : Option Vector) (rs : List (ℕ × Vector)) → (q ≡ n → ⊥)
    → lookup (is_at (nat_cmp q)) (with-result n o rs) ≡ lookup (is_at (nat_cmp q)) rs
passes n q None rs apart = refl
passes n q (Some v) rs apart = ap (λ (b : Bool). cond b (Some v) (lookup (is_at (nat_cmp q)) rs)) (at_apart q n apart)

meets : (n : ℕ) (o : Option Vector) (rs : List (ℕ × Vector)) → lookup (is_at (nat_cmp n)) rs ≡ None
    → lookup (is_at (nat_cmp n)) (with-result n o rs) ≡ o
meets n None rs none = none
meets n (Some v) rs none = ap (λ (b : Bool). cond b (Some v) (lookup (is_at (nat_cmp n)) rs)) (at_same n n refl)

-- There is none below the first number,
none-below : (n q : ℕ) (es : List ExprNode) → q < n → lookup (is_at (nat_cmp q)) (results-from n es) ≡ None
none-below n q [] lower = refl
none-below n q (e ∷ es) lower =
    passes n q (first_result e) (results-from (n + 1) es) (λ same. omega arith) ∙ none-below (n + 1) q es (omega arith)

-- And from there on the one of each expression.
result-at : (n q i : ℕ) (es : List ExprNode) → q ≡ n + i → lookup (is_at (nat_cmp q)) (results-from n es) ≡ result_at (slice_get es i)
result-at n q i [] at = refl
result-at n q zero (e ∷ es) at =
    let same : q ≡ n = omega arith in
    rw same (meets n (first_result e) (results-from (n + 1) es) (none-below (n + 1) n es (omega arith)))
result-at n q (suc i) (e ∷ es) at =
    passes n q (first_result e) (results-from (n + 1) es) (λ same. omega arith) ∙ result-at (n + 1) q i es (omega arith)

-- The store, the waits, and all of the state.
abbrev store-before : Shape → Contents
store-before d =
    record { records = (opening_wired d).records; drivers = (opening_wired d).drivers; results = results-from 0 d.exprs; time = 0 }

store-opens : (d : Shape) → IsOpeningStore d (store-before d)
store-opens d = record { records = refl; drivers = refl; results = λ e. result-at 0 e e d.exprs (omega arith); time = refl }

abbrev sense-before : Shape → Sensitivity
sense-before d = record { waits = d.waits; readers = map (followers d) (range_with_len 0 (length d.objects)); waiting = [] }

sense-opens : (d : Shape) → IsOpeningSense d (sense-before d)
sense-opens d = record {
  made = record { waits = refl; readers = λ o inside. get_or-map-range_with_len (followers d) 0 (length d.objects) o o [] inside (omega arith) };
  nobody = refl;
}

abbrev activity-before : Shape → Activity
activity-before d = activity d (first_entries d).processes (store-before d) (sense-before d) no_serials (first_entries d).queue no_monitor

activity-opens : (d : Shape) → IsOpening d (activity-before d)
activity-opens d = record { design = refl; entries = refl; store = store-opens d; sense = sense-opens d; follows = refl; monitor = refl }

abbrev state-before : Shape → List ScriptData → State
state-before d scripts = record {
  world = world_before d scripts (activity-before d);
  control = [];
  agenda = opening_agenda scripts;
  occurrence = 1;
}

is-before : (d : Shape) (scripts : List ScriptData) → IsBeforeAll d scripts (state-before d scripts)
is-before d scripts = record { world = refl; activity = activity-opens d; control = refl; agenda = refl; occurrence = refl }

pub has-opening : (d : Shape) (scripts : List ScriptData) → (s : State) × Opens d scripts s
has-opening d scripts =
    let before = state-before d scripts in
    (settled before, record { before = before; is = is-before d scripts; settles = refl })
