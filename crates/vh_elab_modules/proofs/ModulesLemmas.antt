-- Lemmas on `specs/Modules.antt`: what the code finds by numbers is the top, or the least fault.
use Rattle.std.proofs.Common.{◌≡◌, ◌∙◌, ◌+◌, ◌++◌, ◌<◌, ℕ, zero, suc, Bool, true, false, not, ◌||◌, cond, nat_eq, List, [], ◌∷◌, length, get_or, map, replicate, Option, Some, None, refl, sym, ap, subst, arith}
use Rattle.std.specs.Prelude.{bytes_eq, filter, slice_get}
use Rattle.std.specs.List.{list_any}
use Rattle.std.proofs.lemmas.List.{length-map, length-replicate}
use Rattle.vh_base.specs.declared.faults.DesignFault.TheVariants.{N8}
use Rattle.vh_ast.specs.Items.{ModuleTree, SourceTree}
use Rattle.vh_elab_mentions.specs.Mentions.{Ids, instantiated}
use Rattle.vh_elab_cycles.specs.Cycles.{is_on_cycle}
use Rattle.vh_bind_least.specs.Least.{Fault, fault_if, least, least_of, or_else}
use Rattle.vh_elab_modules.specs.Modules.{Holding, cycle_at, cycle_fault, edge_of, holdings, holdings_in, is_instantiated, is_one, later_fault, names, tops, twice_fault}
use Rattle.vh_elab_modules.specs.Numbers.{Numbered, held_by, least_on, number_of, numbered, numbered_in, only_from}
use Rattle.vh_elab_modules.specs.Views.{IsOnlyTop}
use Rattle.vh_elab_modules.proofs.NumbersLemmas.{Begin, IsNamed, bytes-turned, edge_number, held-at, named-first, named-more, number-same, number-within, on-cycle-numbers}

pub holdings-numbered : (ns : List (List ℕ)) (name : List ℕ) (ids : Ids)
    → map (numbered_in ns (number_of ns name)) ids ≡ map (numbered ns) (map (λ i. (name, i)) ids)
holdings-numbered ns name [] = refl
holdings-numbered ns name (i ∷ ids) = ap (λ hs. numbered ns (name, i) ∷ hs) (holdings-numbered ns name ids)

-- Each module's name is one of all modules.
abbrev AllNamed : List (List ℕ) → SourceTree → Type 0
AllNamed ns [] = Unit {0}
AllNamed ns (m ∷ ms) = IsNamed ns m.id.name × AllNamed ns ms

all-named-more : (ns : List (List ℕ)) (x : List ℕ) (ms : SourceTree) → AllNamed ns ms → AllNamed (x ∷ ns) ms
all-named-more ns x [] all = tt
all-named-more ns x (m ∷ ms) all = (named-more ns x m.id.name all.0, all-named-more ns x ms all.1)

all-named : (ms : SourceTree) → AllNamed (names ms) ms
all-named [] = tt
all-named (m ∷ ms) = (named-first (names ms) m.id.name, all-named-more (names ms) m.id.name ms (all-named ms))

-- And so each item stands in one of them.
abbrev Stand : List (List ℕ) → List Holding → Type 0
Stand ns [] = Unit {0}
Stand ns (h ∷ hs) = IsNamed ns h.0 × Stand ns hs

stand-both : (ns : List (List ℕ)) (hs more : List Holding) → Stand ns hs → Stand ns more → Stand ns (hs ++ more)
stand-both ns [] more s t = t
stand-both ns (h ∷ hs) more s t = (s.0, stand-both ns hs more s.1 t)

stand-in : (ns : List (List ℕ)) (name : List ℕ) (ids : Ids) → IsNamed ns name → Stand ns (map (λ i. (name, i)) ids)
stand-in ns name [] named = tt
stand-in ns name (i ∷ ids) named = (named, stand-in ns name ids named)

stand-all : (ns : List (List ℕ)) (ms : SourceTree) → AllNamed ns ms → Stand ns (holdings ms)
stand-all ns [] all = tt
stand-all ns (m ∷ ms) all =
    stand-both ns (holdings_in m) (holdings ms) (stand-in ns m.id.name (instantiated m) all.0) (stand-all ns ms all.1)

begin-all : (ns : List (List ℕ)) (hs : List Holding) → Stand ns hs → Begin ns (map edge_of hs)
begin-all ns [] s = tt
begin-all ns (h ∷ hs) s = (s.0, begin-all ns hs s.1)

edges-numbered : (ns : List (List ℕ)) (hs : List Holding)
    → map (λ (h : Numbered). h.0) (map (numbered ns) hs) ≡ map (edge_number ns) (map edge_of hs)
edges-numbered ns [] = refl
edges-numbered ns (h ∷ hs) = ap (λ es. edge_number ns (edge_of h) ∷ es) (edges-numbered ns hs)

-- The least fault by numbers is that by names.
least-same : (ns : List (List ℕ)) (all hs : List Holding) (so_far : Option Fault) → Stand ns all → Stand ns hs
    → least_on (map (is_on_cycle nat_eq (map (edge_number ns) (map edge_of all))) (map (edge_number ns) (map edge_of hs))) (map (numbered ns) hs) so_far
    ≡ least_of (cycle_at all) hs so_far
least-same ns all [] so_far s t = refl
least-same ns all (h ∷ hs) so_far s t =
    ap (λ b. least_on (map (is_on_cycle nat_eq (map (edge_number ns) (map edge_of all))) (map (edge_number ns) (map edge_of hs))) (map (numbered ns) hs)
    (least so_far (fault_if b N8 h.1.place)))
    (on-cycle-numbers ns (map edge_of all) (begin-all ns all s) (edge_of h) t.0)
    ∙ least-same ns all hs (least so_far (cycle_at all h)) s t.1

pub cycle-same : (ms : SourceTree) (graph : List Numbered) (fault : Option Fault) → graph ≡ map (numbered (names ms)) (holdings ms)
    → fault ≡ least_on (map (is_on_cycle nat_eq (map (λ (h : Numbered). h.0) graph)) (map (λ (h : Numbered). h.0) graph)) graph None
    → cycle_fault ms ≡ fault
cycle-same ms graph fault is by_graph =
    let ns = names ms in
    let hs = holdings ms in
    let stand = stand-all ns ms (all-named ms) in
    sym (by_graph
    ∙ ap (λ (g : List Numbered). least_on (map (is_on_cycle nat_eq (map (λ (h : Numbered). h.0) g)) (map (λ (h : Numbered). h.0) g)) g None) is
    ∙ ap (λ (es : List (ℕ × ℕ)). least_on (map (is_on_cycle nat_eq es) es) (map (numbered ns) hs) None) (edges-numbered ns hs)
    ∙ least-same ns hs hs None stand stand)

-- A flag is set where a module has instances.
any-same : (ns : List (List ℕ)) (name : List ℕ) (hs : List Holding) → IsNamed ns name
    → list_any (λ (h : Numbered). nat_eq h.0.1 (number_of ns name)) (map (numbered ns) hs) ≡ list_any (λ (h : Holding). bytes_eq name h.1.name) hs
any-same ns name [] named = refl
any-same ns name (h ∷ hs) named =
    ap (λ b. b || list_any (λ (g : Numbered). nat_eq g.0.1 (number_of ns name)) (map (numbered ns) hs))
    (number-same ns h.1.name name named ∙ bytes-turned h.1.name name)
    ∙ ap (λ b. bytes_eq name h.1.name || b) (any-same ns name hs named)

no-flag : (n x : ℕ) → get_or (replicate n false) x false ≡ false
no-flag zero x = refl
no-flag (suc n) zero = refl
no-flag (suc n) (suc x) = no-flag n x

flag-same : (ms : SourceTree) (held : List Bool) → held ≡ held_by (replicate (length ms) false) (map (numbered (names ms)) (holdings ms))
    → (name : List ℕ) → IsNamed (names ms) name
    → get_or held (number_of (names ms) name) false ≡ is_instantiated ms name
flag-same ms held is name named =
    let ns = names ms in
    let x = number_of ns name in
    let none : List Bool = replicate (length ms) false in
    let low : x < length none =
    let a = number-within ns name named in
    let b = length-map ms (λ m. m.id.name) in
    let d = length-replicate (length ms) false in
    omega (arith, a, b, d) in
    ap (λ (bs : List Bool). get_or bs x false) is ∙ held-at none (map (numbered ns) (holdings ms)) x low
    ∙ ap (λ b. b || list_any (λ (h : Numbered). nat_eq h.0.1 x) (map (numbered ns) (holdings ms))) (no-flag (length ms) x)
    ∙ any-same ns name (holdings ms) named

tops-same : (all ms : SourceTree) (held : List Bool) → AllNamed (names all) ms
    → ((name : List ℕ) → IsNamed (names all) name → get_or held (number_of (names all) name) false ≡ is_instantiated all name)
    → map (λ (m : ModuleTree). not (get_or held (number_of (names all) m.id.name) false)) ms ≡ map (λ (m : ModuleTree). not (is_instantiated all m.id.name)) ms
tops-same all [] held named same = refl
tops-same all (m ∷ ms) held named same =
    ap (λ b. not b ∷ map (λ (n : ModuleTree). not (get_or held (number_of (names all) n.id.name) false)) ms) (same m.id.name named.0)
    ∙ ap (λ bs. not (is_instantiated all m.id.name) ∷ bs) (tops-same all ms held named.1 same)

-- The one of some modules that passes a test.
abbrev kept : SourceTree → ℕ → Option ℕ
kept [] k = Some k
kept (m ∷ ms) k = None

only-more : (p : ModuleTree → Bool) (n k : ℕ) (ms : SourceTree) → only_from n (map p ms) (Some k) ≡ kept (filter p ms) k
only-more p n k [] = refl
only-more p n k (m ∷ ms) = at_test (p m) (only-more p (suc n) k ms)
  where
    at_test : (b : Bool) → only_from (suc n) (map p ms) (Some k) ≡ kept (filter p ms) k
        → only_from n (b ∷ map p ms) (Some k) ≡ kept (cond b (m ∷ filter p ms) (filter p ms)) k
    at_test true more = refl
    at_test false more = more

abbrev IsOnly : ℕ → SourceTree → SourceTree → Option ℕ → Type 0
IsOnly n ms passed None = is_one passed ≡ false
IsOnly n ms passed (Some k) = (is_one passed ≡ true) × ((j : ℕ) × (k ≡ n + j) × (slice_get ms j ≡ slice_get passed 0))

only-one : (p : ModuleTree → Bool) (n : ℕ) (ms : SourceTree) → IsOnly n ms (filter p ms) (only_from n (map p ms) None)
only-one p n [] = refl
only-one p n (m ∷ ms) = at_test (p m) (only-one p (suc n) ms)
  where
    later : (found : Option ℕ) (passed : SourceTree) → IsOnly (suc n) ms passed found → IsOnly n (m ∷ ms) passed found
    later None passed h = h
    later (Some k) passed h = (h.0, (suc h.1.0, omega (arith, h.1.1), h.1.2))

    here : (more : SourceTree) → IsOnly n (m ∷ ms) (m ∷ more) (kept more n)
    here [] = (refl, (zero, omega arith, refl))
    here (o ∷ more) = refl

    at_test : (b : Bool) → IsOnly (suc n) ms (filter p ms) (only_from (suc n) (map p ms) None)
        → IsOnly n (m ∷ ms) (cond b (m ∷ filter p ms) (filter p ms)) (only_from n (b ∷ map p ms) None)
    at_test true more =
        subst (λ (found : Option ℕ). IsOnly n (m ∷ ms) (m ∷ filter p ms) found) (sym (only-more p (suc n) n ms)) (here (filter p ms))
    at_test false more = later (only_from (suc n) (map p ms) None) (filter p ms) more

-- The place of the top, by flags.
pub top-found : (ms : SourceTree) (held flags : List Bool) (found : Option ℕ)
    → held ≡ held_by (replicate (length ms) false) (map (numbered (names ms)) (holdings ms))
    → flags ≡ map (λ (m : ModuleTree). not (get_or held (number_of (names ms) m.id.name) false)) ms
    → found ≡ only_from 0 flags None
    → IsOnlyTop ms found
top-found ms held flags found by_held by_flags by_found =
    at_found found (subst (λ (o : Option ℕ). IsOnly 0 ms (tops ms) o) (sym is) (only-one (λ m. not (is_instantiated ms m.id.name)) 0 ms))
  where
    is : found ≡ only_from 0 (map (λ (m : ModuleTree). not (is_instantiated ms m.id.name)) ms) None
    is = by_found ∙ ap (λ (bs : List Bool). only_from 0 bs None) (by_flags ∙ tops-same ms ms held (all-named ms) (flag-same ms held by_held))

    at_found : (o : Option ℕ) → IsOnly 0 ms (tops ms) o → IsOnlyTop ms o
    at_found None h = h
    at_found (Some k) h = let same : h.1.0 ≡ k = omega (arith, h.1.1) in (h.0, ap (λ j. slice_get ms j) (sym same) ∙ h.1.2)

pub later-found : (ms : SourceTree) (fault : Option Fault) (f : Fault) → cycle_fault ms ≡ fault → fault ≡ Some f → later_fault ms ≡ Some f
later-found ms fault f is some = ap (λ o. or_else o (twice_fault ms)) (is ∙ some)

pub later-none : (ms : SourceTree) (fault : Option Fault) → cycle_fault ms ≡ fault → fault ≡ None → later_fault ms ≡ twice_fault ms
later-none ms fault is none = ap (λ o. or_else o (twice_fault ms)) (is ∙ none)

-- The same over what the code holds.
pub top-found-by : (ms : SourceTree) (ns : List (List ℕ)) (count : ℕ) (graph : List Numbered) (held seen flags read : List Bool) (found : Option ℕ)
    → ns ≡ names ms → count ≡ length ms → graph ≡ map (numbered ns) (holdings ms)
    → held ≡ held_by (replicate count false) graph → seen ≡ held
    → flags ≡ map (λ (m : ModuleTree). not (get_or seen (number_of ns m.id.name) false)) ms → read ≡ flags
    → found ≡ only_from 0 read None
    → IsOnlyTop ms found
top-found-by ms ns count graph held seen flags read found by_names by_count by_graph by_held by_seen by_flags by_read by_found =
    top-found ms held flags found
    (by_held ∙ ap (λ n. held_by (replicate n false) graph) by_count
    ∙ ap (λ (hs : List Numbered). held_by (replicate (length ms) false) hs) (by_graph ∙ ap (λ (xs : List (List ℕ)). map (numbered xs) (holdings ms)) by_names))
    (by_flags ∙ ap (λ (bs : List Bool). map (λ (m : ModuleTree). not (get_or bs (number_of ns m.id.name) false)) ms) by_seen
    ∙ ap (λ (xs : List (List ℕ)). map (λ (m : ModuleTree). not (get_or held (number_of xs m.id.name) false)) ms) by_names)
    (by_found ∙ ap (λ (bs : List Bool). only_from 0 bs None) by_read)
