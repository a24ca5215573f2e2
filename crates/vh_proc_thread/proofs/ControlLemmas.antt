-- Lemmas on `specs/Control.antt`: what becomes of the calls and repeats of a thread.
use Rattle.std.proofs.Common.{◌≡◌, ◌∙◌, ◌<◌, ◌≤◌, ◌-◌, ◌+◌, ◌++◌, ℕ, List, [], ◌∷◌, length, reverse, filter, take, drop, slice_set, slice_get, slice_index_or, Bool, true, false, not, nat_lt, cond, Option, Some, None, option_to_list, MatchOption, unwrap_or, refl, sym, ap, subst, arith}
use Rattle.std.proofs.Math.Seq.{take-add, drop-cons, get_or-append_seam, take-append_seam}
use Rattle.std.proofs.lemmas.Bool.Decides.{nat_tests}
use Rattle.std.proofs.lemmas.List.{reverse-append, take-append-drop, length-reverse, length-take-le, length-append, append_assoc}
use Rattle.std.specs.List.{AllByRecursion}
use Rattle.std.specs.Option.{option_map, option_and_then}
use Rattle.vh_design_code.specs.declared.code.Block.{Block}
use Rattle.vh_design_code.specs.declared.code.Code.{Code}
use Rattle.vh_design_code.specs.declared.code.Goes.{Goes}
use Rattle.vh_design_code.specs.declared.code.Goes.TheVariants as goes
use Rattle.vh_design_code.specs.declared.code.Instruction.{Instruction}
use Rattle.vh_design.specs.Shape.{Shape}
use Rattle.vh_proc_thread.specs.declared.call.Call.{Call}
use Rattle.vh_proc_thread.specs.declared.call.Repeat.{Repeat}
use Rattle.vh_proc_thread.specs.Control.{Control, Runs, HasBody, instruction_of, gone, behind, without_call, turned, outermost, or_these, is_within, is_call_of, disabled, left, left_task, left_block, blocks_of, block_around, repeats_within, code_of, without_block, in_block, standing_in}
use Rattle.vh_proc_thread.proofs.LastLemmas.{Apart, apart, reverse-apart, last-at, last-set, each-back, each-turned, each-taken, each-last, filter-turned}

-- The innermost call goes on at a position.
pub to-last : (d : Shape) (root k n : ℕ) (xs : List Call) (c : Call) → n ≡ length xs - 1 → 0 < length xs → c ≡ slice_index_or xs n c
    → reverse (slice_set xs n (record c { position = k })) ≡ gone d root (goes.To k) (reverse xs)
unfolding gone
to-last d root k n xs c is some at = by (apart xs some)
  where
    by : Apart xs → reverse (slice_set xs n (record c { position = k })) ≡ gone d root (goes.To k) (reverse xs)
    by a =
        let here : n ≡ length (a.front ++ a.last ∷ []) - 1 = is ∙ ap (λ (ys : List Call). length ys - 1) a.is in
        let same : c ≡ a.last = at ∙ ap (λ (ys : List Call). slice_index_or ys n c) a.is ∙ last-at a.front a.last c n here in
        ap (λ (ys : List Call). reverse (slice_set ys n (record c { position = k }))) a.is
        ∙ last-set a.front a.last (record c { position = k }) n here
        ∙ ap (λ (e : Call). (let f : Call = record e { position = k } in f) ∷ reverse a.front) same
        ∙ sym (ap (gone d root (goes.To k)) (ap reverse a.is ∙ reverse-apart a.front a.last))

pub to-none : (d : Shape) (root k : ℕ) (xs : List Call) → length xs ≡ 0 → reverse xs ≡ gone d root (goes.To k) (reverse xs)
unfolding gone
to-none d root k [] none = refl
to-none d root k (x ∷ xs) none = absurd (omega (arith, none))

-- It stands in a block.
pub block-last : (block : Option ℕ) (n : ℕ) (xs : List Call) (c : Call) → n ≡ length xs - 1 → 0 < length xs → c ≡ slice_index_or xs n c
    → reverse (slice_set xs n (record c { block = block })) ≡ in_block block (reverse xs)
block-last block n xs c is some at = by (apart xs some)
  where
    by : Apart xs → reverse (slice_set xs n (record c { block = block })) ≡ in_block block (reverse xs)
    by a =
        let here : n ≡ length (a.front ++ a.last ∷ []) - 1 = is ∙ ap (λ (ys : List Call). length ys - 1) a.is in
        let same : c ≡ a.last = at ∙ ap (λ (ys : List Call). slice_index_or ys n c) a.is ∙ last-at a.front a.last c n here in
        ap (λ (ys : List Call). reverse (slice_set ys n (record c { block = block }))) a.is
        ∙ last-set a.front a.last (record c { block = block }) n here
        ∙ ap (λ (e : Call). (let f : Call = record e { block = block } in f) ∷ reverse a.front) same
        ∙ sym (ap (in_block block) (ap reverse a.is ∙ reverse-apart a.front a.last))

pub block-none : (block : Option ℕ) (xs : List Call) → length xs ≡ 0 → reverse xs ≡ in_block block (reverse xs)
block-none block [] none = refl
block-none block (x ∷ xs) none = absurd (omega (arith, none))

bodies-in : (d : Shape) (block : Option ℕ) (cs : List Call) → AllByRecursion (HasBody d) cs → AllByRecursion (HasBody d) (in_block block cs)
bodies-in d block [] all = tt
bodies-in d block (c ∷ cs) all = all

pub runs-in : (d : Shape) (block : Option ℕ) (t : Control) → Runs d t → Runs d (standing_in block t)
runs-in d block t runs = record { root = runs.root; calls = bodies-in d block t.calls runs.calls }

-- It goes back.
pub back-more : (d : Shape) (root m n k : ℕ) (xs ys : List Call) (o : Option Call) (c : Call)
    → xs ≡ ys ++ option_to_list o → MatchOption o ((m ≡ 0) × (n ≡ 0)) (λ _. n + 1 ≡ m) → n ≡ length ys
    → 0 < length ys → k ≡ length ys - 1 → c ≡ slice_index_or ys k c
    → gone d root (behind d root c) (reverse ys) ≡ gone d root goes.Back (reverse xs)
unfolding gone
back-more d root m n k xs ys None c is cases counted some at here = absurd (let none = cases.1 in omega (arith, none, counted, some))
back-more d root m n k xs ys (Some x) c is cases counted some at here = by (apart ys some)
  where
    by : Apart ys → gone d root (behind d root c) (reverse ys) ≡ gone d root goes.Back (reverse xs)
    by a =
        let there : k ≡ length (a.front ++ a.last ∷ []) - 1 = at ∙ ap (λ (zs : List Call). length zs - 1) a.is in
        let same : c ≡ a.last = here ∙ ap (λ (zs : List Call). slice_index_or zs k c) a.is ∙ last-at a.front a.last c k there in
        let turned : reverse ys ≡ a.last ∷ reverse a.front = ap reverse a.is ∙ reverse-apart a.front a.last in
        ap (λ (e : Call). gone d root (behind d root e) (reverse ys)) same
        ∙ ap (gone d root (behind d root a.last)) turned
        ∙ sym (ap (gone d root goes.Back) (ap reverse is ∙ reverse-apart ys x ∙ ap (λ (zs : List Call). x ∷ zs) turned))

pub back-none : (d : Shape) (root : ℕ) (xs ys : List Call) (o : Option Call) → xs ≡ ys ++ option_to_list o → length ys ≡ 0
    → reverse ys ≡ gone d root goes.Back (reverse xs)
unfolding gone
back-none d root xs [] None is none = sym (ap (λ (zs : List Call). gone d root goes.Back (reverse zs)) is)
back-none d root xs [] (Some x) is none = sym (ap (λ (zs : List Call). gone d root goes.Back (reverse zs)) is)
back-none d root xs (y ∷ ys) o is none = absurd (omega (arith, none))

-- The call in which the next label is performed, from the outside in.
pub label-none : (d : Shape) (root : ℕ) (g : Goes) (xs : List Call) → length xs ≡ 0 → slice_get (gone d root g (reverse xs)) 0 ≡ None
unfolding gone
label-none d root (goes.To k) [] none = refl
label-none d root goes.Back [] none = refl
label-none d root g (x ∷ xs) none = absurd (omega (arith, none))

pub label-to : (d : Shape) (root k n : ℕ) (xs : List Call) (c : Call) → n ≡ length xs - 1 → 0 < length xs → c ≡ slice_index_or xs n c
    → slice_get (gone d root (goes.To k) (reverse xs)) 0 ≡ Some (record c { position = k })
unfolding gone
label-to d root k n xs c is some at = by (apart xs some)
  where
    by : Apart xs → slice_get (gone d root (goes.To k) (reverse xs)) 0 ≡ Some (record c { position = k })
    by a =
        let here : n ≡ length (a.front ++ a.last ∷ []) - 1 = is ∙ ap (λ (ys : List Call). length ys - 1) a.is in
        let same : c ≡ a.last = at ∙ ap (λ (ys : List Call). slice_index_or ys n c) a.is ∙ last-at a.front a.last c n here in
        ap (λ (ys : List Call). slice_get (gone d root (goes.To k) ys) 0) (ap reverse a.is ∙ reverse-apart a.front a.last)
        ∙ ap (λ (e : Call). Some (let f : Call = record e { position = k } in f)) (sym same)

pub label-ended : (d : Shape) (root : ℕ) (xs : List Call) → length xs ≡ 1 → slice_get (gone d root goes.Back (reverse xs)) 0 ≡ None
unfolding gone
label-ended d root [] one = absurd (cc)
label-ended d root (x ∷ []) one = refl
label-ended d root (x ∷ y ∷ ys) one = absurd (omega (arith, one))

pub label-back : (d : Shape) (root n m : ℕ) (xs ys : List Call) (e : Call) → n ≡ length xs - 1 → 0 < n → m ≡ n - 1 → ys ≡ take n xs
    → e ≡ slice_index_or xs m e → gone d root (behind d root e) (reverse ys) ≡ gone d root goes.Back (reverse xs)
unfolding gone
label-back d root n m xs ys e is more before taken at = by (apart xs (omega (arith, is, more)))
  where
    by : Apart xs → gone d root (behind d root e) (reverse ys) ≡ gone d root goes.Back (reverse xs)
    by a = inner (apart a.front (let many : length xs ≡ length (a.front ++ a.last ∷ []) = ap length a.is in
        omega (arith, is, more, many, length-append a.front (a.last ∷ []))))
      where
        front : a.front ≡ take n xs
        front =
            let many : length xs ≡ length (a.front ++ a.last ∷ []) = ap length a.is in
            let here : n ≡ length a.front = omega (arith, is, more, many, length-append a.front (a.last ∷ [])) in
            sym (ap (take n) a.is ∙ ap (λ (k : ℕ). take k (a.front ++ a.last ∷ [])) here ∙ take-append_seam a.front (a.last ∷ []))

        inner : Apart a.front → gone d root (behind d root e) (reverse ys) ≡ gone d root goes.Back (reverse xs)
        inner b =
            let turned : reverse a.front ≡ b.last ∷ reverse b.front = ap reverse b.is ∙ reverse-apart b.front b.last in
            let many : length xs ≡ length (a.front ++ a.last ∷ []) = ap length a.is in
            let fewer : length a.front ≡ length (b.front ++ b.last ∷ []) = ap length b.is in
            let there : m ≡ length b.front = omega (arith, is, more, before, many, fewer, length-append a.front (a.last ∷ []), length-append b.front (b.last ∷ [])) in
            let whole : xs ≡ b.front ++ b.last ∷ a.last ∷ [] = a.is ∙ ap (λ (zs : List Call). zs ++ a.last ∷ []) b.is ∙ append_assoc b.front (b.last ∷ []) (a.last ∷ []) in
            let same : e ≡ b.last = at ∙ ap (λ (zs : List Call). slice_index_or zs m e) whole ∙ ap (λ (k : ℕ). slice_index_or (b.front ++ b.last ∷ a.last ∷ []) k e) there
            ∙ get_or-append_seam b.front b.last (a.last ∷ []) e in
            ap (λ (zs : List Call). gone d root (behind d root e) (reverse zs)) (taken ∙ sym front)
            ∙ ap (λ (f : Call). gone d root (behind d root f) (reverse a.front)) same
            ∙ ap (gone d root (behind d root b.last)) turned
            ∙ sym (ap (gone d root goes.Back) (ap reverse a.is ∙ reverse-apart a.front a.last ∙ ap (λ (zs : List Call). a.last ∷ zs) turned))

pub label-at : (d : Shape) (root k n : ℕ) (xs : List Call) (c : Call) (code : Code) (g : Goes) (o : Option Instruction) → n ≡ length xs - 1
    → 0 < length xs → c ≡ slice_index_or xs n c → g ≡ goes.To k → code_of d root c.routine ≡ Some code → o ≡ slice_get code.instructions k
    → o ≡ option_and_then (instruction_of d root) (slice_get (gone d root g (reverse xs)) 0)
label-at d root k n xs c code g o is some at goes_to there found =
    found
    ∙ sym (ap (λ (x : Goes). option_and_then (instruction_of d root) (slice_get (gone d root x (reverse xs)) 0)) goes_to
    ∙ ap (option_and_then (instruction_of d root)) (label-to d root k n xs c is some at)
    ∙ ap (λ (x : Option Code). option_and_then (λ (e : Code). slice_get e.instructions k) x) there)

pub label-more : (d : Shape) (root n m : ℕ) (xs ys : List Call) (e : Call) (g h : Goes) (o : Option Instruction) → n ≡ length xs - 1 → 0 < n
    → m ≡ n - 1 → ys ≡ take n xs → e ≡ slice_index_or xs m e → h ≡ behind d root e → g ≡ goes.Back
    → o ≡ option_and_then (instruction_of d root) (slice_get (gone d root h (reverse ys)) 0)
    → o ≡ option_and_then (instruction_of d root) (slice_get (gone d root g (reverse xs)) 0)
label-more d root n m xs ys e g h o is more before taken at next back found =
    found
    ∙ ap (λ (x : Goes). option_and_then (instruction_of d root) (slice_get (gone d root x (reverse ys)) 0)) next
    ∙ ap (λ (cs : List Call). option_and_then (instruction_of d root) (slice_get cs 0)) (label-back d root n m xs ys e is more before taken at)
    ∙ sym (ap (λ (x : Goes). option_and_then (instruction_of d root) (slice_get (gone d root x (reverse xs)) 0)) back)

-- The innermost call is gone.
pub popped : (m n : ℕ) (xs ys : List Call) (o : Option Call) → xs ≡ ys ++ option_to_list o
    → MatchOption o ((m ≡ 0) × (n ≡ 0)) (λ _. n + 1 ≡ m) → n ≡ length ys → drop 1 (reverse xs) ≡ reverse ys
popped m n xs ys (Some x) is cases counted = ap (λ (zs : List Call). drop 1 (reverse zs)) is ∙ ap (λ (zs : List Call). drop 1 zs) (reverse-apart ys x)
popped m n xs [] None is cases counted = ap (λ (zs : List Call). drop 1 (reverse zs)) is
popped m n xs (y ∷ ys) None is cases counted = absurd (let none = cases.1 in omega (arith, none, counted))

-- What runs goes on running.
bodies-gone : (d : Shape) (root : ℕ) (g : Goes) (cs : List Call) → AllByRecursion (HasBody d) cs → AllByRecursion (HasBody d) (gone d root g cs)
unfolding gone
bodies-gone d root (goes.To k) [] all = tt
bodies-gone d root (goes.To k) (c ∷ cs) all = (all.0, all.1)
bodies-gone d root goes.Back [] all = tt
bodies-gone d root goes.Back (c ∷ []) all = tt
bodies-gone d root goes.Back (c ∷ e ∷ cs) all = bodies-gone d root (behind d root e) (e ∷ cs) all.1

-- A thread in the calls that it goes on in.
abbrev pub walked : Shape → Goes → Control → Control
walked d g t = record t { calls = gone d t.root g t.calls }

pub runs-on : (d : Shape) (g : Goes) (t : Control) → Runs d t → Runs d (walked d g t)
runs-on d g t runs = record { root = runs.root; calls = bodies-gone d t.root g t.calls runs.calls }

-- A repeat takes a turn.
pub turn-last : (n : ℕ) (xs : List Repeat) (r : Repeat) → n ≡ length xs - 1 → 0 < length xs → r ≡ slice_index_or xs n r → 0 < r.left
    → reverse (slice_set xs n (record r { left = r.left - 1 })) ≡ turned (reverse xs)
turn-last n xs r is some at more = by (apart xs some)
  where
    taken : (e : Repeat) → 0 < e.left → (es : List Repeat) → (let f : Repeat = record e { left = e.left - 1 } in f) ∷ es ≡ turned (e ∷ es)
    taken e more es =
        let test : nat_lt 0 e.left ≡ true = grind (arith, nat_tests) in
        sym (ap (λ (b : Bool). cond b ((let f : Repeat = record e { left = e.left - 1 } in f) ∷ es) es) test)

    by : Apart xs → reverse (slice_set xs n (record r { left = r.left - 1 })) ≡ turned (reverse xs)
    by a =
        let here : n ≡ length (a.front ++ a.last ∷ []) - 1 = is ∙ ap (λ (ys : List Repeat). length ys - 1) a.is in
        let same : r ≡ a.last = at ∙ ap (λ (ys : List Repeat). slice_index_or ys n r) a.is ∙ last-at a.front a.last r n here in
        ap (λ (ys : List Repeat). reverse (slice_set ys n (record r { left = r.left - 1 }))) a.is
        ∙ last-set a.front a.last (record r { left = r.left - 1 }) n here
        ∙ taken r more (reverse a.front)
        ∙ ap (λ (e : Repeat). turned (e ∷ reverse a.front)) same
        ∙ sym (ap turned (ap reverse a.is ∙ reverse-apart a.front a.last))

-- The outermost call that passes a test.
outermost-there : (test : Call → Bool) (xs : List Call) (y : Call) (ys : List Call) → outermost test (y ∷ ys) ≡ y ∷ ys
    → outermost test (xs ++ y ∷ ys) ≡ y ∷ ys
outermost-there test [] y ys is = is
outermost-there test (x ∷ xs) y ys is =
    ap (λ (zs : List Call). or_these zs (cond (test x) (x ∷ (xs ++ y ∷ ys)) [])) (outermost-there test xs y ys is)

taken-more : (xs : List Call) (k : ℕ) (d : Call) → k < length xs → reverse (take (k + 1) xs) ≡ slice_index_or xs k d ∷ reverse (take k xs)
taken-more xs k d within =
    ap reverse (take-add k 1 xs ∙ ap (λ (ys : List Call). take k xs ++ take 1 ys) (drop-cons xs k d within))
    ∙ reverse-apart (take k xs) (slice_index_or xs k d)

pub outermost-found : (test : Call → Bool) (xs : List Call) (k : ℕ) (d : Call) → k < length xs
    → outermost test (reverse (take k xs)) ≡ [] → test (slice_index_or xs k d) ≡ true
    → reverse (take (k + 1) xs) ≡ outermost test (reverse xs)
outermost-found test xs k d within none passes =
    let c : Call = slice_index_or xs k d in
    let here : outermost test (c ∷ reverse (take k xs)) ≡ c ∷ reverse (take k xs) =
    ap (λ (zs : List Call). or_these zs (cond (test c) (c ∷ reverse (take k xs)) [])) none
    ∙ ap (λ (b : Bool). cond b (c ∷ reverse (take k xs)) []) passes in
    taken-more xs k d within
    ∙ sym (ap (λ (ys : List Call). outermost test (reverse ys)) (sym (take-append-drop (k + 1) xs))
    ∙ ap (outermost test) (reverse-append (take (k + 1) xs) (drop (k + 1) xs))
    ∙ ap (λ (ys : List Call). outermost test (reverse (drop (k + 1) xs) ++ ys)) (taken-more xs k d within)
    ∙ outermost-there test (reverse (drop (k + 1) xs)) c (reverse (take k xs)) here)

-- What is left of the calls runs.
pub bodies-back : (d : Shape) (t : Control) (xs : List Call) → Runs d t → reverse xs ≡ t.calls → AllByRecursion (HasBody d) xs
bodies-back d t xs runs is = each-back (HasBody d) xs (subst (AllByRecursion (HasBody d)) (sym is) runs.calls)

pub runs-taken : (d : Shape) (t : Control) (root outer n : ℕ) (xs ys : List Call) (rs ss : List Repeat) (g h : Goes) → Runs d t
    → (let q : Control = record { root = root; outer = outer; calls = reverse xs; repeats = rs; goes = g } in q) ≡ t → ys ≡ take n xs
    → Runs d (record { root = root; outer = outer; calls = reverse ys; repeats = ss; goes = h })
runs-taken d t root outer n xs ys rs ss g h runs is taken = record {
  root = subst (λ (q : Control). q.root < length d.codes) (sym is) runs.root;
  calls = each-turned (HasBody d) ys (subst (AllByRecursion (HasBody d)) (sym taken)
      (each-taken (HasBody d) n xs (bodies-back d t xs runs (ap (λ (q : Control). q.calls) is))));
}

pub body-last : (d : Shape) (ys : List Call) (c : Call) → AllByRecursion (HasBody d) ys → 0 < length ys → c ≡ slice_index_or ys (length ys - 1) c
    → HasBody d c
body-last d ys c all some at = by (apart ys some)
  where
    by : Apart ys → HasBody d c
    by a =
        subst (HasBody d) (sym (at ∙ ap (λ (zs : List Call). slice_index_or zs (length zs - 1) c) a.is ∙ last-at a.front a.last c _ refl))
        (each-last (HasBody d) a.front a.last (subst (AllByRecursion (HasBody d)) a.is all))

-- The innermost of the calls that are left.
pub record Innermost (ys : List Call) (c : Call) : Type 0 where
  pub rest : List Call
  pub is : reverse ys ≡ c ∷ rest

pub innermost : (ys : List Call) (c : Call) → 0 < length ys → c ≡ slice_index_or ys (length ys - 1) c → Innermost ys c
innermost ys c some at = by (apart ys some)
  where
    by : Apart ys → Innermost ys c
    by a = record {
      rest = reverse a.front;
      is = ap reverse a.is ∙ reverse-apart a.front a.last
          ∙ ap (λ (e : Call). e ∷ reverse a.front) (sym (at ∙ ap (λ (zs : List Call). slice_index_or zs (length zs - 1) c) a.is ∙ last-at a.front a.last c _ refl));
    }

-- A thread leaves the task or block that is disabled.
pub stays : (d : Shape) (target : ℕ) (t : Control) (cs : List Call) → cs ≡ outermost (is_within d t.root target) t.calls → cs ≡ [] → t ≡ disabled d target t
stays d target t cs found none = sym (ap (left d target t) (sym found ∙ none))

pub leaves-task : (d : Shape) (target : ℕ) (t : Control) (cs : List Call) (c : Call) (rest : List Call)
    → cs ≡ outermost (is_within d t.root target) t.calls → cs ≡ c ∷ rest → is_call_of target c ≡ true → left_task d cs t ≡ disabled d target t
leaves-task d target t cs c rest found is task =
    ap (λ (ds : List Call). left_task d ds t) is
    ∙ sym (ap (left d target t) (sym found ∙ is)
    ∙ ap (λ (b : Bool). cond b (left_task d (c ∷ rest) t) (left_block d target (c ∷ rest) (blocks_of d t.root c) (block_around d t.root target c) t)) task)

pub leaves-block : (d : Shape) (target : ℕ) (t : Control) (cs : List Call) (c : Call) (rest : List Call)
    → cs ≡ outermost (is_within d t.root target) t.calls → cs ≡ c ∷ rest → is_call_of target c ≡ false
    → left_block d target cs (blocks_of d t.root c) (block_around d t.root target c) t ≡ disabled d target t
leaves-block d target t cs c rest found is other =
    ap (λ (ds : List Call). left_block d target ds (blocks_of d t.root c) (block_around d t.root target c) t) is
    ∙ sym (ap (left d target t) (sym found ∙ is)
    ∙ ap (λ (b : Bool). cond b (left_task d (c ∷ rest) t) (left_block d target (c ∷ rest) (blocks_of d t.root c) (block_around d t.root target c) t)) other)

abbrev pub control : ℕ → ℕ → List Call → List Repeat → Goes → Control
control root outer calls repeats goes = record { root = root; outer = outer; calls = calls; repeats = repeats; goes = goes }

-- The same as the code has them, from the outside in.
pub task-left : (d : Shape) (target root outer n : ℕ) (goes : Goes) (xs ys : List Call) (rs ss : List Repeat) (c : Call) (t : Control)
    → control root outer (reverse xs) (reverse rs) goes ≡ t → ys ≡ take n xs → n ≡ length ys
    → reverse (take n xs) ≡ outermost (is_within d root target) (reverse xs)
    → Innermost ys c → is_call_of target c ≡ true → ss ≡ filter (λ r. nat_lt r.depth n) rs
    → without_call d (control root outer (reverse ys) (reverse ss) goes) ≡ disabled d target t
task-left d target root outer n goes xs ys rs ss c t is taken many found inner task kept =
    ap (λ (zs : List Repeat). without_call d (control root outer (reverse ys) zs goes))
    (ap reverse kept ∙ filter-turned (λ r. nat_lt r.depth n) rs ∙ ap (λ (m : ℕ). filter (λ r. nat_lt r.depth m) (reverse rs)) (many ∙ sym (length-reverse ys)))
    ∙ leaves-task d target (control root outer (reverse xs) (reverse rs) goes) (reverse ys) c inner.rest (ap reverse taken ∙ found) inner.is task
    ∙ ap (disabled d target) is

pub block-left : (d : Shape) (target root outer n : ℕ) (goes : Goes) (xs ys : List Call) (rs ss : List Repeat) (c : Call) (t : Control) (bs : List Block) (b : Block)
    → control root outer (reverse xs) (reverse rs) goes ≡ t → ys ≡ take n xs → n ≡ length ys
    → reverse (take n xs) ≡ outermost (is_within d root target) (reverse xs)
    → Innermost ys c → is_call_of target c ≡ false → bs ≡ blocks_of d root c → Some b ≡ block_around d root target c
    → ss ≡ filter (λ r. not (repeats_within bs n target r)) rs
    → without_block b (control root outer (reverse ys) (reverse ss) goes) ≡ disabled d target t
block-left d target root outer n goes xs ys rs ss c t bs b is taken many found inner other blocks around kept =
    ap (λ (zs : List Repeat). without_block b (control root outer (reverse ys) zs goes))
    (ap reverse kept ∙ filter-turned (λ r. not (repeats_within bs n target r)) rs
    ∙ ap (λ (m : ℕ). filter (λ r. not (repeats_within bs m target r)) (reverse rs)) (many ∙ sym (length-reverse ys))
    ∙ ap (λ (cs : List Block). filter (λ r. not (repeats_within cs (length (reverse ys)) target r)) (reverse rs)) blocks)
    ∙ ap (λ (o : Option Block). left_block d target (reverse ys) (blocks_of d root c) o (control root outer (reverse xs) (reverse rs) goes)) around
    ∙ leaves-block d target (control root outer (reverse xs) (reverse rs) goes) (reverse ys) c inner.rest (ap reverse taken ∙ found) inner.is other
    ∙ ap (disabled d target) is

pub none-left : (d : Shape) (target root outer n : ℕ) (goes : Goes) (xs ys : List Call) (rs : List Repeat) (c : Call) (t : Control)
    → control root outer (reverse xs) (reverse rs) goes ≡ t → ys ≡ take n xs
    → reverse (take n xs) ≡ outermost (is_within d root target) (reverse xs)
    → Innermost ys c → is_call_of target c ≡ false → None ≡ block_around d root target c
    → control root outer (reverse ys) (reverse rs) goes ≡ disabled d target t
none-left d target root outer n goes xs ys rs c t is taken found inner other around =
    ap (λ (o : Option Block). left_block d target (reverse ys) (blocks_of d root c) o (control root outer (reverse xs) (reverse rs) goes)) around
    ∙ leaves-block d target (control root outer (reverse xs) (reverse rs) goes) (reverse ys) c inner.rest (ap reverse taken ∙ found) inner.is other
    ∙ ap (disabled d target) is

-- The calls up to the outermost, as the code has them.
pub record Cut (d : Shape) (target root n : ℕ) (xs ys : List Call) (c : Call) : Type 0 where
  pub taken : ys ≡ take n xs
  pub many : n ≡ length ys
  pub found : reverse (take n xs) ≡ outermost (is_within d root target) (reverse xs)
  pub inner : Innermost ys c

pub cut : (d : Shape) (target root n : ℕ) (xs ys zs ws : List Call) (c : Call) → ys ≡ take n xs → zs ≡ xs → n ≤ length zs
    → reverse (take n zs) ≡ outermost (is_within d root target) (reverse zs) → ws ≡ ys → 0 < length ws → c ≡ slice_index_or ws (length ws - 1) c
    → Cut d target root n xs ys c
cut d target root n xs ys zs ws c taken zs_is most found ws_is some at = record {
  taken = taken;
  many = sym (ap length taken ∙ length-take-le n xs (subst (λ (vs : List Call). n ≤ length vs) zs_is most));
  found = subst (λ (vs : List Call). reverse (take n vs) ≡ outermost (is_within d root target) (reverse vs)) zs_is found;
  inner = innermost ys c (subst (λ (vs : List Call). 0 < length vs) ws_is some) (at ∙ ap (λ (vs : List Call). slice_index_or vs (length vs - 1) c) ws_is);
}

pub body-cut : (d : Shape) (t : Control) (n : ℕ) (xs ys ws : List Call) (c : Call) → Runs d t → reverse xs ≡ t.calls → ys ≡ take n xs
    → ws ≡ ys → 0 < length ws → c ≡ slice_index_or ws (length ws - 1) c → HasBody d c
body-cut d t n xs ys ws c runs is taken ws_is some at =
    body-last d ws c
    (subst (AllByRecursion (HasBody d)) (sym (ws_is ∙ taken)) (each-taken (HasBody d) n xs (bodies-back d t xs runs is))) some at

pub task-cut : (d : Shape) (target root outer n : ℕ) (goes : Goes) (xs ys : List Call) (rs ss : List Repeat) (c : Call) (t : Control)
    → control root outer (reverse xs) (reverse rs) goes ≡ t → Cut d target root n xs ys c → is_call_of target c ≡ true
    → ss ≡ filter (λ r. nat_lt r.depth n) rs
    → without_call d (control root outer (reverse ys) (reverse ss) goes) ≡ disabled d target t
task-cut d target root outer n goes xs ys rs ss c t is k task kept =
    task-left d target root outer n goes xs ys rs ss c t is k.taken k.many k.found k.inner task kept

pub block-cut : (d : Shape) (target root outer n : ℕ) (goes : Goes) (xs ys : List Call) (rs ss : List Repeat) (c : Call) (t : Control) (code : Code) (bs : List Block) (b : Block)
    → control root outer (reverse xs) (reverse rs) goes ≡ t → Cut d target root n xs ys c → is_call_of target c ≡ false
    → code_of d root c.routine ≡ Some code → bs ≡ code.blocks → Some b ≡ block_around d root target c
    → ss ≡ filter (λ r. not (repeats_within bs n target r)) rs
    → without_block b (control root outer (reverse ys) (reverse ss) goes) ≡ disabled d target t
block-cut d target root outer n goes xs ys rs ss c t code bs b is k other there blocks around kept =
    block-left d target root outer n goes xs ys rs ss c t bs b is k.taken k.many k.found k.inner other
    (blocks ∙ sym (ap (λ (o : Option Code). unwrap_or (option_map (λ (e : Code). e.blocks) o) []) there)) around kept
