-- What holds of the words that say which buckets have nodes.
use Rattle.std.proofs.Common.{◌≡◌, ◌≢◌, ℕ, ◌+◌, ◌*◌, ◌<◌, ◌/◌, ◌%◌, ◌^◌, List, [], ◌∷◌, ◌++◌, length, set, replicate, true, false, Option, Some, None, w64, arith, refl, ap, ◌∙◌, sym, subst, inl, inr}
use Rattle.std.specs.Prelude.{slice_index_or, is_some}
use Rattle.std.specs.Int.{bit_at, trailing_zeros}
use Rattle.std.specs.List.{slice_get}
use Rattle.std.proofs.lemmas.Bool.{cases_lt, cases_eq}
use Rattle.std.proofs.lemmas.Nat.Bits.{bit_at-trailing_zeros}
use Rattle.vh_links.specs.Lists.{Lists, has, without, list_of, after_add, after_push, after_unlink}
use Rattle.vh_links.proofs.ListsLemmas.{get_or-copies, length-mapped, without-none, has-cases}
use Rattle.vh_links.proofs.ViewsLemmas.{list_of-unlink}
use Rattle.vh_wheel.specs.declared.node.Node.{Node}
use Rattle.vh_wheel.specs.declared.occupied.Occupied.{Occupied}
use Rattle.vh_wheel.specs.Views.{bucket_at, Lies, flag_at, flag_of, list_flag, IsFirstFlag, AreFlagged, IsKept, AreFrom}
use Rattle.vh_wheel.proofs.LiesLemmas.{pushed-has, list_of-others, first-of, lies-new, lies-put, lies-add}

-- The bit of a bucket, by its word and its position in the word
flag-in : (o : Occupied) (b p i : ℕ) → b / 64 ≡ p → b % 64 ≡ i → flag_at o b ≡ bit_at (slice_index_or o.words p 0) i
flag-in o b p i e f = ap (λ q. bit_at (slice_index_or o.words q 0) (b % 64)) e ∙ ap (λ r. bit_at (slice_index_or o.words p 0) r) f

-- The lowest bit of the first word that has one
pub first-flag : (o : Occupied) (p : ℕ) → p < 32 → 0 < slice_index_or o.words p 0 → slice_index_or o.words p 0 < 2 ^ 64
    → ((b : ℕ) → b < 64 * p → flag_at o b ≡ 0) → IsFirstFlag o (64 * p + trailing_zeros w64 (slice_index_or o.words p 0))
first-flag o p h some fits before =
    let word : ℕ = slice_index_or o.words p 0 in
    let lowest = bit_at-trailing_zeros w64 word some fits in
    let t : ℕ = trailing_zeros w64 word in
    let small : t < 64 = lowest.0 in
    record {
      low = omega (arith, h, small);
      there = flag-in o (64 * p + t) p t (omega (arith, small)) (omega (arith, small)) ∙ lowest.1;
      first = λ c less.
          elim (cases_lt c (64 * p)) [
            | inl l ↦ before c l
            | inr l ↦ flag-in o c p (c % 64) (omega (arith, l, less, small)) refl ∙ lowest.2 (c % 64) (omega (arith, l, less, small))
          ];
    }

-- No bit yet, and no node
pub kept-new : (o : Occupied) (s : Lists) (ns : List Node) → s ≡ record { lists = replicate 2049 []; nodes = 0 } → ns ≡ []
    → ((b : ℕ) → flag_at o b ≡ 0) → IsKept o s ns
kept-new o s ns is none all =
    subst (λ (u : Lists). IsKept o u ns) (sym is) (subst (λ (ms : List Node). IsKept o (record { lists = replicate 2049 []; nodes = 0 }) ms) (sym none)
    (record {
      lies = lies-new;
      flags = λ b h. all b ∙ ap (λ (xs : List ℕ). flag_of (is_some (slice_get xs 0))) (sym (get_or-copies 2049 [] b));
    }))

-- A list that is as it was
same-flag : (b : ℕ) (s u : Lists) → list_of b u ≡ list_of b s → list_flag b s ≡ list_flag b u
same-flag b s u e = ap (λ (xs : List ℕ). flag_of (is_some (slice_get xs 0))) (sym e)

-- A list with a node has its bit
has-flag : (xs : List ℕ) (x : ℕ) → has x xs ≡ true → flag_of (is_some (slice_get xs 0)) ≡ 1
has-flag [] x h = cc
has-flag (y ∷ ys) x h = refl

pub pushed-flag : (b x : ℕ) (s u : Lists) → b < length s.lists → u ≡ after_push b x s → list_flag b u ≡ 1
pushed-flag b x s u h is = has-flag (list_of b u) x (ap (λ (v : Lists). has x (list_of b v)) is ∙ pushed-has b x s h)

-- The bit of a node's bucket is set, also after another one was
pub flag-there : (s : Lists) (ns : List Node) (o q : Occupied) (x f b : ℕ) → IsKept o s ns → x < length ns → f ≡ bucket_at ns x
    → flag_at q b ≡ 1 → ((c : ℕ) → c ≢ b → flag_at q c ≡ flag_at o c) → flag_at q f ≡ 1
flag-there s ns o q x f b k h from there others =
    elim (cases_eq f b) [
      | inl e ↦ ap (λ c. flag_at q c) e ∙ there
      | inr e ↦
          let low : f < 2049 = omega (arith, from, k.lies.bound x h) in
          let has_it : has x (list_of f s) ≡ true = ap (λ c. has x (list_of c s)) from ∙ k.lies.whole x h in
          others f e ∙ k.flags f low ∙ has-flag (list_of f s) x has_it
    ]

-- The bits after a node was put into another bucket
flags-put : (s : Lists) (ns : List Node) (o q r : Occupied) (x f b : ℕ) (u : Lists) → Lies s ns → AreFlagged o s → f ≡ bucket_at ns x → b < 2049
    → u ≡ after_push b x (after_unlink x s)
    → flag_at q b ≡ 1 → ((c : ℕ) → c ≢ b → flag_at q c ≡ flag_at o c)
    → flag_at r f ≡ list_flag f u → ((c : ℕ) → c ≢ f → flag_at r c ≡ flag_at q c) → AreFlagged r u
flags-put s ns o q r x f b u l flags from low is there_b others_b there_f others_f c h =
    elim (cases_eq c f) [
      | inl e ↦ subst (λ d. flag_at r d ≡ list_flag d u) (sym e) there_f
      | inr e ↦
          elim (cases_eq c b) [
            | inl k ↦
                let within : b < length (after_unlink x s).lists = omega (arith, low, length-mapped (without x) s.lists, l.count) in
                others_f c e ∙ ap (λ d. flag_at q d) k ∙ there_b ∙ sym (pushed-flag b x (after_unlink x s) u within is) ∙ ap (λ d. list_flag d u) (sym k)
            | inr k ↦
                let lacks : has x (list_of c s) ≡ false =
                has-cases (has x (list_of c s) ≡ false) x (list_of c s) (λ y. absurd (e (sym (from ∙ (l.sound c x y).1)))) (λ y. y) in
                let rest : list_of c u ≡ list_of c s =
                ap (λ (v : Lists). list_of c v) is ∙ list_of-others b x c (after_unlink x s) k ∙ list_of-unlink x s c ∙ without-none x (list_of c s) lacks in
                others_f c e ∙ others_b c k ∙ flags c h ∙ same-flag c s u rest
          ]
    ]

pub kept-put : (s : Lists) (ns : List Node) (o q r : Occupied) (x f : ℕ) (n : Node) (u : Lists) → IsKept o s ns → x < length ns → n.bucket < 2049
    → f ≡ bucket_at ns x → u ≡ after_push n.bucket x (after_unlink x s)
    → flag_at q n.bucket ≡ 1 → ((c : ℕ) → c ≢ n.bucket → flag_at q c ≡ flag_at o c)
    → flag_at r f ≡ list_flag f u → ((c : ℕ) → c ≢ f → flag_at r c ≡ flag_at q c) → IsKept r u (set ns x n)
kept-put s ns o q r x f n u k h low from is there_b others_b there_f others_f =
    record {
      lies = subst (λ (v : Lists). Lies v (set ns x n)) (sym is) (lies-put s ns x n k.lies h low);
      flags = flags-put s ns o q r x f n.bucket u k.lies k.flags from low is there_b others_b there_f others_f;
    }

-- And after one more was put into a bucket
flags-add : (s : Lists) (o q : Occupied) (x b : ℕ) (u : Lists) → AreFlagged o s → b < length s.lists → u ≡ after_push b x (after_add s)
    → flag_at q b ≡ 1 → ((c : ℕ) → c ≢ b → flag_at q c ≡ flag_at o c) → AreFlagged q u
flags-add s o q x b u flags within is there others c h =
    elim (cases_eq c b) [
      | inl e ↦ subst (λ d. flag_at q d ≡ list_flag d u) (sym e) (there ∙ sym (pushed-flag b x (after_add s) u within is))
      | inr e ↦ others c e ∙ flags c h ∙ same-flag c s u (ap (λ (v : Lists). list_of c v) is ∙ list_of-others b x c (after_add s) e)
    ]

pub kept-add : (s : Lists) (ns ms : List Node) (o q : Occupied) (x : ℕ) (n : Node) (u : Lists) → IsKept o s ns → length ns < 2147483648 → n.bucket < 2049
    → x ≡ length ns → u ≡ after_push n.bucket x (after_add s) → ms ≡ ns ++ n ∷ []
    → flag_at q n.bucket ≡ 1 → ((c : ℕ) → c ≢ n.bucket → flag_at q c ≡ flag_at o c) → IsKept q u ms
kept-add s ns ms o q x n u k room low number is more there others =
    record {
      lies =
          subst (λ (v : Lists). Lies v ms) (sym (is ∙ ap (λ y. after_push n.bucket y (after_add s)) number))
          (subst (λ (ks : List Node). Lies (after_push n.bucket (length ns) (after_add s)) ks) (sym more) (lies-add s ns n k.lies room low));
      flags = flags-add s o q x n.bucket u k.flags (omega (arith, low, k.lies.count)) is there others;
    }

-- No node stands before the first bit
pub from-first : (o : Occupied) (s : Lists) (ns : List Node) (b : ℕ) → IsKept o s ns → ((c : ℕ) → c < b → flag_at o c ≡ 0) → AreFrom b ns
from-first o s ns b k first x h =
    elim (cases_lt (bucket_at ns x) b) [
      | inl l ↦
          let none = first (bucket_at ns x) l in
          let some = k.flags (bucket_at ns x) (k.lies.bound x h) ∙ has-flag (list_of (bucket_at ns x) s) x (k.lies.whole x h) in
          absurd (omega (arith, none, some))
      | inr l ↦ l
    ]

-- The first node of the first bucket
pub first-held : (o : Occupied) (s : Lists) (ns : List Node) (b : ℕ) (r : Option ℕ) → IsKept o s ns → IsFirstFlag o b → r ≡ slice_get (list_of b s) 0
    → (x : ℕ) × (r ≡ Some x) × (x < length ns) × (bucket_at ns x ≡ b) × AreFrom b ns
first-held o s ns b None k first is =
    absurd (omega (arith, first.there, k.flags b (omega (arith, first.low)), ap (λ (p : Option ℕ). flag_of (is_some p)) is))
first-held o s ns b (Some x) k first is =
    let at = first-of s ns b (Some x) k.lies is in
    (x, refl, at.0, at.1, from-first o s ns b k first.first)
