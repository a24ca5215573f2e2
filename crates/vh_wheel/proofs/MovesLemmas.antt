-- What holds of nodes that are moved, freed and put in.
use Rattle.std.proofs.Common.{◌≡◌, ℕ, zero, suc, ◌+◌, ◌/◌, ◌^◌, ◌<◌, ◌≤◌, ◌≢◌, List, [], ◌∷◌, ◌++◌, length, set, refl, ap, arith, ◌∙◌, sym, subst, Option, inl, inr}
use Rattle.std.proofs.lemmas.Bool.{cases_eq}
use Rattle.std.proofs.lemmas.List.{get_or-set_same, get_or-set_other, get_or_append_left, length-set, length-append}
use Rattle.std.proofs.Math.Seq.{get_or-append_seam, map-set_same}
use Rattle.vh_wheel.specs.declared.node.Node.{Node}
use Rattle.vh_wheel.specs.Schedule.{Entry, moves_of}
use Rattle.vh_wheel.specs.Views.{bucket_from, nowhere, node_at, bucket_at, with_bucket, entry_of, entries_of, HasPosition, ArePlaced, AreLater, IsMoving, AreMoving, moves_at, moves_of_all}
use Rattle.vh_wheel.proofs.TimesLemmas.{bucket-stays, level-falls, moves-of-bucket, bucket-now, same-bucket, other-bucket, same-level}
use Rattle.vh_wheel.proofs.NodesLemmas.{entry-moved, moves-set, moves-held}

-- A fact of each node, where one is another
pub nodes-set : (P : Node → Type 0) (ns : List Node) (x : ℕ) (n : Node) → x < length ns → P n
    → ((y : ℕ) → y < length ns → P (node_at ns y)) → (y : ℕ) → y < length (set ns x n) → P (node_at (set ns x n) y)
nodes-set P ns x n h p q y k =
    elim (cases_eq y x) [
      | inl e ↦ subst P (sym (ap (λ z. node_at (set ns x n) z) e ∙ get_or-set_same ns x n nowhere h)) p
      | inr e ↦ subst P (sym (get_or-set_other ns x y n nowhere e)) (q y (omega (arith, k, length-set ns x n)))
    ]

-- Or where there is one more
pub nodes-add : (P : Node → Type 0) (ns : List Node) (n : Node) → P n
    → ((y : ℕ) → y < length ns → P (node_at ns y)) → (y : ℕ) → y < length (ns ++ n ∷ []) → P (node_at (ns ++ n ∷ []) y)
nodes-add P ns n p q y k =
    let more : length (ns ++ n ∷ []) ≡ length ns + 1 = length-append ns (n ∷ []) in
    elim (cases_eq y (length ns)) [
      | inl e ↦ subst P (sym (ap (λ z. node_at (ns ++ n ∷ []) z) e ∙ get_or-append_seam ns n [] nowhere)) p
      | inr e ↦ let h : y < length ns = omega (arith, k, more, e) in subst P (sym (get_or_append_left ns (n ∷ []) nowhere y h)) (q y h)
    ]

pub entries-set : (ns : List Node) (x : ℕ) (n : Node) → entries_of (set ns x n) ≡ set (entries_of ns) x (entry_of n)
entries-set [] x n = refl
entries-set (m ∷ ns) zero n = refl
entries-set (m ∷ ns) (suc x) n = ap (λ (es : List (Option Entry)). entry_of m ∷ es) (entries-set ns x n)

pub entries-add : (ns : List Node) (n : Node) → entries_of (ns ++ n ∷ []) ≡ entries_of ns ++ entry_of n ∷ []
entries-add [] n = refl
entries-add (m ∷ ns) n = ap (λ (es : List (Option Entry)). entry_of m ∷ es) (entries-add ns n)

-- At a later present time the nodes of its bucket are to be moved
pub are-moving : (p t b : ℕ) (ns : List Node) → p ≤ t → AreLater t ns → ArePlaced p ns → b ≡ bucket_from 7 p t → 256 ≤ b → AreMoving t b ns
are-moving p t b ns h later placed is high x k held =
    let n : Node = node_at ns x in
    let position : HasPosition p n = placed x k held in
    let after : t ≤ n.time = later x k held in
    record {
      later = after;
      fits = position.fits;
      falls = λ e.
          let level = moves-of-bucket p n.time position.fits in
          let at : bucket_from 7 p n.time ≡ b = sym position.bucket ∙ e in
          let of_b : b / 256 ≡ moves_of p n.time = ap (λ m. m / 256) (sym at) ∙ level in
          elim (cases_eq n.time t) [
            | inl s ↦
                let none : moves_of t n.time ≡ 0 = same-level 6 t n.time (ap (λ m. m / 256) (sym s)) in
                omega (arith, none, high)
            | inr s ↦
                let falls = level-falls 7 p t n.time h after (at ∙ is) s in
                omega (arith, falls, of_b)
          ];
      moved = λ ne. position.bucket ∙ sym (bucket-stays 7 p t n.time h after (λ s. ne (position.bucket ∙ s ∙ sym is)));
    }

-- And where that is of the lowest level, all have their positions
settled : (p t u : ℕ) → p ≤ t → t ≤ u → u < 2 ^ 64 → bucket_from 7 p t < 256 → bucket_from 7 p u ≡ bucket_from 7 t u
settled p t u h l fits low =
    elim (cases_eq (bucket_from 7 p u) (bucket_from 7 p t)) [
      | inl same ↦
          elim (cases_eq u t) [
            | inl e ↦
                elim (cases_eq (p / 256) (t / 256)) [
                  | inl f ↦ same ∙ same-bucket 6 p t f ∙ sym (bucket-now t) ∙ ap (λ m. bucket_from 7 t m) (sym e)
                  | inr f ↦ absurd (omega (arith, other-bucket 6 p t f, low))
                ]
            | inr e ↦
                let falls = level-falls 7 p t u h l same e in
                let level : bucket_from 7 p u / 256 ≡ moves_of p u = moves-of-bucket p u fits in
                absurd (omega (arith, falls, level, same, low))
          ]
      | inr other ↦ sym (bucket-stays 7 p t u h l other)
    ]

pub are-settled : (p t : ℕ) (ns : List Node) → p ≤ t → AreLater t ns → ArePlaced p ns → bucket_from 7 p t < 256 → ArePlaced t ns
are-settled p t ns h later placed low x k held =
    let position = placed x k held in
    let after = later x k held in
    record {
      later = after;
      fits = position.fits;
      bucket = position.bucket ∙ settled p t (node_at ns x).time h after position.fits low;
    }

-- A node that is moved
pub moved-entries : (ns : List Node) (x b : ℕ) → bucket_at ns x ≢ 2048 → b ≢ 2048 → entries_of (set ns x (with_bucket b (node_at ns x))) ≡ entries_of ns
moved-entries ns x b h k = map-set_same entry_of ns x (with_bucket b (node_at ns x)) nowhere (entry-moved (node_at ns x) b h k)

pub moved-moving : (t from b x : ℕ) (ns : List Node) → AreMoving t from ns → x < length ns → bucket_at ns x ≡ from → from < 2048
    → b ≡ bucket_from 7 t (node_at ns x).time → AreMoving t from (set ns x (with_bucket b (node_at ns x)))
moved-moving t from b x ns all h at low is =
    let n : Node = node_at ns x in
    let held : n.bucket ≢ 2048 = λ e. omega (arith, e, at, low) in
    let m : IsMoving t from n = all x h held in
    nodes-set (λ (o : Node). o.bucket ≢ 2048 → IsMoving t from o) ns x (with_bucket b n) h
    (λ _. record {
      later = m.later;
      fits = m.fits;
      falls = λ e.
          let less = m.falls at in
          let level = moves-of-bucket t n.time m.fits in
          absurd (omega (arith, less, level, is, e));
      moved = λ _. is;
    })
    (λ y k. all y k)

pub moved-moves : (t from b x : ℕ) (ns : List Node) → AreMoving t from ns → x < length ns → bucket_at ns x ≡ from → from < 2048
    → b < 2048 → b ≡ bucket_from 7 t (node_at ns x).time → moves_of_all (set ns x (with_bucket b (node_at ns x))) < moves_of_all ns
moved-moves t from b x ns all h at low low_b is =
    let n : Node = node_at ns x in
    let held : n.bucket ≢ 2048 = λ e. omega (arith, e, at, low) in
    let held_b : b ≢ 2048 = λ e. omega (arith, e, low_b) in
    let m : IsMoving t from n = all x h held in
    let less = m.falls at in
    let level = moves-of-bucket t n.time m.fits in
    let total = moves-set ns x (with_bucket b n) h in
    let old : moves_at n ≡ from / 256 = moves-held n held ∙ ap (λ k. k / 256) at in
    let new : moves_at (with_bucket b n) ≡ b / 256 = moves-held (with_bucket b n) held_b in
    let of_b : b / 256 ≡ moves_of t n.time = ap (λ k. k / 256) is ∙ level in
    omega (arith, less, total, old, new, of_b)

-- A turn of the loop that moves them
pub moved-step : (t from b x : ℕ) (n : Node) (ns ks : List Node) → AreMoving t from ns → x < length ns → bucket_at ns x ≡ from → from < 2048
    → b < 2048 → n ≡ node_at ns x → b ≡ bucket_from 7 t n.time → ks ≡ set ns x (with_bucket b n)
    → (entries_of ks ≡ entries_of ns) × AreMoving t from ks × (moves_of_all ks < moves_of_all ns)
moved-step t from b x n ns ks all h at low low_b same is made =
    let now : b ≡ bucket_from 7 t (node_at ns x).time = is ∙ ap (λ (m : Node). bucket_from 7 t m.time) same in
    let made_of : ks ≡ set ns x (with_bucket b (node_at ns x)) = made ∙ ap (λ (m : Node). set ns x (with_bucket b m)) same in
    subst (λ (ls : List Node). (entries_of ls ≡ entries_of ns) × AreMoving t from ls × (moves_of_all ls < moves_of_all ns)) (sym made_of) (
      moved-entries ns x b (λ e. omega (arith, e, at, low)) (λ e. omega (arith, e, low_b)),
      moved-moving t from b x ns all h at low now,
      moved-moves t from b x ns all h at low low_b now,
    )
