-- Digits that are put into others, and values that are the same.
use Rattle.std.proofs.Common.{◌≡◌, ◌≢◌, ◌∙◌, ◌<◌, ◌≤◌, ◌+◌, ◌-◌, ◌++◌, ◌&&◌, ◌==◌, ℕ, zero, suc, Bool, true, false, cond, List, [], ◌∷◌, length, take, drop, min, Option, Some, None, refl, sym, ap, subst, arith}
use Rattle.std.proofs.Math.Seq.{take-length}
use Rattle.std.proofs.lemmas.Bool.{eqb-true, eq-eqb}
use Rattle.std.proofs.lemmas.List.{append-nil}
use Rattle.vh_design_nodes.proofs.FitsLemmas.{and_left, and_right}
use Rattle.vh_base.specs.declared.orders.Object.{Object}
use Rattle.vh_logic.specs.declared.digits.Digit.{Digit}
use Rattle.vh_logic.specs.declared.digits.Digit.TheVariants.{Zero, One, X, Z}
use Rattle.vh_logic.specs.Compare.{case_equality}
use Rattle.vh_logic.specs.Digit.{is_one}
use Rattle.vh_logic.specs.Parts.{part_of, replaced}
use Rattle.vh_logic.specs.Vector.{Vector, width_of}
use Rattle.vh_design_nodes.specs.Fits.{same_sign}
use Rattle.vh_design_code.specs.declared.change.Layer.{Layer}
use Rattle.vh_design_code.specs.declared.change.Layer.TheVariants as layer
use Rattle.vh_design_code.specs.declared.change.Made.{Made}
use Rattle.vh_design_code.specs.declared.change.Change.{Change}
use Rattle.vh_store.specs.declared.store.DriverPosition.{DriverPosition}
use Rattle.vh_design.specs.Shape.{Shape}
use Rattle.vh_store.specs.Contents.{Contents, shown, whole, put_at, is_forced, released, IsDriven, IsChange}
use Rattle.vh_store.proofs.ContentsLemmas.{same_values, equal_to_itself}
use Rattle.vh_proc_assign.specs.Assigned.{with_digits, with_piece, is_same_value, change_of, made_of, made_by, made_at, made_by_put}
use Rattle.vh_proc_assign.specs.Layers.{change_between, listed_change, layer_made, shown_made, release_made, with_follow, follow_made}
use Rattle.vh_proc_assign.specs.declared.piece.Piece.{Piece}

abbrev of_parts : List Digit → Bool → Vector
of_parts ds s = record { digits = ds; signed = s }

-- Digits put into others from their lowest position on, and from a position on.
put-lowest : (vs old : List Digit)
    → take (min (length vs) (length old)) vs ++ drop (min (length vs) (length old)) old ≡ take (length old) (vs ++ drop (length vs) old)
put-lowest [] old =
    ap (λ (n : ℕ). take n [] ++ drop n old) none ∙ sym (take-length old)
  where
    none : min 0 (length old) ≡ 0
    none = omega arith
put-lowest (v ∷ vs) [] = ap (λ (n : ℕ). take n (v ∷ vs) ++ drop n []) none
  where
    none : min (suc (length vs)) 0 ≡ 0
    none = omega arith
put-lowest (v ∷ vs) (d ∷ old) =
    ap (λ (n : ℕ). take n (v ∷ vs) ++ drop n (d ∷ old)) more ∙ ap (λ (ds : List Digit). v ∷ ds) (put-lowest vs old)
  where
    more : min (suc (length vs)) (suc (length old)) ≡ suc (min (length vs) (length old))
    more = omega arith

put-from : (low : ℕ) (vs old : List Digit) → low < length old
    → take low old ++ (take (min (length vs) (length old - low)) vs ++ drop (low + min (length vs) (length old - low)) old)
    ≡ take (length old) (take low old ++ (vs ++ drop (low + length vs) old))
put-from zero vs old some =
    ap (λ (m : ℕ). take (min (length vs) m) vs ++ drop (0 + min (length vs) m) old) all
    ∙ ap (λ (m : ℕ). take (min (length vs) (length old)) vs ++ drop m old) below
    ∙ put-lowest vs old ∙ ap (λ (m : ℕ). take (length old) (vs ++ drop m old)) above
  where
    all : length old - 0 ≡ length old
    all = omega arith

    below : 0 + min (length vs) (length old) ≡ min (length vs) (length old)
    below = omega arith

    above : length vs ≡ 0 + length vs
    above = omega arith
put-from (suc low) vs [] some = absurd (omega (arith, some))
put-from (suc low) vs (d ∷ old) some =
    ap (λ (m : ℕ). d ∷ (take low old ++ (take (min (length vs) m) vs ++ drop (suc low + min (length vs) m) (d ∷ old)))) less
    ∙ ap (λ (m : ℕ). d ∷ (take low old ++ (take (min (length vs) (length old - low)) vs ++ drop m (d ∷ old)))) (one-more (min (length vs) (length old - low)))
    ∙ ap (λ (ds : List Digit). d ∷ ds) (put-from low vs old (omega arith))
    ∙ ap (λ (m : ℕ). d ∷ take (length old) (take low old ++ (vs ++ drop m (d ∷ old)))) (sym (one-more (length vs)))
  where
    less : suc (length old) - suc low ≡ length old - low
    less = omega arith

    one-more : (n : ℕ) → suc low + n ≡ suc (low + n)
    one-more n = omega arith

pub some-put : (old v part new : Vector) (low there : ℕ) → low < width_of old → there ≡ min (width_of v) (width_of old - low)
    → part ≡ part_of v 0 there → width_of part ≡ there → new ≡ replaced old low part → new ≡ with_digits old low v
some-put old v part new low there inside is part_is wide new_is =
    new_is
    ∙ ap (λ (ds : List Digit). of_parts ds old.signed)
    (ap (λ (ds : List Digit). take low old.digits ++ (ds ++ drop (low + width_of part) old.digits)) (ap (λ (v : Vector). v.digits) part_is)
    ∙ ap (λ (n : ℕ). take low old.digits ++ (take there v.digits ++ drop (low + n) old.digits)) wide
    ∙ ap (λ (n : ℕ). take low old.digits ++ (take n v.digits ++ drop (low + n) old.digits)) is
    ∙ put-from low v.digits old.digits inside)

-- A value is the same as itself, and as no other.
same-number : (n : ℕ) → (n == n) ≡ true
same-number n = eq-eqb n n refl

same-signs : (b : Bool) → same_sign b b ≡ true
same-signs true = refl
same-signs false = refl

signs-alike : (a b : Bool) → same_sign a b ≡ true → a ≡ b
signs-alike true true h = refl
signs-alike true false h = cc
signs-alike false true h = cc
signs-alike false false h = refl

digit-one : (d : Digit) → is_one d ≡ true → d ≡ One
digit-one Zero h = cc
digit-one One h = refl
digit-one X h = cc
digit-one Z h = cc

same-as-itself : (v : Vector) → is_same_value v v ≡ true
same-as-itself v = rw (same-number (width_of v), same-signs v.signed, equal_to_itself v) refl

same-as-no-other : (a b : Vector) → is_same_value a b ≡ true → a ≡ b
same-as-no-other a b h =
    let shapes = and_left (width_of a == width_of b && same_sign a.signed b.signed) (is_one (case_equality a b)) h in
    let digits = and_right (width_of a == width_of b && same_sign a.signed b.signed) (is_one (case_equality a b)) h in
    let wide = and_left (width_of a == width_of b) (same_sign a.signed b.signed) shapes in
    let sign = and_right (width_of a == width_of b) (same_sign a.signed b.signed) shapes in
    same_values a b (eqb-true (width_of a) (width_of b) wide) (signs-alike a.signed b.signed sign) (digit-one (case_equality a b) digits)

-- What is made of an object that shows the same, and of one that doesn't.
pub none-made : (o : Object) (old new : Vector) → old ≡ new → made_of o old new ≡ []
none-made o old new is = ap (made_of o old) (sym is) ∙ ap (λ (b : Bool). cond b [] (record { object = o; change = Some (change_of o old old); layer = layer.Plain } ∷ [])) (same-as-itself old)

pub one-made : (o : Object) (old new : Vector) → old ≢ new
    → made_of o old new ≡ record { object = o; change = Some (change_of o old new); layer = layer.Plain } ∷ []
one-made o old new other = by (is_same_value old new) refl
  where
    by : (b : Bool) → is_same_value old new ≡ b → made_of o old new ≡ record { object = o; change = Some (change_of o old new); layer = layer.Plain } ∷ []
    by true is = absurd (other (same-as-no-other old new is))
    by false is = ap (λ (b : Bool). cond b [] (record { object = o; change = Some (change_of o old new); layer = layer.Plain } ∷ [])) is

-- What was noted behind a piece that was taken.
abbrev made : Object → Change → Made
made o c = record { object = o; change = Some c; layer = layer.Plain }

pub none-noted : (p : Piece) (s t : Contents) (ms : List Made) → t ≡ with_piece p s → shown s p.object ≡ shown t p.object → ms ≡ ms ++ made_by p s
none-noted p s t ms is same =
    sym (ap (λ (es : List Made). ms ++ es)
    (ap (λ (u : Contents). made_of p.object (shown s p.object) (shown u p.object)) (sym is) ∙ none-made p.object (shown s p.object) (shown t p.object) same)
    ∙ append-nil ms)

pub one-noted : (p : Piece) (s t : Contents) (ms ns : List Made) (c : Change) → t ≡ with_piece p s
    → c ≡ change_of p.object (shown s p.object) (shown t p.object) → shown s p.object ≢ shown t p.object → ns ≡ ms ++ made p.object c ∷ []
    → ns ≡ ms ++ made_by p s
one-noted p s t ms ns c is change other noted =
    noted
    ∙ ap (λ (es : List Made). ms ++ es)
    (ap (λ (e : Change). made p.object e ∷ []) change ∙ sym (one-made p.object (shown s p.object) (shown t p.object) other)
    ∙ ap (λ (u : Contents). made_of p.object (shown s p.object) (shown u p.object)) is)

-- What was noted behind a driver that took a value.
pub none-driven : (o : Option DriverPosition) (s t u : Contents) (ms : List Made) → t ≡ u → IsDriven o s t None → ms ≡ ms ++ made_at o s u
none-driven None s t u ms is none = sym (append-nil ms)
none-driven (Some p) s t u ms is same =
    sym (ap (λ (es : List Made). ms ++ es)
    (ap (λ (w : Contents). made_of (whole p.object) (shown s (whole p.object)) (shown w (whole p.object))) (sym is)
    ∙ none-made (whole p.object) (shown s (whole p.object)) (shown t (whole p.object)) same)
    ∙ append-nil ms)

pub one-driven : (o : Option DriverPosition) (s t u : Contents) (ms ns : List Made) (c : Change) → t ≡ u → IsDriven o s t (Some c)
    → ns ≡ ms ++ made c.object c ∷ [] → ns ≡ ms ++ made_at o s u
one-driven None s t u ms ns c is none noted = absurd (cc)
one-driven (Some p) s t u ms ns c is told noted =
    noted
    ∙ ap (λ (es : List Made). ms ++ es)
    (ap (λ (e : Change). made e.object e ∷ []) told.0
    ∙ sym (one-made (whole p.object) (shown s (whole p.object)) (shown t (whole p.object)) told.1)
    ∙ ap (λ (w : Contents). made_of (whole p.object) (shown s (whole p.object)) (shown w (whole p.object))) is)

-- What is told of an object by its change.
pub change-is : (o : Object) (old new : Vector) (c : Option Change) → IsChange o old new c → c ≡ change_between o old new
change-is o old new None same =
    sym (ap (λ (b : Bool). cond b None (Some (change_of o old new))) (subst (λ (v : Vector). is_same_value old v ≡ true) same (same-as-itself old)))
change-is o old new (Some c) told = by (is_same_value old new) refl
  where
    by : (b : Bool) → is_same_value old new ≡ b → Some c ≡ change_between o old new
    by true is = absurd (told.1 (same-as-no-other old new is))
    by false is = ap Some told.0 ∙ sym (ap (λ (b : Bool). cond b None (Some (change_of o old new))) is)

pub listed-is : (o : ℕ) (old new : Vector) (c : Option Change) → IsChange (whole o) old new c → listed_change o c ≡ made_of (whole o) old new
listed-is o old new None same = sym (none-made (whole o) old new same)
listed-is o old new (Some c) told =
    ap (λ (e : Change). made (whole o) e ∷ []) told.0 ∙ sym (one-made (whole o) old new told.1)

-- What was told behind a force or a release, and behind an assign.
pub layer-told : (l : Layer) (o : ℕ) (s t u : Contents) (c : Option Change) (ms ns : List Made) → t ≡ u
    → IsChange (whole o) (shown s (whole o)) (shown t (whole o)) c → ns ≡ ms ++ record { object = whole o; change = c; layer = l } ∷ []
    → ns ≡ ms ++ layer_made l o s u
layer-told l o s t u c ms ns is change told =
    told ∙ ap (λ (d : Option Change). ms ++ record { object = whole o; change = d; layer = l } ∷ []) (change-is (whole o) (shown s (whole o)) (shown t (whole o)) c change)
    ∙ ap (λ (w : Contents). ms ++ layer_made l o s w) is

pub change-told : (o : ℕ) (s t u : Contents) (c : Option Change) (ms ns : List Made) → t ≡ u
    → IsChange (whole o) (shown s (whole o)) (shown t (whole o)) c → ns ≡ ms ++ listed_change o c → ns ≡ ms ++ shown_made o s u
change-told o s t u c ms ns is change told =
    told ∙ ap (λ (es : List Made). ms ++ es) (listed-is o (shown s (whole o)) (shown t (whole o)) c change)
    ∙ ap (λ (w : Contents). ms ++ shown_made o s w) is

pub release-told : (o : ℕ) (s t u : Contents) (c : Option Change) (ms ns : List Made) → is_forced s o ≡ true → t ≡ u
    → IsChange (whole o) (shown s (whole o)) (shown t (whole o)) c → ns ≡ ms ++ record { object = whole o; change = c; layer = layer.Release } ∷ []
    → u ≡ released o s → ns ≡ ms ++ release_made o s
release-told o s t u c ms ns held is change told after =
    layer-told layer.Release o s t (released o s) c ms ns (is ∙ after) change told
    ∙ sym (ap (λ (x : Bool). ms ++ cond x (layer_made layer.Release o s (released o s)) []) held)

-- Nothing is told behind a follow that does nothing.
pub nothing-followed : (force : Bool) (d : Shape) (o : ℕ) (s : Contents) (ms : List Made) → with_follow force d o s ≡ s
    → ms ≡ ms ++ follow_made force d o s
nothing-followed force d o s ms same =
    sym (ap (λ (es : List Made). ms ++ es)
    (ap (λ (t : Contents). shown_made o s t) same ∙ none-made (whole o) (shown s (whole o)) (shown s (whole o)) refl)
    ∙ append-nil ms)

-- What was noted behind a put.
pub no-put-noted : (o : Object) (v : Vector) (s t : Contents) (ms : List Made) → t ≡ put_at o v s → shown s o ≡ shown t o → ms ≡ ms ++ made_by_put o v s
no-put-noted o v s t ms is same =
    sym (ap (λ (es : List Made). ms ++ es)
    (ap (λ (u : Contents). made_of o (shown s o) (shown u o)) (sym is) ∙ none-made o (shown s o) (shown t o) same)
    ∙ append-nil ms)

pub put-noted : (o : Object) (v : Vector) (s t : Contents) (ms ns : List Made) (c : Change) → t ≡ put_at o v s
    → c ≡ change_of o (shown s o) (shown t o) → shown s o ≢ shown t o → ns ≡ ms ++ record { object = c.object; change = Some c; layer = layer.Plain } ∷ []
    → ns ≡ ms ++ made_by_put o v s
put-noted o v s t ms ns c is change other noted =
    noted
    ∙ ap (λ (es : List Made). ms ++ es)
    (ap (λ (e : Change). record { object = e.object; change = Some e; layer = layer.Plain } ∷ []) change ∙ sym (one-made o (shown s o) (shown t o) other)
    ∙ ap (λ (u : Contents). made_of o (shown s o) (shown u o)) is)
