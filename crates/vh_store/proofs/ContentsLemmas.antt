-- Lemmas on `specs/Contents.antt`: one record among many, an answer that no call waits for, and when two values are
-- the same.
use Rattle.std.proofs.Common.{◌≡◌, ◌∙◌, ◌≤◌, ℕ, List, [], ◌∷◌, map, length, take, ◌+◌, ◌++◌, Bool, true, false, cond, ◌&&◌, ◌==◌, Option, Some, None, slice_get, slice_set, refl, ap, sym, drop, arith}
use Rattle.std.specs.List.{fold}
use Rattle.std.proofs.lemmas.List.{at_drop_more, map-set, map-append, take_more}
use Rattle.std.proofs.lemmas.Bool.Decides.{nat_tests}
use Rattle.std.proofs.lemmas.Option.{slice_get-map, slice_get_past, slice_get_within, get_or_from_slice_get}
use Rattle.vh_design_nodes.proofs.FitsLemmas.{and_left, and_right}
use Rattle.std.specs.Map.{lookup, set_value}
use Rattle.vh_logic.specs.declared.digits.Digit.{Digit}
use Rattle.vh_logic.specs.declared.digits.Digit.TheVariants.{Zero, One, X, Z}
use Rattle.vh_logic.specs.Digit.{is_same, test_digit}
use Rattle.vh_logic.specs.Compare.{case_equality}
use Rattle.vh_logic.specs.Vector.{Vector, width_of, all_positions}
use Rattle.vh_logic.proofs.Tables.{same_digit}
use Rattle.vh_design_nodes.specs.Fits.{same_sign}
use Rattle.vh_store.specs.declared.record.Record.{Record as Kept}
use Rattle.vh_store.specs.Contents.{Record, with_record, same_value}
use Rattle.vh_design_nodes.specs.declared.driver.DriverInfo.{DriverInfo}
use Rattle.vh_store.specs.Opening.{count_at, Wired, wired}
use Rattle.vh_store.specs.Views.{record_of}

-- The record of a number becomes another.
pub put_record : (rs : List Kept) (o : ℕ) (r new : Kept) (change : Record → Record) → slice_get rs o ≡ Some r
    → record_of new ≡ change (record_of r)
    → map record_of (slice_set rs o new) ≡ with_record (slice_get (map record_of rs) o) o change (map record_of rs)
put_record rs o r new change found is =
    rw (slice_get-map record_of rs o, found) (map-set record_of rs o new ∙ ap (λ (t : Record). slice_set (map record_of rs) o t) is)

pub no_count : (rs : List Kept) (o : ℕ) → length rs ≤ o → 0 ≡ count_at (slice_get (map record_of rs) o)
no_count rs o past = rw (slice_get-map record_of rs o, slice_get_past rs o past) refl

-- A key that isn't there keeps the entries as they are.
absent_by : {X : Type 0} (b : Bool) (x : X) (o : Option X) → cond b (Some x) o ≡ None → b ≡ false
absent_by true x o h = cc
absent_by false x o h = refl

absent_behind : {X : Type 0} (b : Bool) (x : X) (o : Option X) → cond b (Some x) o ≡ None → o ≡ None
absent_behind true x o h = cc
absent_behind false x o h = h

pub set_absent : {K X : Type 0} (test : K → Bool) (es : List (K × X)) (w : X) → lookup test es ≡ None → set_value test es w ≡ es
set_absent test [] w h = refl
set_absent {K = K} {X = V} test (e ∷ es) w h =
    rw (absent_by (test e.0) e.1 (lookup test es) h) (ap (λ (t : List (K × V)). e ∷ t) (set_absent test es w (absent_behind (test e.0) e.1 (lookup test es) h)))

same_itself : (d : Digit) → is_same d d ≡ true
same_itself Zero = refl
same_itself One = refl
same_itself X = refl
same_itself Z = refl

same_digits : (ds es : List Digit) → length ds ≡ length es → all_positions is_same ds es ≡ true → ds ≡ es
unfolding all_positions
same_digits [] [] len h = refl
same_digits [] (e ∷ es) len h = cc
same_digits (d ∷ ds) [] len h = cc
same_digits (d ∷ ds) (e ∷ es) len h =
    ap (λ (x : Digit). x ∷ ds) (same_digit d e (and_left (is_same d e) (all_positions is_same ds es) h))
    ∙ ap (λ (xs : List Digit). e ∷ xs) (same_digits ds es (omega arith) (and_right (is_same d e) (all_positions is_same ds es) h))

all_same : (ds : List Digit) → all_positions is_same ds ds ≡ true
unfolding all_positions
all_same [] = refl
all_same (d ∷ ds) = rw (same_itself d, all_same ds) refl

abbrev of_parts : List Digit → Bool → Vector
of_parts ds s = record { digits = ds; signed = s }

test_one : (b : Bool) → test_digit b ≡ One → b ≡ true
test_one true h = refl
test_one false h = cc

-- Two values of one width and sign are the same where they compare as the same.
pub same_values : (a b : Vector) → width_of a ≡ width_of b → a.signed ≡ b.signed → case_equality a b ≡ One → a ≡ b
same_values a b len sign one =
    ap (λ (ds : List Digit). of_parts ds a.signed) (same_digits a.digits b.digits len (test_one (all_positions is_same a.digits b.digits) one))
    ∙ ap (λ (s : Bool). of_parts b.digits s) sign

pub equal_to_itself : (a : Vector) → case_equality a a ≡ One
equal_to_itself a = rw (all_same a.digits) refl

sign_is : (a b : Bool) → same_sign a b ≡ true → a ≡ b
sign_is true true h = refl
sign_is false false h = refl
sign_is true false h = cc
sign_is false true h = cc

sign_itself : (a : Bool) → same_sign a a ≡ true
sign_itself true = refl
sign_itself false = refl

width_is : (m n : ℕ) → (m == n) ≡ true → m ≡ n
width_is m n h = grind (arith, nat_tests)

width_itself : (n : ℕ) → (n == n) ≡ true
width_itself n = grind (arith, nat_tests)

-- The test of two values says whether they are one.
pub value_is : (a b : Vector) → same_value a b ≡ true → a ≡ b
value_is a b h =
    let w = width_of a == width_of b in
    let g = same_sign a.signed b.signed in
    let ds = all_positions is_same a.digits b.digits in
    let len = width_is (width_of a) (width_of b) (and_left w g (and_left (w && g) ds h)) in
    let sign = sign_is a.signed b.signed (and_right w g (and_left (w && g) ds h)) in
    ap (λ (ds : List Digit). of_parts ds a.signed) (same_digits a.digits b.digits len (and_right (w && g) ds h))
    ∙ ap (λ (s : Bool). of_parts b.digits s) sign

pub value_itself : (a : Vector) → same_value a a ≡ true
value_itself a = rw (width_itself (width_of a), sign_itself a.signed, all_same a.digits) refl

-- One element more, and its image.
pub one_more : {A B : Type 0} (f : A → B) (xs : List A) (i : ℕ) (x : A) (ys : List B) → slice_get xs i ≡ Some x
    → ys ≡ map f (take i xs) → ys ++ f x ∷ [] ≡ map f (take (i + 1) xs)
one_more f xs i x ys there is =
    rw (take_more xs i x (slice_get_within xs i x there), get_or_from_slice_get xs i x x there, map-append f (take i xs) (x ∷ []))
    (ap (λ t. t ++ f x ∷ []) is)

-- One driver more has come to its net.
pub wired_more : (w v all : Wired) (xs : List DriverInfo) (i : ℕ) (x : DriverInfo) → slice_get xs i ≡ Some x
    → wired w x ≡ v → fold wired w (drop i xs) ≡ all → fold wired v (drop (i + 1) xs) ≡ all
wired_more w v all xs i x there is before =
    ap (λ (u : Wired). fold wired u (drop (i + 1) xs)) (sym is)
    ∙ ap (λ (y : DriverInfo). fold wired w (y ∷ drop (i + 1) xs)) (sym (get_or_from_slice_get xs i x x there))
    ∙ sym (at_drop_more (fold wired w) xs i x (slice_get_within xs i x there))
    ∙ before
