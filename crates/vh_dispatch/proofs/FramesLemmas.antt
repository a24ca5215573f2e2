-- The frames' sets through the registry's calls.
use Rattle.std.proofs.Common.{◌≡◌, ◌<◌, ◌≤◌, ℕ, zero, suc, List, [], ◌∷◌, length, map, drop, Bool, true, false, cond, nat_eq, refl, sym, ap, ◌∙◌, arith, Option, Some, None, Result, Ok, Err, OnOk, OnErr, IfSome, IfNone}
use Rattle.std.proofs.lemmas.Bool.{ne_eqb, eq-eqb}
use Rattle.vh_callbacks.specs.Marks.{Registered, marked, without_number}
use Rattle.vh_dispatch.specs.Frames.{stack_at, stack_of, depth_of, without_in_top}
use Rattle.vh_dispatch.specs.Laws.{LosesNumber, KeepsFrames}

both : (s t : List ℕ) (ss ts : List (List ℕ)) → s ≡ t → ss ≡ ts → (s ∷ ss) ≡ (t ∷ ts)
both s t ss ts p q = rw (p, q) refl

elsewhere : (b : Bool) (xs ys : List ℕ) → b ≡ false → cond b xs ys ≡ ys
elsewhere true xs ys is = cc
elsewhere false xs ys is = refl

here : (b : Bool) (xs ys : List ℕ) → b ≡ true → cond b xs ys ≡ xs
here true xs ys is = refl
here false xs ys is = cc

-- ---- facts on a result

pub on_ok : {T E : Type 0} (r : Result T E) (P Q : Type 0) → (P → Q) → OnOk r P → OnOk r Q
on_ok (Ok x) P Q f p = f p
on_ok (Err e) P Q f p = tt

pub on_err : {T E : Type 0} (r : Result T E) (P Q : Type 0) → (P → Q) → OnErr r P → OnErr r Q
on_err (Ok x) P Q f p = tt
on_err (Err e) P Q f p = f p

pub on_any_err : {T E : Type 0} (r : Result T E) (Q : Type 0) → Q → OnErr r Q
on_any_err (Ok x) Q q = tt
on_any_err (Err e) Q q = q

pub if_some : {X : Type 0} (r : Option X) (P Q : X → Type 0) → ((x : X) → P x → Q x) → IfSome r P → IfSome r Q
if_some None P Q f p = tt
if_some (Some x) P Q f p = f x p

pub if_none : {X : Type 0} (r : Option X) (P Q : Type 0) → (P → Q) → IfNone r P → IfNone r Q
if_none None P Q f p = f p
if_none (Some x) P Q f p = tt

-- As many sets stand as frames.
pub stack_length : (n : ℕ) (sets : List (List ℕ)) → length (stack_at n sets) ≡ n
stack_length zero sets = refl
stack_length (suc n) sets = ap suc (stack_length n sets)

module _ {B : Type 0} where
  -- ---- sets that stay

  -- The sets of so many frames are as before where those of their depths are.
  pub stack_kept : (n : ℕ) (old new : Registered B) → ((d : ℕ) → d < n → marked d new ≡ marked d old) → stack_at n new.sets ≡ stack_at n old.sets
  stack_kept zero old new same = refl
  stack_kept (suc n) old new same =
      both (marked n new) (marked n old) (stack_at n new.sets) (stack_at n old.sets) (same n (omega arith)) (stack_kept n old new (λ d below. same d (omega arith)))

  pub keeps_frames : KeepsFrames B
  keeps_frames numbers old new same = stack_kept (length numbers) old new same

  -- and so where one from their number on is changed.
  pub stack_below : (n depth : ℕ) (xs : List ℕ) (old new : Registered B) → n ≤ depth
      → ((d : ℕ) → marked d new ≡ cond (nat_eq d depth) xs (marked d old)) → stack_at n new.sets ≡ stack_at n old.sets
  stack_below n depth xs old new low changed =
      stack_kept n old new (λ d below. changed d ∙ elsewhere (nat_eq d depth) xs (marked d old) (ne_eqb d depth (λ same. omega arith)))

  -- ---- a number that is taken out of every set

  lost : (n c : ℕ) (old new : Registered B) → ((d : ℕ) → marked d new ≡ without_number c (marked d old))
      → stack_at n new.sets ≡ map (without_number c) (stack_at n old.sets)
  lost zero c old new less = refl
  lost (suc n) c old new less =
      both (marked n new) (without_number c (marked n old)) (stack_at n new.sets) (map (without_number c) (stack_at n old.sets)) (less n) (lost n c old new less)

  pub loses_number : LosesNumber B
  loses_number numbers c old new less = lost (length numbers) c old new less

  -- ---- a frame that is made

  -- The set of its depth is emptied, and then filled.
  pub stack_cleared : (numbers : List ℕ) (depth : ℕ) (old cleared : Registered B) → depth ≡ length numbers
      → ((d : ℕ) → marked d cleared ≡ cond (nat_eq d depth) [] (marked d old)) → stack_of numbers cleared ≡ stack_of numbers old
  stack_cleared numbers depth old cleared same emptied = stack_below (length numbers) depth [] old cleared (omega arith) emptied

  pub stack_filled : (n : ℕ) (numbers : List ℕ) (depth : ℕ) (xs : List ℕ) (old cleared new : Registered B) → depth ≡ length numbers
      → ((d : ℕ) → marked d cleared ≡ cond (nat_eq d depth) [] (marked d old))
      → ((d : ℕ) → marked d new ≡ cond (nat_eq d depth) xs (marked d cleared))
      → stack_of (n ∷ numbers) new ≡ xs ∷ stack_of numbers old
  stack_filled n numbers depth xs old cleared new same emptied filled =
      both (marked (length numbers) new) xs (stack_of numbers new) (stack_of numbers old)
      (filled (length numbers) ∙ here (nat_eq (length numbers) depth) xs (marked (length numbers) cleared) (eq-eqb (length numbers) depth (sym same)))
      (stack_below (length numbers) depth xs cleared new (omega arith) filled ∙ stack_cleared numbers depth old cleared same emptied)

  pub stack_refused : (numbers : List ℕ) (depth : ℕ) (old cleared new : Registered B) → depth ≡ length numbers
      → ((d : ℕ) → marked d cleared ≡ cond (nat_eq d depth) [] (marked d old)) → ((d : ℕ) → marked d new ≡ marked d cleared)
      → stack_of numbers new ≡ stack_of numbers old
  stack_refused numbers depth old cleared new same emptied kept =
      stack_kept (length numbers) cleared new (λ d below. kept d) ∙ stack_cleared numbers depth old cleared same emptied

  -- The same where the number isn't put on top.
  pub stack_unplaced : (numbers : List ℕ) (depth : ℕ) (xs : List ℕ) (old cleared new : Registered B) → depth ≡ length numbers
      → ((d : ℕ) → marked d cleared ≡ cond (nat_eq d depth) [] (marked d old))
      → ((d : ℕ) → marked d new ≡ cond (nat_eq d depth) xs (marked d cleared))
      → stack_of numbers new ≡ stack_of numbers old
  stack_unplaced numbers depth xs old cleared new same emptied filled =
      stack_below (length numbers) depth xs cleared new (omega arith) filled ∙ stack_cleared numbers depth old cleared same emptied

  -- ---- the top frame

  pub stack_taken : (numbers : List ℕ) (depth c : ℕ) (old new : Registered B) → depth_of numbers ≡ Some depth
      → ((d : ℕ) → marked d new ≡ cond (nat_eq d depth) (without_number c (marked d old)) (marked d old))
      → stack_of numbers new ≡ without_in_top c (stack_of numbers old)
  stack_taken [] depth c old new is taken = cc
  stack_taken (n ∷ numbers) depth c old new is taken =
      let same : length numbers ≡ depth = cc in
      both (marked (length numbers) new) (without_number c (marked (length numbers) old)) (stack_of numbers new) (stack_of numbers old)
      (taken (length numbers) ∙ here (nat_eq (length numbers) depth) (without_number c (marked (length numbers) old)) (marked (length numbers) old) (eq-eqb (length numbers) depth same))
      (stack_kept (length numbers) old new
      (λ d below. taken d ∙ elsewhere (nat_eq d depth) (without_number c (marked d old)) (marked d old) (ne_eqb d depth (λ one. omega arith))))

  pub stack_same : (numbers : List ℕ) (old new : Registered B) → ((d : ℕ) → marked d new ≡ marked d old) → stack_of numbers new ≡ stack_of numbers old
  stack_same numbers old new same = stack_kept (length numbers) old new (λ d below. same d)

  -- ---- the top frame goes

  pub stack_finished : (numbers : List ℕ) (old new : Registered B)
      → ((d : ℕ) → marked d new ≡ cond (nat_eq d (length (drop 1 numbers))) [] (marked d old))
      → stack_of (drop 1 numbers) new ≡ drop 1 (stack_of numbers old)
  stack_finished [] old new emptied = refl
  stack_finished (n ∷ numbers) old new emptied = stack_below (length numbers) (length numbers) [] old new (omega arith) emptied
