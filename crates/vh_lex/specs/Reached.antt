-- How far files have a text: it is gone over up to some byte, where conditionals may be open (IEEE 1364-2005, clauses 3 and 19).
use Rattle.std.specs.Prelude.{◌+◌, ◌≤◌, ◌∷◌, length, ◌≡◌, ◌⊎◌, ℕ, Bool, true, false, List, [], ◌++◌, take}
use Rattle.vh_base.specs.declared.place.Place.{Place}
use Rattle.vh_base.specs.declared.faults.DesignFault.{DesignFault}
use Rattle.vh_base.specs.declared.faults.DesignFault.TheVariants.{L2}
use Rattle.vh_lex.specs.Lexed.{File}
use Rattle.vh_lex.specs.Places.{place_behind}
use Rattle.vh_lex.specs.SourceText.{At, before, Goes, Passes, If, Elsif, Else, Reads, Skips}

mutual
  -- Text that is read, up to a byte that is skipped or not: it stands in none of its conditionals, or in one of them;
  pub data ReadsTo : Bool → At → At → Type 0 where
    read_here : {a b : At} → Reads a b → ReadsTo false a b
    in_chosen : {t : Bool} {a b c d : At} → Reads a b → If true b c → ReadsTo t c d → ReadsTo t a d
    in_sought : {a b c d : At} → Reads a b → If false b c → SkipsTo c d → ReadsTo true a d
    in_others : {a b c d e : At} → Reads a b → If true b c → Reads c d → OthersTo d e → ReadsTo true a e
    in_seeks : {t : Bool} {a b c d e : At} → Reads a b → If false b c → Skips c d → SeeksTo t d e → ReadsTo t a e

  -- text that is skipped;
  pub data SkipsTo : At → At → Type 0 where
    skip_here : {a b : At} → Skips a b → SkipsTo a b
    skip_in : {holds : Bool} {a b c d : At} → Skips a b → If holds b c → SkipsTo c d → SkipsTo a d
    skip_others : {holds : Bool} {a b c d e : At} → Skips a b → If holds b c → Skips c d → OthersTo d e → SkipsTo a e

  -- the rest of a conditional behind a text, where all other texts are skipped;
  pub data OthersTo : At → At → Type 0 where
    other_in : {holds : Bool} {a b c : At} → Elsif holds a b → SkipsTo b c → OthersTo a c
    other_past : {holds : Bool} {a b c d : At} → Elsif holds a b → Skips b c → OthersTo c d → OthersTo a d
    other_in_else : {a b c : At} → Else a b → SkipsTo b c → OthersTo a c

  -- and where the first text is read whose condition holds, or else that of `else.
  pub data SeeksTo : Bool → At → At → Type 0 where
    seek_in : {t : Bool} {a b c : At} → Elsif true a b → ReadsTo t b c → SeeksTo t a c
    seek_others : {a b c d : At} → Elsif true a b → Reads b c → OthersTo c d → SeeksTo true a d
    seek_skipped : {a b c : At} → Elsif false a b → SkipsTo b c → SeeksTo true a c
    seek_past : {t : Bool} {a b c d : At} → Elsif false a b → Skips b c → SeeksTo t c d → SeeksTo t a d
    seek_in_else : {t : Bool} {a b c : At} → Else a b → ReadsTo t b c → SeeksTo t a c

-- No piece goes on from there, and no conditional begins there; the place is that byte's, or of one behind it.
pub record IsStuck (is_skipped : Bool) (a : At) (place : Place) : Type 0 where
  pub at : ℕ
  pub place_is : place ≡ place_behind a.file (a.passed ++ take at a.bytes)
  pub read : is_skipped ≡ false → (c : At) → Goes a c → ⊥
  pub skipped : is_skipped ≡ true → (c : At) → Passes a c → ⊥
  pub opens : (holds : Bool) (c : At) → If holds a c → ⊥

-- All is gone over, and a conditional is open.
abbrev pub IsLeftOpen : At → DesignFault → Type 0
IsLeftOpen a fault = (a.bytes ≡ []) × (a.files ≡ []) × (fault ≡ L2)

-- How many bytes and files are left
abbrev pub left_in : List File → ℕ
left_in [] = 0
left_in (f ∷ fs) = 1 + length f.bytes + left_in fs

abbrev pub left_of : At → ℕ
left_of a = length a.bytes + left_in a.files

-- The files have a text up to a byte, none that goes further, and there is the fault.
pub record Stops (files : List File) (fault : DesignFault) (place : Place) : Type 0 where
  pub last : At
  pub is_skipped : Bool
  pub beginning : ReadsTo is_skipped (before files) last
  pub is_furthest : (t : Bool) (e : At) → ReadsTo t (before files) e → left_of last ≤ left_of e
  pub why : IsStuck is_skipped last place ⊎ IsLeftOpen last fault
