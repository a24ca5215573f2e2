-- Lemmas on `specs/Laws.antt`: formats, piece by piece.
use Rattle.std.proofs.Common.{◌≡◌, ◌∙◌, ℕ, ◌++◌, List, [], ◌∷◌, ◌==◌, if◌then◌else◌, Bool, not, true, false, Option, Some, None, refl, sym, ap}
use Rattle.std.specs.List.{fold, list_all}
use Rattle.std.proofs.lemmas.List.{append-nil}
use Rattle.vh_design_nodes.proofs.FitsLemmas.{and_left, and_right}
use Rattle.vh_display.specs.declared.conversion.Letter.{Letter}
use Rattle.vh_display.specs.declared.conversion.Letter.TheVariants as letter
use Rattle.vh_display.specs.declared.format.Mode.{Mode}
use Rattle.vh_display.specs.declared.format.Mode.TheVariants as mode
use Rattle.vh_display.specs.declared.format.Next.TheVariants as next
use Rattle.vh_display.specs.Formats.{Front, Step, front, with_text, behind, step_of, at_letter, is_digit, letter_of, with_digit}
use Rattle.vh_display.specs.Laws.{ShowsBytes, WantsValues, ShowsNames, ShowsPercents, EndsWithNothing}

-- What a byte shows, and how the format goes on.
abbrev after_step : List ℕ → List ℕ → Step → Front
after_step name bs s = with_text s.text (behind (λ n. front name n bs) bs s.next)

front_byte : (name : List ℕ) (m : Mode) (b : ℕ) (bs : List ℕ) → front name m (b ∷ bs) ≡ after_step name bs (step_of name m b)
unfolding front
front_byte name m b bs = refl

not_true : (b : Bool) → not b ≡ true → b ≡ false
not_true true h = cc
not_true false h = refl

-- A byte that is no `%`.
plain_byte : (name bs : List ℕ) (b : ℕ) → (b == 37) ≡ false → front name mode.Plain (b ∷ bs) ≡ with_text (b ∷ []) (front name mode.Plain bs)
plain_byte name bs b h =
    front_byte name mode.Plain b bs
    ∙ ap (λ (t : Bool). after_step name bs (if t then record { text = []; next = next.On (mode.Open None) } else record { text = b ∷ []; next = next.On mode.Plain })) h

pub shows_bytes : ShowsBytes
shows_bytes name [] rest h = refl
shows_bytes name (b ∷ t) rest h =
    plain_byte name (t ++ rest) b (not_true (b == 37) (and_left (not (b == 37)) (list_all (λ x. not (x == 37)) t) h))
    ∙ ap (λ (f : Front). with_text (b ∷ []) f) (shows_bytes name t rest (and_right (not (b == 37)) (list_all (λ x. not (x == 37)) t) h))

-- Digits behind `%`.
one_digit : (name bs : List ℕ) (p : Option ℕ) (b : ℕ) → is_digit b ≡ true
    → front name (mode.Open p) (b ∷ bs) ≡ front name (mode.Open (Some (with_digit p b))) bs
one_digit name bs p b h =
    front_byte name (mode.Open p) b bs
    ∙ ap (λ (t : Bool). after_step name bs (if t then record { text = []; next = next.On (mode.Open (Some (with_digit p b))) } else at_letter name p (letter_of b))) h

all_digits : (name digits bs : List ℕ) (p : Option ℕ) → list_all is_digit digits ≡ true
    → front name (mode.Open p) (digits ++ bs) ≡ front name (mode.Open (fold (λ q b. Some (with_digit q b)) p digits)) bs
all_digits name [] bs p h = refl
all_digits name (b ∷ ds) bs p h =
    one_digit name (ds ++ bs) p b (and_left (is_digit b) (list_all is_digit ds) h)
    ∙ all_digits name ds bs (Some (with_digit p b)) (and_right (is_digit b) (list_all is_digit ds) h)

-- The letter behind them.
one_letter : (name bs : List ℕ) (p : Option ℕ) (b : ℕ) (l : Option Letter) → is_digit b ≡ false → letter_of b ≡ l
    → front name (mode.Open p) (b ∷ bs) ≡ after_step name bs (at_letter name p l)
one_letter name bs p b l h is =
    front_byte name (mode.Open p) b bs
    ∙ ap (λ (t : Bool). after_step name bs (if t then record { text = []; next = next.On (mode.Open (Some (with_digit p b))) } else at_letter name p (letter_of b))) h
    ∙ ap (λ (x : Option Letter). after_step name bs (at_letter name p x)) is

opened : (name bs : List ℕ) → front name mode.Plain (37 ∷ bs) ≡ front name (mode.Open None) bs
opened name bs = front_byte name mode.Plain 37 bs

letter_behind : (name digits rest : List ℕ) (b : ℕ) (l : Option Letter) → list_all is_digit digits ≡ true → is_digit b ≡ false
    → letter_of b ≡ l
    → front name mode.Plain (37 ∷ digits ++ b ∷ rest)
    ≡ after_step name rest (at_letter name (fold (λ q x. Some (with_digit q x)) None digits) l)
letter_behind name digits rest b l ds nd is =
    opened name (digits ++ b ∷ rest)
    ∙ all_digits name digits (b ∷ rest) None ds
    ∙ one_letter name rest (fold (λ q x. Some (with_digit q x)) None digits) b l nd is

pub wants_values : WantsValues
wants_values name digits rest b f ds nd is = letter_behind name digits rest b (Some (letter.Value f)) ds nd is

pub shows_names : ShowsNames
shows_names name digits rest b ds nd is = letter_behind name digits rest b (Some letter.Name) ds nd is

pub shows_percents : ShowsPercents
shows_percents name rest = letter_behind name [] rest 37 (Some letter.Percent) refl refl refl

pub ends_with_nothing : EndsWithNothing
unfolding front
ends_with_nothing name digits ds =
    opened name digits
    ∙ ap (λ (xs : List ℕ). front name (mode.Open None) xs) (sym (append-nil digits))
    ∙ all_digits name digits [] None ds
