-- What stands for a value, and what it is where an order wants another kind.
use Rattle.std.specs.Prelude.{◌==◌, ℕ, ◌+◌, ◌%◌, ◌^◌, Bool, true, false, if◌then◌else◌, not, List, [], ◌∷◌, Option, Some, None, slice_get, bytes_eq}
use Rattle.std.specs.Fmt.{decimal}
use Rattle.vh_base.specs.declared.orders.Answer.{Answer}
use Rattle.vh_base.specs.declared.orders.Answer.TheVariants as answer
use Rattle.vh_base.specs.declared.orders.Seen.{Seen}
use Rattle.vh_base.specs.Words.{code_name}
use Rattle.vh_app.specs.declared.form.Atom.{Atom}
use Rattle.vh_app.specs.declared.form.Atom.TheVariants as atom
use Rattle.vh_app.specs.declared.form.Test.{Test}

-- A handle, a text or a number that may be missing is null where it is.
abbrev pub handle_or_null : Option ℕ → Answer
handle_or_null None = answer.Null
handle_or_null (Some h) = answer.Handle h

abbrev pub text_or_null : Option (List ℕ) → Answer
text_or_null None = answer.Null
text_or_null (Some text) = answer.Text text

abbrev pub number_or_null : Option ℕ → Answer
number_or_null None = answer.Null
number_or_null (Some n) = answer.Number n

-- A variable that isn't there is null; the variables of a script that was read are.
abbrev pub held : Option Answer → Answer
held None = answer.Null
held (Some a) = a

-- What an atom stands for, a row for each (own).
abbrev pub value_of : List Answer → Seen → Atom → Answer
value_of vars seen (atom.Number n) = answer.Number n
value_of vars seen (atom.Text bytes) = answer.Text bytes
value_of vars seen atom.Null = answer.Null
value_of vars seen (atom.Variable n) = held (slice_get vars n)
value_of vars seen atom.Obj = handle_or_null seen.object
value_of vars seen atom.Me = handle_or_null seen.me
value_of vars seen atom.Value = text_or_null seen.value
value_of vars seen atom.Index = number_or_null seen.index
value_of vars seen atom.Data = answer.Number seen.user_data
value_of vars seen atom.Time = answer.Number seen.time
value_of vars seen atom.Last = seen.last

-- Where a handle is needed, anything else is null (own).
abbrev pub handle_in : Answer → Option ℕ
handle_in answer.Done = None
handle_in answer.Null = None
handle_in (answer.Handle h) = Some h
handle_in (answer.Number n) = None
handle_in (answer.Text text) = None
handle_in (answer.Refused code) = None

-- Where a number is needed, anything else is 0 (own).
abbrev pub number_in : Answer → ℕ
number_in answer.Done = 0
number_in answer.Null = 0
number_in (answer.Handle h) = 0
number_in (answer.Number n) = n
number_in (answer.Text text) = 0
number_in (answer.Refused code) = 0

-- Where a text is needed, a number gives its digits, a handle `hN`, an error its name, and null and ok the
-- empty text (own).
abbrev pub text_in : Answer → List ℕ
text_in answer.Done = []
text_in answer.Null = []
text_in (answer.Handle h) = 104 ∷ decimal h
text_in (answer.Number n) = decimal n
text_in (answer.Text text) = text
text_in (answer.Refused code) = code_name code

-- Are two values of one kind, with the same content? (own)
abbrev pub is_same : Answer → Answer → Bool
is_same answer.Done answer.Done = true
is_same answer.Done answer.Null = false
is_same answer.Done (answer.Handle h) = false
is_same answer.Done (answer.Number n) = false
is_same answer.Done (answer.Text text) = false
is_same answer.Done (answer.Refused code) = false
is_same answer.Null answer.Done = false
is_same answer.Null answer.Null = true
is_same answer.Null (answer.Handle h) = false
is_same answer.Null (answer.Number n) = false
is_same answer.Null (answer.Text text) = false
is_same answer.Null (answer.Refused code) = false
is_same (answer.Handle g) answer.Done = false
is_same (answer.Handle g) answer.Null = false
is_same (answer.Handle g) (answer.Handle h) = g == h
is_same (answer.Handle g) (answer.Number n) = false
is_same (answer.Handle g) (answer.Text text) = false
is_same (answer.Handle g) (answer.Refused code) = false
is_same (answer.Number m) answer.Done = false
is_same (answer.Number m) answer.Null = false
is_same (answer.Number m) (answer.Handle h) = false
is_same (answer.Number m) (answer.Number n) = m == n
is_same (answer.Number m) (answer.Text text) = false
is_same (answer.Number m) (answer.Refused code) = false
is_same (answer.Text own) answer.Done = false
is_same (answer.Text own) answer.Null = false
is_same (answer.Text own) (answer.Handle h) = false
is_same (answer.Text own) (answer.Number n) = false
is_same (answer.Text own) (answer.Text text) = bytes_eq own text
is_same (answer.Text own) (answer.Refused code) = false
is_same (answer.Refused own) answer.Done = false
is_same (answer.Refused own) answer.Null = false
is_same (answer.Refused own) (answer.Handle h) = false
is_same (answer.Refused own) (answer.Number n) = false
is_same (answer.Refused own) (answer.Text text) = false
is_same (answer.Refused own) (answer.Refused code) = bytes_eq (code_name own) (code_name code)

-- Does a test hold?
abbrev pub holds : List Answer → Seen → Test → Bool
holds vars seen t =
    if is_same (value_of vars seen t.left) (value_of vars seen t.right) then t.same else not t.same

-- The sum of two numbers, modulo 2^64 (own).
abbrev pub sum_of : Answer → Answer → Answer
sum_of a b = answer.Number ((number_in a + number_in b) % 2 ^ 64)

-- What a variable is set to: a value of any kind as it is, or a sum (own).
abbrev pub set_to : List Answer → Seen → Atom → Option Atom → Answer
set_to vars seen a None = value_of vars seen a
set_to vars seen a (Some b) = sum_of (value_of vars seen a) (value_of vars seen b)
