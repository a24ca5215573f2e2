-- Which orders a native may answer. (own)
use Rattle.std.specs.Prelude.{◌≡◌, ℕ, zero, suc, ◌+◌, ◌%◌, List, Option, Bool, false, if◌then◌else◌, codes, bytes_eq}
use Rattle.std.specs.Fmt.{decimal}
use Rattle.vh_base.specs.declared.format.Format.TheVariants as format
use Rattle.vh_base.specs.declared.orders.Answer.{Answer}
use Rattle.vh_base.specs.declared.orders.Answer.TheVariants as answer
use Rattle.vh_base.specs.declared.orders.Order.{Order}
use Rattle.vh_base.specs.declared.orders.Order.TheVariants as order
use Rattle.vh_base.specs.declared.orders.Seen.{Seen}
use Rattle.vh_base.specs.declared.words.Mode.TheVariants as mode
use Rattle.vh_base.specs.declared.words.Promise.{Promise}
use Rattle.vh_base.specs.declared.words.Promise.TheVariants as promise

-- A put of a text at once.
abbrev pub puts : Option ℕ → List ℕ → Order
puts h text = order.PutValue h format.VpiBinStrVal text mode.VpiNoDelay 0 false

-- Is an answer this text?
abbrev pub is_text : List ℕ → Answer → Bool
is_text text answer.Done = false
is_text text answer.Null = false
is_text text (answer.Handle h) = false
is_text text (answer.Number n) = false
is_text text (answer.Text got) = bytes_eq got text
is_text text (answer.Refused code) = false

-- The native `once` by its step: it removes itself, and puts "0".
abbrev pub once_at : ℕ → Seen → Order
once_at zero s = order.Remove s.me
once_at (suc zero) s = puts s.object (codes "0")
once_at (suc (suc n)) s = order.Return

-- The native `flip`: it gets the value, and puts "1" where that is "0", else "0".
abbrev pub flip_at : ℕ → Seen → Order
flip_at zero s = order.GetValue s.object format.VpiBinStrVal
flip_at (suc zero) s = puts s.object (if is_text (codes "0") s.last then codes "1" else codes "0")
flip_at (suc (suc n)) s = order.Return

-- The native `count`: it counts its user data up, modulo 2^64, and prints it.
abbrev pub count_at : ℕ → Seen → Order
count_at zero s = order.SetData ((s.user_data + 1) % 18446744073709551616)
count_at (suc zero) s = order.Print (decimal s.user_data)
count_at (suc (suc n)) s = order.Return

-- The native `stop`: it finishes the run.
abbrev pub stop_at : ℕ → Seen → Order
stop_at zero s = order.Control false
stop_at (suc n) s = order.Return

-- The order that a promise asks for on what is seen; a free one asks for what was answered.
abbrev pub asked : Promise → Seen → Order → Order
asked promise.Free s o = o
asked promise.Once s o = once_at s.step s
asked promise.Flip s o = flip_at s.step s
asked promise.Count s o = count_at s.step s
asked promise.Stop s o = stop_at s.step s

-- A promise allows an order.
abbrev pub Allows : Promise → Seen → Order → Type 0
Allows p s o = o ≡ asked p s o
