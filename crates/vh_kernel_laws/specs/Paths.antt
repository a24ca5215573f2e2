-- Paths of the machine: labels, each with the state after it, by any choices. (IEEE 1364-2005, 11.4.2)
use Rattle.std.specs.Prelude.{ℕ, ⊤, ◌<◌, List, [], ◌∷◌, Bool, false, ◌&&◌, not, ◌==◌}
use Rattle.std.specs.List.{list_any}
use Rattle.vh_base.specs.declared.orders.Answer.{Answer}
use Rattle.vh_callbacks.specs.Callbacks.{is_live}
use Rattle.vh_kernel.specs.declared.label.Label.{Label}
use Rattle.vh_kernel.specs.declared.label.Label.TheVariants as label
use Rattle.vh_kernel.specs.State.{State}
use Rattle.vh_kernel.specs.Outcome.{Move}
use Rattle.vh_kernel.specs.Step.{IsStep, choices_of}

-- A step by one of the choices that there are.
pub record IsMade (s : State) (m : Move) : Type 0 where
  pub choice : ℕ
  pub below : choice < choices_of s
  pub step : IsStep s choice m

-- From the state the machine may make these labels.
abbrev pub IsPath : State → List Move → Type 0
IsPath s [] = ⊤
IsPath s (m ∷ moves) = IsMade s m × IsPath m.1 moves

-- The state to which they lead.
abbrev pub end_of : State → List Move → State
end_of s [] = s
end_of s (m ∷ moves) = end_of m.1 moves

-- What a label tells of occurrences, callbacks and handles.
pub data Deed : Type 0 where
  -- an occurrence is told
  tells : ℕ → Deed
  -- a callback fires for an occurrence
  fires : ℕ → ℕ → Deed
  -- an occurrence is done
  closes : ℕ → Deed
  -- an order is answered
  answers : Answer → Deed
  -- none of these
  other : Deed

-- A row for each label.
abbrev pub deed_of : Label → Deed
deed_of (label.Startup k) = other
deed_of (label.Do who order answer) = answers answer
deed_of (label.Pass who) = other
deed_of (label.Ret who) = other
deed_of (label.Occ number reason object) = tells number
deed_of (label.Fire number callback) = fires number callback
deed_of (label.Done number) = closes number
deed_of (label.Activate region) = other
deed_of (label.Advance time) = other
deed_of (label.Pick serial shown) = other
deed_of (label.Stmt process shown) = other
deed_of (label.Finish cause) = other
deed_of (label.End ending) = other

-- Does a callback fire for an occurrence?
abbrev pub fires_for : ℕ → ℕ → Deed → Bool
fires_for n c (tells number) = false
fires_for n c (fires number callback) = n == number && c == callback
fires_for n c (closes number) = false
fires_for n c (answers answer) = false
fires_for n c other = false

abbrev pub is_fire : ℕ → ℕ → Label → Bool
is_fire n c l = fires_for n c (deed_of l)

-- Does a callback fire, for whichever occurrence?
abbrev pub fires_any : ℕ → Deed → Bool
fires_any c (tells number) = false
fires_any c (fires number callback) = c == callback
fires_any c (closes number) = false
fires_any c (answers answer) = false
fires_any c other = false

abbrev pub is_fire_of : ℕ → Label → Bool
is_fire_of c l = fires_any c (deed_of l)

-- Is an occurrence told?
abbrev pub tells_of : ℕ → Deed → Bool
tells_of n (tells number) = n == number
tells_of n (fires number callback) = false
tells_of n (closes number) = false
tells_of n (answers answer) = false
tells_of n other = false

abbrev pub is_told : ℕ → Label → Bool
is_told n l = tells_of n (deed_of l)

-- Is an occurrence done?
abbrev pub closes_of : ℕ → Deed → Bool
closes_of n (tells number) = false
closes_of n (fires number callback) = false
closes_of n (closes number) = n == number
closes_of n (answers answer) = false
closes_of n other = false

abbrev pub is_done : ℕ → Label → Bool
is_done n l = closes_of n (deed_of l)

-- Is there such a label?
abbrev pub any : (Label → Bool) → List Move → Bool
any is moves = list_any (λ m. is m.0) moves

-- Was a callback removed by one of these labels, or before them?
abbrev pub was_removed : ℕ → List Move → Bool
was_removed c moves = list_any (λ m. not (is_live c m.1.world.callbacks)) moves
