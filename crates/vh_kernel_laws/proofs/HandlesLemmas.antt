-- What the handles keep in a step: at most one is given, at most one is freed.
use Rattle.std.proofs.Common.{◌≡◌, ℕ, Bool, true, false, ◌||◌, nat_eq, None, refl, sym, ap, subst, ◌∙◌, arith, inl, inr, ◌⊎◌}
use Rattle.std.proofs.lemmas.Bool.{eqb-true, eq-eqb, ne_eqb}
use Rattle.vh_base.specs.declared.orders.Answer.{Answer}
use Rattle.vh_base.specs.declared.orders.Answer.TheVariants as answer
use Rattle.vh_base.specs.declared.orders.Order.{Order}
use Rattle.vh_orders.specs.declared.who.Who.{Who}
use Rattle.vh_handles.specs.declared.handles.Thing.{Thing}
use Rattle.vh_handles.specs.declared.handles.Thing.TheVariants as thing
use Rattle.vh_kernel.specs.declared.label.Label.{Label}
use Rattle.vh_kernel.specs.declared.label.Label.TheVariants as label
use Rattle.vh_handles.specs.Handles.{Handles, thing_at, opened, freed}
use Rattle.vh_handles.specs.Laws.{NumbersRise}
use Rattle.vh_handles.proofs.EntriesLemmas.{climb_more, climb_less, other_more, other_less, same_less}
use Rattle.vh_kernel.specs.State.{State}
use Rattle.vh_kernel_laws.specs.HandleLaw.{gives, gives_of, is_giving}
use Rattle.vh_kernel_laws.specs.Paths.{Deed}
use Rattle.vh_kernel_laws.proofs.Splits.{not_both, or_right}
use Rattle.vh_kernel_laws.proofs.Works.{View, GivesNone, Changes, changes_none, opens_one, registers_one, removes_one, frees_one as order_frees, Works, works_none, empties, orders_one, tells_one, fires_one, closes_one}

-- What a label does to the handles: it gives none and frees one at most, or it gives one.
pub data Hands (a : Handles) (l : Label) (b : Handles) : Type 0 where
  gives_none : ((h : ℕ) → is_giving h l ≡ false) → b ≡ a → Hands a l b
  frees_one : ((h : ℕ) → is_giving h l ≡ false) → (h : ℕ) → b ≡ freed h a → Hands a l b
  gives_one : (h : ℕ) (t : Thing) → a.is_given h ≡ false → ((q : ℕ) → is_giving q l ≡ nat_eq q h) → b ≡ opened h t a → Hands a l b

plain-gives : (a : Answer) → GivesNone a → (h : ℕ) → gives h a ≡ false
plain-gives answer.Done plain h = refl
plain-gives answer.Null plain h = refl
plain-gives (answer.Handle k) plain h = absurd plain
plain-gives (answer.Number n) plain h = refl
plain-gives (answer.Text text) plain h = refl
plain-gives (answer.Refused c) plain h = refl

giving-by : (l : Label) (who : Who) (o : Order) (a : Answer) → l ≡ label.Do who o a → (h : ℕ) → is_giving h l ≡ gives h a
giving-by l who o a is h = ap (λ (x : Label). is_giving h x) is

changes-hand : (s : State) (l : Label) (who : Who) (o : Order) (a : Answer) (w : View) → l ≡ label.Do who o a → Changes s o a w
    → Hands s.world.handles l w.handles
changes-hand s l who o a w is (changes_none plain after) =
    gives_none (λ h. giving-by l who o a is h ∙ plain-gives a plain.0 h) (ap (λ (x : View). x.handles) after)
changes-hand s l who o a w is (opens_one h x gives_it fresh finds after) =
    gives_one h x fresh (λ q. giving-by l who o a is q ∙ ap (λ (y : Answer). gives q y) gives_it) (ap (λ (x : View). x.handles) after)
changes-hand s l who o a w is (registers_one h r b gives_it fresh room asks after) =
    gives_one h (thing.Callback s.world.callbacks.next) fresh (λ q. giving-by l who o a is q ∙ ap (λ (y : Answer). gives q y) gives_it)
    (ap (λ (x : View). x.handles) after)
changes-hand s l who o a w is (removes_one c h by one names after) =
    frees_one (λ q. giving-by l who o a is q ∙ ap (λ (y : Answer). gives q y) one) h (ap (λ (x : View). x.handles) after)
changes-hand s l who o a w is (order_frees h by one live after) =
    frees_one (λ q. giving-by l who o a is q ∙ ap (λ (y : Answer). gives q y) one) h (ap (λ (x : View). x.handles) after)

pub works-hand : (s : State) (l : Label) (w : View) → Works s l w → Hands s.world.handles l w.handles
works-hand s l w (works_none quiet is) = gives_none (λ h. ap (λ (d : Deed). gives_of h d) quiet) (ap (λ (x : View). x.handles) is)
works-hand s l w (empties quiet is at_finish) = gives_none (λ h. ap (λ (d : Deed). gives_of h d) quiet) (ap (λ (x : View). x.handles) is)
works-hand s l w (orders_one who o a is changes) = changes-hand s l who o a w is changes
works-hand s l w (tells_one n what is number after) =
    gives_none (λ h. ap (λ (x : Label). is_giving h x) is) (ap (λ (x : View). x.handles) after)
works-hand s l w (fires_one n c f rest is on number among after) =
    gives_none (λ h. ap (λ (x : Label). is_giving h x) is) (ap (λ (x : View). x.handles) after)
works-hand s l w (closes_one n f rest is on number none after) =
    gives_none (λ h. ap (λ (x : Label). is_giving h x) is) (ap (λ (x : View). x.handles) after)

at-other : (a b : Handles) (P : Handles → Type 0) → b ≡ a → P a → P b
at-other a b P is p = subst P (sym is) p

-- Given numbers stay given,
pub stays-given : (q : ℕ) (a b : Handles) (l : Label) → Hands a l b → a.is_given q ≡ true → b.is_given q ≡ true
stays-given q a b l (gives_none none is) given = at-other a b (λ (x : Handles). x.is_given q ≡ true) is given
stays-given q a b l (frees_one none h is) given = at-other (freed h a) b (λ (x : Handles). x.is_given q ≡ true) is given
stays-given q a b l (gives_one h t fresh gives is) given =
    at-other (opened h t a) b (λ (x : Handles). x.is_given q ≡ true) is (or_right (nat_eq q h) (a.is_given q) given)

-- A number that is given wasn't given before, and is after,
pub gives-new : (q : ℕ) (a b : Handles) (l : Label) → Hands a l b → is_giving q l ≡ true
    → (a.is_given q ≡ false) × (b.is_given q ≡ true)
gives-new q a b l (gives_none none is) giving = absurd (not_both (is_giving q l) giving (none q))
gives-new q a b l (frees_one none h is) giving = absurd (not_both (is_giving q l) giving (none q))
gives-new q a b l (gives_one h t fresh gives is) giving =
    let same : q ≡ h = eqb-true q h (sym (gives q) ∙ giving) in (
      subst (λ (n : ℕ). a.is_given n ≡ false) (sym same) fresh,
      at-other (opened h t a) b (λ (x : Handles). x.is_given q ≡ true) is (ap (λ (x : Bool). x || a.is_given q) (eq-eqb q h same)),
    )

-- The numbers rise,
pub stays-climbing : (a b : Handles) (l : Label) → Hands a l b → NumbersRise 0 a.live → NumbersRise 0 b.live
stays-climbing a b l (gives_none none is) climb = at-other a b (λ (x : Handles). NumbersRise 0 x.live) is climb
stays-climbing a b l (frees_one none h is) climb =
    at-other (freed h a) b (λ (x : Handles). NumbersRise 0 x.live) is (climb_less 0 h a.live climb)
stays-climbing a b l (gives_one h t fresh gives is) climb =
    at-other (opened h t a) b (λ (x : Handles). NumbersRise 0 x.live) is (climb_more 0 h t a.live (omega arith) climb)

-- And what was given names the same or nothing any more.
abbrev pub NamesStill : ℕ → Handles → Handles → Type 0
NamesStill q a b = (thing_at q b ≡ None) ⊎ (thing_at q b ≡ thing_at q a)

freed-by : (b : Bool) (q h : ℕ) (a : Handles) → nat_eq q h ≡ b → NumbersRise 0 a.live → NamesStill q a (freed h a)
freed-by true q h a is climb =
    let same : q ≡ h = eqb-true q h is in
    inl (subst (λ (n : ℕ). thing_at q (freed n a) ≡ None) same (same_less q 0 a.live climb))
freed-by false q h a is climb = inr (other_less q h a.live is)

pub names-still : (q : ℕ) (a b : Handles) (l : Label) → Hands a l b → NumbersRise 0 a.live → a.is_given q ≡ true → NamesStill q a b
names-still q a b l (gives_none none is) climb given = at-other a b (λ (x : Handles). NamesStill q a x) is (inr refl)
names-still q a b l (frees_one none h is) climb given =
    at-other (freed h a) b (λ (x : Handles). NamesStill q a x) is (freed-by (nat_eq q h) q h a refl climb)
names-still q a b l (gives_one h t fresh gives is) climb given =
    let apart : nat_eq q h ≡ false =
    ne_eqb q h (λ same. not_both (a.is_given q) given (subst (λ (n : ℕ). a.is_given n ≡ false) (sym same) fresh)) in
    at-other (opened h t a) b (λ (x : Handles). NamesStill q a x) is (inr (other_more q h t a.live apart))

pub freed-none : (h : ℕ) (a : Handles) → NumbersRise 0 a.live → thing_at h (freed h a) ≡ None
freed-none h a climb = same_less h 0 a.live climb
