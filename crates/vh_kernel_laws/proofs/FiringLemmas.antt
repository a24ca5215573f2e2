-- The firing law: occurrences are told, their callbacks fire, and they are done.
use Rattle.std.proofs.Common.{◌≡◌, ℕ, zero, suc, ◌+◌, ◌<◌, ◌≤◌, List, [], ◌∷◌, ◌++◌, map, filter, Bool, true, false, not, ◌&&◌, ◌||◌, nat_eq, nat_le, Option, Some, None, slice_get, refl, sym, ap, subst, ◌∙◌, arith, ◌⊎◌, inl, inr, append_assoc, append-nil}
use Rattle.std.proofs.lemmas.Bool.{eqb-true, eq-eqb, ne_eqb, or_parts, leb-true, leb-false}
use Rattle.vh_base.specs.declared.orders.Answer.{Answer}
use Rattle.vh_base.specs.declared.orders.Answer.TheVariants as answer
use Rattle.vh_base.specs.declared.orders.Object.{Object}
use Rattle.vh_base.specs.declared.orders.Order.{Order}
use Rattle.vh_base.specs.declared.orders.Order.TheVariants as order
use Rattle.vh_base.specs.declared.words.Reason.{Reason}
use Rattle.vh_callbacks.specs.Callbacks.{Callbacks, is_live, removed, IsSound}
use Rattle.vh_orders.specs.declared.who.Body.{Body}
use Rattle.vh_orders.specs.declared.who.Who.{Who}
use Rattle.vh_handles.specs.declared.handles.Thing.{Thing}
use Rattle.vh_handles.specs.declared.handles.Thing.TheVariants as thing
use Rattle.vh_kernel.specs.declared.label.Label.{Label}
use Rattle.vh_kernel.specs.declared.label.Label.TheVariants as label
use Rattle.vh_kernel_laws.specs.Firing.{Frame}
use Rattle.vh_handles.specs.Handles.{Handles, thing_at, opened, freed}
use Rattle.vh_callbacks.specs.Marks.{is_among, without_number}
use Rattle.vh_kernel.specs.Occurrences.{Occurrence, set_of}
use Rattle.vh_kernel.specs.Outcome.{Move}
use Rattle.vh_kernel.specs.State.{State}
use Rattle.vh_kernel_laws.specs.Firing.{frames_of, IsTelling, TellsOnce, WasTold, FiresOnce, left_of, KeepsSets, LeavesNone, DoneOnce, ClosesInOrder, GoesByRemoval, RemovesForGood}
use Rattle.vh_kernel_laws.specs.Deeds.{freed_by, removes}
use Rattle.vh_kernel_laws.proofs.DeedsLemmas.{FreesOf, removing-frees, removal-removes}
use Rattle.vh_kernel_laws.specs.Paths.{Deed, tells, fires, closes, answers, other, deed_of, fires_for, fires_any, tells_of, closes_of, is_told, is_fire, is_fire_of, is_done, any, was_removed, IsPath, end_of}
use Rattle.vh_callbacks.proofs.MarksLemmas.{among_less}
use Rattle.vh_kernel_laws.proofs.CallbacksLemmas.{ChangesByOne, works-turn, turns_sound, turns_next, stays_gone, set-live, live_low, live_registered, live_removed, gone_removed}
use Rattle.vh_handles.specs.Laws.{NumbersRise}
use Rattle.vh_handles.proofs.EntriesLemmas.{other_more, same_more, other_less}
use Rattle.vh_kernel_laws.proofs.HandlesLemmas.{works-hand, stays-climbing, freed-none}
use Rattle.vh_kernel_laws.proofs.SetsLemmas.{Falls, falls-below, works-falls, works-number, HasSet, has-on, filter-among, map-at}
use Rattle.vh_kernel_laws.proofs.Splits.{either, not_both, or_left, or_right, or_false, path_split, path_at}
use Rattle.vh_kernel_laws.proofs.Works.{View, view_of, taken_from, Changes, changes_none, opens_one, registers_one, removes_one, frees_one, Works, works_none, empties, orders_one, tells_one, fires_one, closes_one}
use Rattle.vh_kernel_laws.proofs.WorksLemmas.{made-works}

-- The labels with one more.
abbrev and_then : List Move → Move → List Move
and_then history m = history ++ m ∷ []

any-last : (is : Label → Bool) (history : List Move) (m : Move) → any is history ≡ false → is m.0 ≡ false
    → any is (and_then history m) ≡ false
any-last is [] m none here = or_false (is m.0) false here refl
any-last is (x ∷ xs) m none here =
    let parts = or_parts (is x.0) (any is xs) none in
    or_false (is x.0) (any is (and_then xs m)) parts.0 (any-last is xs m parts.1 here)

or-kept : (a b c : Bool) → (b ≡ true → c ≡ true) → (a || b) ≡ true → (a || c) ≡ true
or-kept true b c kept is = refl
or-kept false b c kept is = kept is

any-kept : (is : Label → Bool) (history : List Move) (m : Move) → any is history ≡ true → any is (and_then history m) ≡ true
any-kept is [] m some = absurd (cc)
any-kept is (x ∷ xs) m some = or-kept (is x.0) (any is xs) (any is (and_then xs m)) (any-kept is xs m) some

any-here : (is : Label → Bool) (history : List Move) (m : Move) → is m.0 ≡ true → any is (and_then history m) ≡ true
any-here is [] m here = or_left (is m.0) false here
any-here is (x ∷ xs) m here = or_right (is x.0) (any is (and_then xs m)) (any-here is xs m here)

-- In a longer list it is still there.
told-more : (n c : ℕ) (history : List Move) (m : Move) → WasTold n c history → WasTold n c (and_then history m)
told-more n c history m was = record {
  front = was.front;
  rest = and_then was.rest m;
  move = was.move;
  what = was.what;
  splits = ap (λ (ms : List Move). and_then ms m) was.splits ∙ append_assoc was.front (was.move ∷ was.rest) (m ∷ []);
  tells = was.tells;
  among = was.among;
}

-- A callback of a frame's set is live, was told of the occurrence, and has not fired for it.
pub record Waits (history : List Move) (callbacks : Callbacks Body) (n c : ℕ) : Type 0 where
  pub live : is_live c callbacks ≡ true
  pub told : WasTold n c history
  pub unfired : any (is_fire n c) history ≡ false

-- The occurrence of a frame was told and isn't done, and each callback of its set waits.
pub record Stands (history : List Move) (callbacks : Callbacks Body) (n : ℕ) (left : List ℕ) : Type 0 where
  pub told : any (is_told n) history ≡ true
  pub undone : any (is_done n) history ≡ false
  pub waits : (c : ℕ) → is_among c left ≡ true → Waits history callbacks n c

-- No label was for an occurrence that is still to come.
pub record IsAhead (history : List Move) (n : ℕ) : Type 0 where
  pub undone : any (is_done n) history ≡ false
  pub unfired : (c : ℕ) → any (is_fire n c) history ≡ false

-- What holds of the labels so far and the state after them.
pub record Keeps (history : List Move) (v : View) : Type 0 where
  pub sound : IsSound v.callbacks
  pub climbs : NumbersRise 0 v.handles.live
  pub names : (h c : ℕ) → thing_at h v.handles ≡ Some (thing.Callback c) → c < v.callbacks.next
  pub falls : Falls v.occurrence v.frames
  pub stands : (i : ℕ) (f : Frame) → slice_get v.frames i ≡ Some f → Stands history v.callbacks f.number f.left
  pub ahead : (n : ℕ) → v.occurrence ≤ n → IsAhead history n

waits-more : (history : List Move) (a b : Callbacks Body) (m : Move) (n c : ℕ) (left : List ℕ)
    → (is_among c left ≡ true) × (is_fire n c m.0 ≡ false) × (is_live c a ≡ true → is_live c b ≡ true)
    → ((d : ℕ) → is_among d left ≡ true → Waits history a n d) → Waits (and_then history m) b n c
waits-more history a b m n c left here all =
    let waits : Waits history a n c = all c here.0 in record {
      live = here.2 waits.live;
      told = told-more n c history m waits.told;
      unfired = any-last (is_fire n c) history m waits.unfired here.1;
    }

-- A frame stands after a label that is not of it, where the callbacks of its set stay live.
stands-more : (history : List Move) (a b : Callbacks Body) (m : Move) (n : ℕ) (left less : List ℕ) → is_done n m.0 ≡ false
    → ((c : ℕ) → is_among c less ≡ true → (is_among c left ≡ true) × (is_fire n c m.0 ≡ false) × (is_live c a ≡ true → is_live c b ≡ true))
    → Stands history a n left → Stands (and_then history m) b n less
stands-more history a b m n left less undone each stands = record {
  told = any-kept (is_told n) history m stands.told;
  undone = any-last (is_done n) history m stands.undone undone;
  waits = λ c among. waits-more history a b m n c left (each c among) stands.waits;
}

-- A label that is no callback's and ends no occurrence.
record IsQuiet (l : Label) : Type 0 where
  undone : (n : ℕ) → is_done n l ≡ false
  unfired : (n c : ℕ) → is_fire n c l ≡ false

quiet-of : (l : Label) → deed_of l ≡ other → IsQuiet l
quiet-of l is = record {
  undone = λ n. ap (λ (d : Deed). closes_of n d) is;
  unfired = λ n c. ap (λ (d : Deed). fires_for n c d) is;
}

order-quiet : (l : Label) (who : Who) (o : Order) (a : Answer) → l ≡ label.Do who o a → IsQuiet l
order-quiet l who o a is = record {
  undone = λ n. ap (λ (x : Label). is_done n x) is;
  unfired = λ n c. ap (λ (x : Label). is_fire n c x) is;
}

told-quiet : (l : Label) (n : ℕ) (reason : Reason) (object : Option Object) → l ≡ label.Occ n reason object → IsQuiet l
told-quiet l n reason object is = record {
  undone = λ k. ap (λ (x : Label). is_done k x) is;
  unfired = λ k c. ap (λ (x : Label). is_fire k c x) is;
}

-- The frames after a quiet label that leaves them, where what is live stays live.
quiet-stands : (history : List Move) (a b : Callbacks Body) (m : Move) (fs : List Frame) → IsQuiet m.0
    → ((c : ℕ) → is_live c a ≡ true → is_live c b ≡ true)
    → ((i : ℕ) (f : Frame) → slice_get fs i ≡ Some f → Stands history a f.number f.left)
    → (i : ℕ) (f : Frame) → slice_get fs i ≡ Some f → Stands (and_then history m) b f.number f.left
quiet-stands history a b m fs quiet alive all i f at =
    stands-more history a b m f.number f.left f.left (quiet.undone f.number)
    (λ c among. (among, quiet.unfired f.number c, alive c)) (all i f at)

-- What is still to come after a label.
ahead-more : (history : List Move) (m : Move) (n : ℕ) → is_done n m.0 ≡ false → ((c : ℕ) → is_fire n c m.0 ≡ false)
    → IsAhead history n → IsAhead (and_then history m) n
ahead-more history m n undone unfired ahead = record {
  undone = any-last (is_done n) history m ahead.undone undone;
  unfired = λ c. any-last (is_fire n c) history m (ahead.unfired c) (unfired c);
}

-- What the frames are after each kind of label.
same-live : (a b : Callbacks Body) → b ≡ a → (c : ℕ) → is_live c a ≡ true → is_live c b ≡ true
same-live a b same c alive = ap (λ (x : Callbacks Body). is_live c x) same ∙ alive

and-false : (a b : Bool) → b ≡ false → (a && b) ≡ false
and-false true b is = is
and-false false b is = refl

fires-stands : (history : List Move) (s : State) (m : Move) (n c : ℕ) (f : Frame) (rest : List Frame) → m.0 ≡ label.Fire n c
    → frames_of s ≡ f ∷ rest → n ≡ f.number → Falls s.occurrence (frames_of s)
    → ((i : ℕ) (g : Frame) → slice_get (frames_of s) i ≡ Some g → Stands history s.world.callbacks g.number g.left)
    → (i : ℕ) (g : Frame) → slice_get (taken_from c f ∷ rest) i ≡ Some g → Stands (and_then history m) s.world.callbacks g.number g.left
fires-stands history s m n c f rest is on number falls all zero g at =
    let here : taken_from c f ≡ g = cc in
    subst (λ (x : Frame). Stands (and_then history m) s.world.callbacks x.number x.left) here
    (stands-more history s.world.callbacks s.world.callbacks m f.number f.left (without_number c f.left)
    (ap (λ (x : Label). is_done f.number x) is)
    (λ d among. (
      (among_less d c f.left among).0,
      ap (λ (x : Label). is_fire f.number d x) is ∙ and-false (nat_eq f.number n) (nat_eq d c) (among_less d c f.left among).1,
      λ alive. alive,
    ))
    (all 0 f (ap (λ (fs : List Frame). slice_get fs 0) on)))
fires-stands history s m n c f rest is on number falls all (suc i) g at =
    let there : Falls s.occurrence (f ∷ rest) = subst (λ (fs : List Frame). Falls s.occurrence fs) on falls in
    let low : g.number < f.number = falls-below f.number i rest g there.1 at in
    stands-more history s.world.callbacks s.world.callbacks m g.number g.left g.left (ap (λ (x : Label). is_done g.number x) is)
    (λ d among. (
      among,
      ap (λ (x : Label). is_fire g.number d x) is
          ∙ ap (λ (b : Bool). b && nat_eq d c) (ne_eqb g.number n (λ same. omega arith)),
      λ alive. alive,
    ))
    (all (suc i) g (ap (λ (fs : List Frame). slice_get fs (suc i)) on ∙ at))

closes-stands : (history : List Move) (s : State) (m : Move) (n : ℕ) (f : Frame) (rest : List Frame) → m.0 ≡ label.Done n
    → frames_of s ≡ f ∷ rest → n ≡ f.number → Falls s.occurrence (frames_of s)
    → ((i : ℕ) (g : Frame) → slice_get (frames_of s) i ≡ Some g → Stands history s.world.callbacks g.number g.left)
    → (i : ℕ) (g : Frame) → slice_get rest i ≡ Some g → Stands (and_then history m) s.world.callbacks g.number g.left
closes-stands history s m n f rest is on number falls all i g at =
    let there : Falls s.occurrence (f ∷ rest) = subst (λ (fs : List Frame). Falls s.occurrence fs) on falls in
    let low : g.number < f.number = falls-below f.number i rest g there.1 at in
    stands-more history s.world.callbacks s.world.callbacks m g.number g.left g.left
    (ap (λ (x : Label). is_done g.number x) is ∙ ne_eqb g.number n (λ same. omega arith))
    (λ d among. (among, ap (λ (x : Label). is_fire g.number d x) is, λ alive. alive))
    (all (suc i) g (ap (λ (fs : List Frame). slice_get fs (suc i)) on ∙ at))

removes-stands : (history : List Move) (s : State) (m : Move) (c : ℕ) → IsQuiet m.0 → IsSound s.world.callbacks
    → ((i : ℕ) (g : Frame) → slice_get (frames_of s) i ≡ Some g → Stands history s.world.callbacks g.number g.left)
    → (i : ℕ) (g : Frame) → slice_get (map (taken_from c) (frames_of s)) i ≡ Some g
    → Stands (and_then history m) (removed c s.world.callbacks) g.number g.left
removes-stands history s m c quiet sound all i g at =
    let from = map-at c i (frames_of s) g at in
    subst (λ (x : Frame). Stands (and_then history m) (removed c s.world.callbacks) x.number x.left) from.2
    (stands-more history s.world.callbacks (removed c s.world.callbacks) m from.0.number from.0.left (without_number c from.0.left)
    (quiet.undone from.0.number)
    (λ d among. (
      (among_less d c from.0.left among).0,
      quiet.unfired from.0.number d,
      λ alive. live_removed c d s.world.callbacks (among_less d c from.0.left among).1 ∙ alive,
    ))
    (all i from.0 from.1))

-- The label and the state after it tell of an occurrence.
telling-of : (s : State) (m : Move) (n : ℕ) (what : Occurrence) → m.0 ≡ label.Occ n what.reason what.object
    → view_of m.1 ≡ record (view_of s) {
      frames = record { number = n; what = what; left = set_of what s.world.callbacks } ∷ frames_of s;
      occurrence = n + 1;
    } → IsTelling m n what
telling-of s m n what is after = record {
  told = is;
  frame = ap (λ (x : View). slice_get x.frames 0) after
      ∙ ap (λ (x : View). Some (let f : Frame = record { number = n; what = what; left = set_of what x.callbacks } in f)) (sym after);
}

tells-stands : (history : List Move) (s : State) (m : Move) (n : ℕ) (what : Occurrence) → m.0 ≡ label.Occ n what.reason what.object
    → n ≡ s.occurrence
    → view_of m.1 ≡ record (view_of s) {
      frames = record { number = n; what = what; left = set_of what s.world.callbacks } ∷ frames_of s;
      occurrence = n + 1;
    }
    → Keeps history (view_of s)
    → (i : ℕ) (g : Frame) → slice_get (record { number = n; what = what; left = set_of what s.world.callbacks } ∷ frames_of s) i ≡ Some g
    → Stands (and_then history m) s.world.callbacks g.number g.left
tells-stands history s m n what is number after keeps zero g at =
    let f : Frame = record { number = n; what = what; left = set_of what s.world.callbacks } in
    let here : f ≡ g = cc in
    let quiet : IsQuiet m.0 = told-quiet m.0 n what.reason what.object is in
    let ahead : IsAhead history n = keeps.ahead n (omega arith) in
    let same : m.1.world.callbacks ≡ s.world.callbacks = ap (λ (x : View). x.callbacks) after in
    subst (λ (x : Frame). Stands (and_then history m) s.world.callbacks x.number x.left) here (record {
      told = any-here (is_told n) history m (ap (λ (x : Label). is_told n x) is ∙ eq-eqb n n refl);
      undone = any-last (is_done n) history m ahead.undone (quiet.undone n);
      waits = λ c among. (record {
        live = set-live what s.world.callbacks c keeps.sound among;
        told = record {
          front = history;
          rest = [];
          move = m;
          what = what;
          splits = refl;
          tells = telling-of s m n what is after;
          among = ap (λ (x : Callbacks Body). is_among c (set_of what x)) same ∙ among;
        };
        unfired = any-last (is_fire n c) history m (ahead.unfired c) (quiet.unfired n c);
      });
    })
tells-stands history s m n what is number after keeps (suc i) g at =
    quiet-stands history s.world.callbacks s.world.callbacks m (frames_of s) (told-quiet m.0 n what.reason what.object is)
    (λ c alive. alive) keeps.stands i g at

works-stands : (history : List Move) (s : State) (m : Move) → Works s m.0 (view_of m.1) → Keeps history (view_of s)
    → (i : ℕ) (f : Frame) → slice_get (frames_of m.1) i ≡ Some f → Stands (and_then history m) m.1.world.callbacks f.number f.left
works-stands history s m (works_none quiet is) keeps i f at =
    quiet-stands history s.world.callbacks m.1.world.callbacks m (frames_of s) (quiet-of m.0 quiet)
    (same-live s.world.callbacks m.1.world.callbacks (ap (λ (x : View). x.callbacks) is)) keeps.stands i f
    (sym (ap (λ (x : View). slice_get x.frames i) is) ∙ at)
works-stands history s m (empties quiet is at_finish) keeps i f at =
    absurd (let none : slice_get (frames_of m.1) i ≡ None = ap (λ (x : View). slice_get x.frames i) is in cc)
works-stands history s m (orders_one who o a is (changes_none plain after)) keeps i f at =
    quiet-stands history s.world.callbacks m.1.world.callbacks m (frames_of s) (order-quiet m.0 who o a is)
    (same-live s.world.callbacks m.1.world.callbacks (ap (λ (x : View). x.callbacks) after)) keeps.stands i f
    (sym (ap (λ (x : View). slice_get x.frames i) after) ∙ at)
works-stands history s m (orders_one who o a is (opens_one h x gives fresh finds after)) keeps i f at =
    quiet-stands history s.world.callbacks m.1.world.callbacks m (frames_of s) (order-quiet m.0 who o a is)
    (same-live s.world.callbacks m.1.world.callbacks (ap (λ (y : View). y.callbacks) after)) keeps.stands i f
    (sym (ap (λ (y : View). slice_get y.frames i) after) ∙ at)
works-stands history s m (orders_one who o a is (registers_one h r b gives fresh room asks after)) keeps i f at =
    quiet-stands history s.world.callbacks m.1.world.callbacks m (frames_of s) (order-quiet m.0 who o a is)
    (λ c alive. ap (λ (x : View). is_live c x.callbacks) after
    ∙ live_registered c r b s.world.callbacks (live_low c s.world.callbacks keeps.sound alive) ∙ alive) keeps.stands i f
    (sym (ap (λ (x : View). slice_get x.frames i) after) ∙ at)
works-stands history s m (orders_one who o a is (removes_one c h by one names after)) keeps i f at =
    let same : m.1.world.callbacks ≡ removed c s.world.callbacks = ap (λ (x : View). x.callbacks) after in
    subst (λ (x : Callbacks Body). Stands (and_then history m) x f.number f.left) (sym same)
    (removes-stands history s m c (order-quiet m.0 who o a is) keeps.sound keeps.stands i f
    (sym (ap (λ (x : View). slice_get x.frames i) after) ∙ at))
works-stands history s m (orders_one who o a is (frees_one h by one live after)) keeps i f at =
    quiet-stands history s.world.callbacks m.1.world.callbacks m (frames_of s) (order-quiet m.0 who o a is)
    (same-live s.world.callbacks m.1.world.callbacks (ap (λ (y : View). y.callbacks) after)) keeps.stands i f
    (sym (ap (λ (y : View). slice_get y.frames i) after) ∙ at)
works-stands history s m (tells_one n what is number after) keeps i f at =
    let same : m.1.world.callbacks ≡ s.world.callbacks = ap (λ (x : View). x.callbacks) after in
    subst (λ (x : Callbacks Body). Stands (and_then history m) x f.number f.left) (sym same)
    (tells-stands history s m n what is number after keeps i f (sym (ap (λ (x : View). slice_get x.frames i) after) ∙ at))
works-stands history s m (fires_one n c g rest is on number among after) keeps i f at =
    let same : m.1.world.callbacks ≡ s.world.callbacks = ap (λ (x : View). x.callbacks) after in
    subst (λ (x : Callbacks Body). Stands (and_then history m) x f.number f.left) (sym same)
    (fires-stands history s m n c g rest is on number keeps.falls keeps.stands i f
    (sym (ap (λ (x : View). slice_get x.frames i) after) ∙ at))
works-stands history s m (closes_one n g rest is on number none after) keeps i f at =
    let same : m.1.world.callbacks ≡ s.world.callbacks = ap (λ (x : View). x.callbacks) after in
    subst (λ (x : Callbacks Body). Stands (and_then history m) x f.number f.left) (sym same)
    (closes-stands history s m n g rest is on number keeps.falls keeps.stands i f
    (sym (ap (λ (x : View). slice_get x.frames i) after) ∙ at))

-- A number still to come is of no frame.
works-yet : (s : State) (m : Move) → Works s m.0 (view_of m.1) → Falls s.occurrence (frames_of s)
    → (n : ℕ) → s.occurrence ≤ n → (is_done n m.0 ≡ false) × ((c : ℕ) → is_fire n c m.0 ≡ false)
works-yet s m (works_none quiet is) falls n above = ((quiet-of m.0 quiet).undone n, (quiet-of m.0 quiet).unfired n)
works-yet s m (empties quiet is at_finish) falls n above = ((quiet-of m.0 quiet).undone n, (quiet-of m.0 quiet).unfired n)
works-yet s m (orders_one who o a is changes) falls n above =
    ((order-quiet m.0 who o a is).undone n, (order-quiet m.0 who o a is).unfired n)
works-yet s m (tells_one k what is number after) falls n above =
    ((told-quiet m.0 k what.reason what.object is).undone n, (told-quiet m.0 k what.reason what.object is).unfired n)
works-yet s m (fires_one k d f rest is on number among after) falls n above =
    let there : Falls s.occurrence (f ∷ rest) = subst (λ (fs : List Frame). Falls s.occurrence fs) on falls in
    let low : f.number < s.occurrence = there.0 in (
      ap (λ (x : Label). is_done n x) is,
      λ c. ap (λ (x : Label). is_fire n c x) is ∙ ap (λ (b : Bool). b && nat_eq c d) (ne_eqb n k (λ same. omega arith)),
    )
works-yet s m (closes_one k f rest is on number none after) falls n above =
    let there : Falls s.occurrence (f ∷ rest) = subst (λ (fs : List Frame). Falls s.occurrence fs) on falls in
    let low : f.number < s.occurrence = there.0 in (
      ap (λ (x : Label). is_done n x) is ∙ ne_eqb n k (λ same. omega arith),
      λ c. ap (λ (x : Label). is_fire n c x) is,
    )

works-ahead : (history : List Move) (s : State) (m : Move) → Works s m.0 (view_of m.1) → Keeps history (view_of s)
    → (n : ℕ) → m.1.occurrence ≤ n → IsAhead (and_then history m) n
works-ahead history s m works keeps n above =
    let more : s.occurrence ≤ m.1.occurrence = works-number s m.0 (view_of m.1) works in
    let quiet = works-yet s m works keeps.falls n (omega arith) in
    ahead-more history m n quiet.0 quiet.1 (keeps.ahead n (omega arith))

-- A live handle names a callback that was registered.
opened-names : (b : Bool) (h k c next : ℕ) (x : Thing) (a : Handles) → nat_eq h k ≡ b
    → ((d : ℕ) → x ≡ thing.Callback d → d < next) → (thing_at h a ≡ Some (thing.Callback c) → c < next)
    → thing_at h (opened k x a) ≡ Some (thing.Callback c) → c < next
opened-names true h k c next x a is new old at =
    let same : h ≡ k = eqb-true h k is in
    let there : thing_at h (opened k x a) ≡ Some x =
    subst (λ (y : ℕ). thing_at h (opened y x a) ≡ Some x) same (same_more h x a.live) in
    new c (let both : Some x ≡ Some (thing.Callback c) = sym there ∙ at in cc)
opened-names false h k c next x a is new old at = old (sym (other_more h k x a.live is) ∙ at)

freed-names : (b : Bool) (h k c : ℕ) (a : Handles) → nat_eq h k ≡ b → NumbersRise 0 a.live
    → thing_at h (freed k a) ≡ Some (thing.Callback c) → thing_at h a ≡ Some (thing.Callback c)
freed-names true h k c a is climb at =
    let same : h ≡ k = eqb-true h k is in
    let none : thing_at h (freed k a) ≡ None = subst (λ (y : ℕ). thing_at h (freed y a) ≡ None) same (freed-none h a climb) in
    absurd (cc)
freed-names false h k c a is climb at = sym (other_less h k a.live is) ∙ at

works-names : (s : State) (l : Label) (w : View) → Works s l w → NumbersRise 0 s.world.handles.live
    → ((h c : ℕ) → thing_at h s.world.handles ≡ Some (thing.Callback c) → c < s.world.callbacks.next)
    → (h c : ℕ) → thing_at h w.handles ≡ Some (thing.Callback c) → c < w.callbacks.next
works-names s l w (works_none quiet is) climb names h c =
    subst (λ (x : View). thing_at h x.handles ≡ Some (thing.Callback c) → c < x.callbacks.next) (sym is) (names h c)
works-names s l w (empties quiet is at_finish) climb names h c =
    subst (λ (x : View). thing_at h x.handles ≡ Some (thing.Callback c) → c < x.callbacks.next) (sym is) (names h c)
works-names s l w (orders_one who o a is (changes_none plain after)) climb names h c =
    subst (λ (x : View). thing_at h x.handles ≡ Some (thing.Callback c) → c < x.callbacks.next) (sym after) (names h c)
works-names s l w (orders_one who o a is (opens_one k x gives fresh finds after)) climb names h c =
    subst (λ (y : View). thing_at h y.handles ≡ Some (thing.Callback c) → c < y.callbacks.next) (sym after)
    (opened-names (nat_eq h k) h k c s.world.callbacks.next x s.world.handles refl
    (λ d same. absurd (let object = finds.names in cc)) (names h c))
works-names s l w (orders_one who o a is (registers_one k r b gives fresh room asks after)) climb names h c =
    subst (λ (y : View). thing_at h y.handles ≡ Some (thing.Callback c) → c < y.callbacks.next) (sym after)
    (opened-names (nat_eq h k) h k c (s.world.callbacks.next + 1) (thing.Callback s.world.callbacks.next) s.world.handles refl
    (λ d same. (let e : s.world.callbacks.next ≡ d = cc in omega arith)) (λ at. (let low = names h c at in omega arith)))
works-names s l w (orders_one who o a is (removes_one d k by one at after)) climb names h c =
    subst (λ (y : View). thing_at h y.handles ≡ Some (thing.Callback c) → c < y.callbacks.next) (sym after)
    (λ there. names h c (freed-names (nat_eq h k) h k c s.world.handles refl climb there))
works-names s l w (orders_one who o a is (frees_one k by one live after)) climb names h c =
    subst (λ (y : View). thing_at h y.handles ≡ Some (thing.Callback c) → c < y.callbacks.next) (sym after)
    (λ there. names h c (freed-names (nat_eq h k) h k c s.world.handles refl climb there))
works-names s l w (tells_one n what is number after) climb names h c =
    subst (λ (x : View). thing_at h x.handles ≡ Some (thing.Callback c) → c < x.callbacks.next) (sym after) (names h c)
works-names s l w (fires_one n d f rest is on number among after) climb names h c =
    subst (λ (x : View). thing_at h x.handles ≡ Some (thing.Callback c) → c < x.callbacks.next) (sym after) (names h c)
works-names s l w (closes_one n f rest is on number none after) climb names h c =
    subst (λ (x : View). thing_at h x.handles ≡ Some (thing.Callback c) → c < x.callbacks.next) (sym after) (names h c)

works-keeps : (history : List Move) (s : State) (m : Move) → Works s m.0 (view_of m.1) → Keeps history (view_of s)
    → Keeps (and_then history m) (view_of m.1)
works-keeps history s m works keeps = record {
  sound = turns_sound s.world.callbacks m.1.world.callbacks (works-turn s m.0 (view_of m.1) works) keeps.sound;
  climbs = stays-climbing s.world.handles m.1.world.handles m.0 (works-hand s m.0 (view_of m.1) works) keeps.climbs;
  names = works-names s m.0 (view_of m.1) works keeps.climbs keeps.names;
  falls = works-falls s m.0 (view_of m.1) works keeps.falls;
  stands = works-stands history s m works keeps;
  ahead = works-ahead history s m works keeps;
}

-- Along a path.
pub keeps-on : (history : List Move) (s : State) (moves : List Move) → IsPath s moves → Keeps history (view_of s)
    → Keeps (history ++ moves) (view_of (end_of s moves))
keeps-on history s [] path keeps = subst (λ (ms : List Move). Keeps ms (view_of s)) (sym (append-nil history)) keeps
keeps-on history s (m ∷ moves) path keeps =
    subst (λ (ms : List Move). Keeps ms (view_of (end_of m.1 moves))) (append_assoc history (m ∷ []) moves)
    (keeps-on (and_then history m) m.1 moves path.1 (works-keeps history s m (made-works s m path.0) keeps))

-- The parts of a step that tells, fires or closes.
record ToldFrom (s : State) (n : ℕ) (w : View) : Type 0 where
  number : n ≡ s.occurrence
  top : Frame
  frames : w.frames ≡ top ∷ frames_of s
  next : w.occurrence ≡ n + 1
  same : w.callbacks ≡ s.world.callbacks

told-from : (s : State) (l : Label) (n : ℕ) (reason : Reason) (object : Option Object) (w : View) → l ≡ label.Occ n reason object
    → Works s l w → ToldFrom s n w
told-from s l n reason object w told (works_none quiet is) =
    absurd (let d : tells n ≡ other = ap deed_of (sym told) ∙ quiet in cc)
told-from s l n reason object w told (empties quiet is at_finish) =
    absurd (let d : tells n ≡ other = ap deed_of (sym told) ∙ quiet in cc)
told-from s l n reason object w told (orders_one who o a is changes) =
    absurd (let d : tells n ≡ answers a = ap deed_of (sym told ∙ is) in cc)
told-from s l n reason object w told (tells_one k what is number after) =
    let d : tells n ≡ tells k = ap deed_of (sym told ∙ is) in
    let same : n ≡ k = cc in record {
      number = same ∙ number;
      top = record { number = k; what = what; left = set_of what s.world.callbacks };
      frames = ap (λ (x : View). x.frames) after;
      next = ap (λ (x : View). x.occurrence) after ∙ ap (λ (x : ℕ). x + 1) (sym same);
      same = ap (λ (x : View). x.callbacks) after;
    }
told-from s l n reason object w told (fires_one k c f rest is on number among after) =
    absurd (let d : tells n ≡ fires k c = ap deed_of (sym told ∙ is) in cc)
told-from s l n reason object w told (closes_one k f rest is on number none after) =
    absurd (let d : tells n ≡ closes k = ap deed_of (sym told ∙ is) in cc)

pub record FiredFrom (s : State) (n c : ℕ) : Type 0 where
  pub frame : Frame
  pub rest : List Frame
  pub on : frames_of s ≡ frame ∷ rest
  pub number : n ≡ frame.number
  pub among : is_among c frame.left ≡ true

pub fired-from : (s : State) (n c : ℕ) (w : View) → Works s (label.Fire n c) w → FiredFrom s n c
fired-from s n c w (works_none quiet is) = absurd (let d : fires n c ≡ other = quiet in cc)
fired-from s n c w (empties quiet is at_finish) = absurd (let d : fires n c ≡ other = quiet in cc)
fired-from s n c w (orders_one who o a is changes) = absurd (let d : fires n c ≡ answers a = ap deed_of is in cc)
fired-from s n c w (tells_one k what is number after) = absurd (let d : fires n c ≡ tells k = ap deed_of is in cc)
fired-from s n c w (fires_one k e f rest is on number among after) =
    let d : fires n c ≡ fires k e = ap deed_of is in
    let same : n ≡ k = cc in
    let one : c ≡ e = cc in record {
      frame = f;
      rest = rest;
      on = on;
      number = same ∙ number;
      among = ap (λ (x : ℕ). is_among x f.left) one ∙ among;
    }
fired-from s n c w (closes_one k f rest is on number none after) = absurd (let d : fires n c ≡ closes k = ap deed_of is in cc)

record DoneFrom (s : State) (n : ℕ) (w : View) : Type 0 where
  frame : Frame
  rest : List Frame
  on : frames_of s ≡ frame ∷ rest
  number : n ≡ frame.number
  none : frame.left ≡ []
  left : w.frames ≡ rest
  next : w.occurrence ≡ s.occurrence

done-from : (s : State) (n : ℕ) (w : View) → Works s (label.Done n) w → DoneFrom s n w
done-from s n w (works_none quiet is) = absurd (let d : closes n ≡ other = quiet in cc)
done-from s n w (empties quiet is at_finish) = absurd (let d : closes n ≡ other = quiet in cc)
done-from s n w (orders_one who o a is changes) = absurd (let d : closes n ≡ answers a = ap deed_of is in cc)
done-from s n w (tells_one k what is number after) = absurd (let d : closes n ≡ tells k = ap deed_of is in cc)
done-from s n w (fires_one k e f rest is on number among after) = absurd (let d : closes n ≡ fires k e = ap deed_of is in cc)
done-from s n w (closes_one k f rest is on number none after) =
    let d : closes n ≡ closes k = ap deed_of is in
    let same : n ≡ k = cc in record {
      frame = f;
      rest = rest;
      on = on;
      number = same ∙ number;
      none = none;
      left = ap (λ (x : View). x.frames) after;
      next = ap (λ (x : View). x.occurrence) after;
    }

pub at-top : (s : State) (f : Frame) (rest : List Frame) → frames_of s ≡ f ∷ rest → slice_get (frames_of s) 0 ≡ Some f
at-top s f rest on = ap (λ (fs : List Frame). slice_get fs 0) on

-- A callback fires right.
pub fires-once : (s : State) (moves : List Move) → IsPath s moves → Keeps [] (view_of s) → FiresOnce moves
fires-once s moves path keeps before behind n c t is =
    let m : Move = (label.Fire n c, t) in
    let parts = path_at s moves before (m ∷ behind) path is in
    let u : State = end_of s before in
    let there : Keeps before (view_of u) = keeps-on [] s before parts.0 keeps in
    let from : FiredFrom u n c = fired-from u n c (view_of t) (made-works u m parts.1.0) in
    let stands : Stands before u.world.callbacks from.frame.number from.frame.left =
    there.stands 0 from.frame (at-top u from.frame from.rest from.on) in
    let here : Stands before u.world.callbacks n from.frame.left =
    subst (λ (k : ℕ). Stands before u.world.callbacks k from.frame.left) (sym from.number) stands in
    let waits : Waits before u.world.callbacks n c = here.waits c from.among in
    record { told = waits.told; yet = here.undone; once = waits.unfired }

first-set : (s : State) (m : Move) (n : ℕ) (what : Occurrence) → ToldFrom s n (view_of m.1) → IsTelling m n what
    → Falls s.occurrence (frames_of s)
    → (i : ℕ) (f : Frame) → slice_get (frames_of m.1) i ≡ Some f → f.number ≡ n → f.left ≡ set_of what m.1.world.callbacks
first-set s m n what from telling falls zero f at of =
    let both : Some f ≡ Some (record { number = n; what = what; left = set_of what m.1.world.callbacks }) = sym at ∙ telling.frame in
    let same : f ≡ record { number = n; what = what; left = set_of what m.1.world.callbacks } = cc in
    ap (λ (x : Frame). x.left) same
first-set s m n what from telling falls (suc i) f at of =
    let old : slice_get (frames_of s) i ≡ Some f = sym (ap (λ (fs : List Frame). slice_get fs (suc i)) from.frames) ∙ at in
    let low : f.number < s.occurrence = falls-below s.occurrence i (frames_of s) f falls old in
    let e = from.number in absurd (omega arith)

-- An occurrence has its set from its telling on.
starts-set : (s : State) (m : Move) (n : ℕ) (what : Occurrence) → Works s m.0 (view_of m.1) → IsTelling m n what
    → IsSound m.1.world.callbacks → Falls s.occurrence (frames_of s) → HasSet n (set_of what m.1.world.callbacks) (view_of m.1)
starts-set s m n what works telling sound falls =
    let from : ToldFrom s n (view_of m.1) = told-from s m.0 n what.reason what.object (view_of m.1) telling.told works in record {
      below = (let e = from.next in omega arith);
      falls = works-falls s m.0 (view_of m.1) works falls;
      live = λ c among. set-live what m.1.world.callbacks c sound among;
      sets = first-set s m n what from telling falls;
    }

-- The state in which an occurrence is told, and its set along what follows.
set-along : (s : State) (moves front mid rest : List Move) (m : Move) (n : ℕ) (what : Occurrence) → IsPath s moves → Keeps [] (view_of s)
    → moves ≡ front ++ m ∷ mid ++ rest → IsTelling m n what
    → HasSet n (left_of n mid (set_of what m.1.world.callbacks)) (view_of (end_of m.1 mid)) × IsPath (end_of m.1 mid) rest
set-along s moves front mid rest m n what path keeps is telling =
    let parts = path_at s moves front ((m ∷ mid) ++ rest) path (is ∙ append_assoc front (m ∷ mid) rest) in
    let u : State = end_of s front in
    let there : Keeps front (view_of u) = keeps-on [] s front parts.0 keeps in
    let works : Works u m.0 (view_of m.1) = made-works u m parts.1.0 in
    let sound : IsSound m.1.world.callbacks = turns_sound u.world.callbacks m.1.world.callbacks (works-turn u m.0 (view_of m.1) works) there.sound in
    let halves = path_split m.1 mid rest parts.1.1 in
    (has-on n (set_of what m.1.world.callbacks) m.1 mid halves.0 sound (starts-set u m n what works telling sound there.falls), halves.1)

pub keeps-sets : (s : State) (moves : List Move) → IsPath s moves → Keeps [] (view_of s) → KeepsSets moves
keeps-sets s moves path keeps front mid behind m n i what f is telling at of =
    (set-along s moves front mid behind m n what path keeps is telling).0.sets i f at of

left-none : (a b : Bool) → (not a && not b) ≡ false → (a ≡ true) ⊎ (b ≡ true)
left-none true b none = inl refl
left-none false true none = inr refl
left-none false false none = absurd (cc)

none-among : (set : List ℕ) (p : ℕ → Bool) (c : ℕ) → filter p set ≡ [] → is_among c set ≡ true → p c ≡ false
none-among set p c none among = elim (either (p c)) [
  | inl passes ↦
      absurd (let there : is_among c [] ≡ true =
      ap (λ (xs : List ℕ). is_among c xs) (sym none) ∙ filter-among c p set among passes in cc)
  | inr fails ↦ fails
]

pub leaves-none : (s : State) (moves : List Move) → IsPath s moves → Keeps [] (view_of s) → LeavesNone moves
leaves-none s moves path keeps front mid behind m n c what t is telling among =
    let last : Move = (label.Done n, t) in
    let along = set-along s moves front mid (last ∷ behind) m n what path keeps is telling in
    let w : State = end_of m.1 mid in
    let from : DoneFrom w n (view_of t) = done-from w n (view_of t) (made-works w last along.1.0) in
    let empty : left_of n mid (set_of what m.1.world.callbacks) ≡ [] =
    sym (along.0.sets 0 from.frame (at-top w from.frame from.rest from.on) (sym from.number)) ∙ from.none in
    left-none (any (is_fire n c) mid) (was_removed c mid)
    (none-among (set_of what m.1.world.callbacks) (λ d. not (any (is_fire n d) mid) && not (was_removed d mid)) c empty among)

-- A number that was told is told no more.
told-high : (n : ℕ) (s : State) (l : Label) (w : View) → Works s l w → n < s.occurrence → is_told n l ≡ false
told-high n s l w (works_none quiet is) low = ap (λ (d : Deed). tells_of n d) quiet
told-high n s l w (empties quiet is at_finish) low = ap (λ (d : Deed). tells_of n d) quiet
told-high n s l w (orders_one who o a is changes) low = ap (λ (x : Label). is_told n x) is
told-high n s l w (tells_one k what is number after) low =
    ap (λ (x : Label). is_told n x) is ∙ ne_eqb n k (λ same. omega arith)
told-high n s l w (fires_one k c f rest is on number among after) low = ap (λ (x : Label). is_told n x) is
told-high n s l w (closes_one k f rest is on number none after) low = ap (λ (x : Label). is_told n x) is

told-on : (n : ℕ) (s : State) (moves : List Move) → IsPath s moves → n < s.occurrence → any (is_told n) moves ≡ false
told-on n s [] path low = refl
told-on n s (m ∷ moves) path low =
    let works : Works s m.0 (view_of m.1) = made-works s m path.0 in
    or_false (is_told n m.0) (any (is_told n) moves) (told-high n s m.0 (view_of m.1) works low)
    (told-on n m.1 moves path.1 (let more = works-number s m.0 (view_of m.1) works in omega arith))

telling-in : (s : State) (m : Move) (n : ℕ) (reason : Reason) (object : Option Object) → m.0 ≡ label.Occ n reason object
    → Works s m.0 (view_of m.1) → (what : Occurrence) × IsTelling m n what
telling-in s m n reason object told (works_none quiet is) = absurd (let d : tells n ≡ other = ap deed_of (sym told) ∙ quiet in cc)
telling-in s m n reason object told (empties quiet is at_finish) = absurd (let d : tells n ≡ other = ap deed_of (sym told) ∙ quiet in cc)
telling-in s m n reason object told (orders_one who o a is changes) =
    absurd (let d : tells n ≡ answers a = ap deed_of (sym told ∙ is) in cc)
telling-in s m n reason object told (tells_one k what is number after) =
    let d : tells n ≡ tells k = ap deed_of (sym told ∙ is) in
    let same : k ≡ n = cc in
    (what, subst (λ (x : ℕ). IsTelling m x what) same (telling-of s m k what is after))
telling-in s m n reason object told (fires_one k c f rest is on number among after) =
    absurd (let d : tells n ≡ fires k c = ap deed_of (sym told ∙ is) in cc)
telling-in s m n reason object told (closes_one k f rest is on number none after) =
    absurd (let d : tells n ≡ closes k = ap deed_of (sym told ∙ is) in cc)

pub tells-once : (s : State) (moves : List Move) → IsPath s moves → TellsOnce moves
tells-once s moves path before behind n reason object t is =
    let m : Move = (label.Occ n reason object, t) in
    let parts = path_at s moves before (m ∷ behind) path is in
    let u : State = end_of s before in
    let works : Works u m.0 (view_of t) = made-works u m parts.1.0 in
    let from : ToldFrom u n (view_of t) = told-from u m.0 n reason object (view_of t) refl works in
    (telling-in u m n reason object refl works, told-on n t behind parts.1.1 (let e = from.next in omega arith))

-- A number below the next that is of no frame stays so, and is done no more.
record HasNone (n : ℕ) (v : View) : Type 0 where
  below : n < v.occurrence
  none : (i : ℕ) (f : Frame) → slice_get v.frames i ≡ Some f → f.number ≡ n → ⊥

same-none : (n : ℕ) (s : State) (w : View) → w.frames ≡ frames_of s → HasNone n (view_of s)
    → (i : ℕ) (f : Frame) → slice_get w.frames i ≡ Some f → f.number ≡ n → ⊥
same-none n s w same has i f at of = has.none i f (sym (ap (λ (fs : List Frame). slice_get fs i) same) ∙ at) of

told-none : (n k i : ℕ) (s : State) (what : Occurrence) (f : Frame) → HasNone n (view_of s) → k ≡ s.occurrence
    → slice_get (record { number = k; what = what; left = set_of what s.world.callbacks } ∷ frames_of s) i ≡ Some f
    → f.number ≡ n → ⊥
told-none n k zero s what f has number at of =
    let here : record { number = k; what = what; left = set_of what s.world.callbacks } ≡ f = cc in
    let same : k ≡ f.number = ap (λ (x : Frame). x.number) here in let low = has.below in omega arith
told-none n k (suc i) s what f has number at of = has.none i f at of

fired-none : (n c i : ℕ) (s : State) (g : Frame) (rest : List Frame) (f : Frame) → HasNone n (view_of s)
    → frames_of s ≡ g ∷ rest → slice_get (taken_from c g ∷ rest) i ≡ Some f → f.number ≡ n → ⊥
fired-none n c zero s g rest f has on at of =
    let here : taken_from c g ≡ f = cc in
    has.none 0 g (ap (λ (fs : List Frame). slice_get fs 0) on) (ap (λ (x : Frame). x.number) here ∙ of)
fired-none n c (suc i) s g rest f has on at of = has.none (suc i) f (ap (λ (fs : List Frame). slice_get fs (suc i)) on ∙ at) of

frames-none : (n : ℕ) (s : State) (l : Label) (w : View) → Works s l w → HasNone n (view_of s)
    → (i : ℕ) (f : Frame) → slice_get w.frames i ≡ Some f → f.number ≡ n → ⊥
frames-none n s l w (works_none quiet is) has i f at of = same-none n s w (ap (λ (x : View). x.frames) is) has i f at of
frames-none n s l w (empties quiet is at_finish) has i f at of =
    let none : slice_get w.frames i ≡ None = ap (λ (x : View). slice_get x.frames i) is in absurd (cc)
frames-none n s l w (orders_one who o a is (changes_none plain after)) has i f at of =
    same-none n s w (ap (λ (x : View). x.frames) after) has i f at of
frames-none n s l w (orders_one who o a is (opens_one h x gives fresh finds after)) has i f at of =
    same-none n s w (ap (λ (y : View). y.frames) after) has i f at of
frames-none n s l w (orders_one who o a is (registers_one h r b gives fresh room asks after)) has i f at of =
    same-none n s w (ap (λ (y : View). y.frames) after) has i f at of
frames-none n s l w (orders_one who o a is (removes_one c h by one names after)) has i f at of =
    let from = map-at c i (frames_of s) f (sym (ap (λ (x : View). slice_get x.frames i) after) ∙ at) in
    has.none i from.0 from.1 (ap (λ (x : Frame). x.number) from.2 ∙ of)
frames-none n s l w (orders_one who o a is (frees_one h by one live after)) has i f at of =
    same-none n s w (ap (λ (y : View). y.frames) after) has i f at of
frames-none n s l w (tells_one k what is number after) has i f at of =
    told-none n k i s what f has number (sym (ap (λ (x : View). slice_get x.frames i) after) ∙ at) of
frames-none n s l w (fires_one k c g rest is on number among after) has i f at of =
    fired-none n c i s g rest f has on (sym (ap (λ (x : View). slice_get x.frames i) after) ∙ at) of
frames-none n s l w (closes_one k g rest is on number none after) has i f at of =
    has.none (suc i) f (ap (λ (fs : List Frame). slice_get fs (suc i)) on ∙ sym (ap (λ (x : View). slice_get x.frames i) after) ∙ at) of

done-high : (n : ℕ) (s : State) (l : Label) (w : View) → Works s l w → HasNone n (view_of s) → is_done n l ≡ false
done-high n s l w (works_none quiet is) has = ap (λ (d : Deed). closes_of n d) quiet
done-high n s l w (empties quiet is at_finish) has = ap (λ (d : Deed). closes_of n d) quiet
done-high n s l w (orders_one who o a is changes) has = ap (λ (x : Label). is_done n x) is
done-high n s l w (tells_one k what is number after) has = ap (λ (x : Label). is_done n x) is
done-high n s l w (fires_one k c f rest is on number among after) has = ap (λ (x : Label). is_done n x) is
done-high n s l w (closes_one k f rest is on number none after) has =
    ap (λ (x : Label). is_done n x) is
    ∙ ne_eqb n k (λ same. has.none 0 f (ap (λ (fs : List Frame). slice_get fs 0) on) (sym number ∙ sym same))

done-on : (n : ℕ) (s : State) (moves : List Move) → IsPath s moves → HasNone n (view_of s) → any (is_done n) moves ≡ false
done-on n s [] path has = refl
done-on n s (m ∷ moves) path has =
    let works : Works s m.0 (view_of m.1) = made-works s m path.0 in
    or_false (is_done n m.0) (any (is_done n) moves) (done-high n s m.0 (view_of m.1) works has)
    (done-on n m.1 moves path.1 (record {
      below = (let more = works-number s m.0 (view_of m.1) works in let low = has.below in omega arith);
      none = frames-none n s m.0 (view_of m.1) works has;
    }))

rest-none : (s : State) (f : Frame) (rest : List Frame) (n : ℕ) → frames_of s ≡ f ∷ rest → n ≡ f.number
    → Falls s.occurrence (frames_of s) → (i : ℕ) (g : Frame) → slice_get rest i ≡ Some g → g.number ≡ n → ⊥
rest-none s f rest n on number falls i g at of =
    let there : Falls s.occurrence (f ∷ rest) = subst (λ (fs : List Frame). Falls s.occurrence fs) on falls in
    let low : g.number < f.number = falls-below f.number i rest g there.1 at in omega arith

pub done-once : (s : State) (moves : List Move) → IsPath s moves → Keeps [] (view_of s) → DoneOnce moves
done-once s moves path keeps before behind n t is =
    let m : Move = (label.Done n, t) in
    let parts = path_at s moves before (m ∷ behind) path is in
    let u : State = end_of s before in
    let there : Keeps before (view_of u) = keeps-on [] s before parts.0 keeps in
    let from : DoneFrom u n (view_of t) = done-from u n (view_of t) (made-works u m parts.1.0) in
    let stands : Stands before u.world.callbacks from.frame.number from.frame.left =
    there.stands 0 from.frame (at-top u from.frame from.rest from.on) in
    let here : Stands before u.world.callbacks n from.frame.left =
    subst (λ (k : ℕ). Stands before u.world.callbacks k from.frame.left) (sym from.number) stands in
    let falls : Falls u.occurrence (from.frame ∷ from.rest) = subst (λ (fs : List Frame). Falls u.occurrence fs) from.on there.falls in (
      here.told,
      here.undone,
      done-on n t behind parts.1.1 (record {
        below = (let e = from.next in let k = from.number in let low = falls.0 in omega arith);
        none = λ i g at of. rest-none u from.frame from.rest n from.on from.number there.falls i g
            (sym (ap (λ (fs : List Frame). slice_get fs i) from.left) ∙ at) of;
      }),
    )

-- What was told after an occurrence whose frame still stands is done, or stands above it.
abbrev HasFrame : ℕ → View → Type 0
HasFrame k v = (i : ℕ) × (f : Frame) × (slice_get v.frames i ≡ Some f) × (f.number ≡ k)

abbrev Settled : List Move → View → Type 0
Settled seen v = (k : ℕ) → any (is_told k) seen ≡ true → (any (is_done k) seen ≡ true) ⊎ HasFrame k v

abbrev Nests : ℕ → List Move → View → Type 0
Nests n seen v = HasNone n v ⊎ ((n < v.occurrence) × Settled seen v)

last-of : (is : Label → Bool) (history : List Move) (m : Move) → any is (and_then history m) ≡ true → is m.0 ≡ false → any is history ≡ true
last-of is [] m some here = absurd (not_both (is m.0 || false) some (or_false (is m.0) false here refl))
last-of is (x ∷ xs) m some here = or-kept (is x.0) (any is (and_then xs m)) (any is xs) (λ more. last-of is xs m more here) some

quiet-told : (l : Label) → deed_of l ≡ other → (k : ℕ) → is_told k l ≡ false
quiet-told l quiet k = ap (λ (d : Deed). tells_of k d) quiet

settled-same : (seen : List Move) (s : State) (m : Move) → ((k : ℕ) → is_told k m.0 ≡ false)
    → ((k : ℕ) → HasFrame k (view_of s) → HasFrame k (view_of m.1)) → Settled seen (view_of s)
    → Settled (and_then seen m) (view_of m.1)
settled-same seen s m untold frames settled k told =
    elim (settled k (last-of (is_told k) seen m told (untold k))) [
      | inl done ↦ inl (any-kept (is_done k) seen m done)
      | inr stands ↦ inr (frames k stands)
    ]

same-frames : (s : State) (w : View) → w.frames ≡ frames_of s → (k : ℕ) → HasFrame k (view_of s) → HasFrame k w
same-frames s w same k (i, f, at, of) = (i, f, ap (λ (fs : List Frame). slice_get fs i) same ∙ at, of)

pub get-map : (c i : ℕ) (fs : List Frame) (f : Frame) → slice_get fs i ≡ Some f → slice_get (map (taken_from c) fs) i ≡ Some (taken_from c f)
get-map c i [] f at = absurd (cc)
get-map c zero (g ∷ fs) f at = let same : g ≡ f = cc in ap (λ (x : Frame). Some (taken_from c x)) same
get-map c (suc i) (g ∷ fs) f at = get-map c i fs f at

pub fired-frames : (c : ℕ) (s : State) (f : Frame) (rest : List Frame) → frames_of s ≡ f ∷ rest
    → (k i : ℕ) (g : Frame) → slice_get (f ∷ rest) i ≡ Some g → g.number ≡ k
    → (j : ℕ) × (h : Frame) × (slice_get (taken_from c f ∷ rest) j ≡ Some h) × (h.number ≡ k)
fired-frames c s f rest on k zero g at of =
    let same : f ≡ g = cc in (0, taken_from c f, refl, ap (λ (x : Frame). x.number) same ∙ of)
fired-frames c s f rest on k (suc i) g at of = (suc i, g, at, of)

told-settled : (seen : List Move) (s : State) (m : Move) (n : ℕ) (what : Occurrence) → m.0 ≡ label.Occ n what.reason what.object
    → view_of m.1 ≡ record (view_of s) {
      frames = record { number = n; what = what; left = set_of what s.world.callbacks } ∷ frames_of s;
      occurrence = n + 1;
    } → Settled seen (view_of s) → (k : ℕ) → any (is_told k) (and_then seen m) ≡ true → (b : Bool) → nat_eq k n ≡ b
    → (any (is_done k) (and_then seen m) ≡ true) ⊎ HasFrame k (view_of m.1)
told-settled seen s m n what is after settled k told true same =
    inr (0, record { number = n; what = what; left = set_of what s.world.callbacks }, ap (λ (x : View). slice_get x.frames 0) after, sym (eqb-true k n same))
told-settled seen s m n what is after settled k told false apart =
    elim (settled k (last-of (is_told k) seen m told (ap (λ (x : Label). is_told k x) is ∙ apart))) [
      | inl done ↦ inl (any-kept (is_done k) seen m done)
      | inr stands ↦ inr (suc stands.0, stands.1, ap (λ (x : View). slice_get x.frames (suc stands.0)) after ∙ stands.2, stands.3)
    ]

closed-by : (seen : List Move) (m : Move) (n k : ℕ) (f : Frame) (rest : List Frame) → m.0 ≡ label.Done n → n ≡ f.number
    → frames_of m.1 ≡ rest → (i : ℕ) (g : Frame) → slice_get (f ∷ rest) i ≡ Some g → g.number ≡ k
    → (any (is_done k) (and_then seen m) ≡ true) ⊎ HasFrame k (view_of m.1)
closed-by seen m n k f rest is number left zero g at of =
    let same : f ≡ g = cc in
    let one : k ≡ n = sym of ∙ ap (λ (x : Frame). x.number) (sym same) ∙ sym number in
    inl (any-here (is_done k) seen m (ap (λ (x : Label). is_done k x) is ∙ eq-eqb k n one))
closed-by seen m n k f rest is number left (suc i) g at of =
    inr (i, g, ap (λ (fs : List Frame). slice_get fs i) left ∙ at, of)

closed-settled : (seen : List Move) (s : State) (m : Move) (n : ℕ) (f : Frame) (rest : List Frame) → m.0 ≡ label.Done n
    → frames_of s ≡ f ∷ rest → n ≡ f.number → frames_of m.1 ≡ rest → (k : ℕ)
    → (any (is_done k) seen ≡ true) ⊎ HasFrame k (view_of s) → (any (is_done k) (and_then seen m) ≡ true) ⊎ HasFrame k (view_of m.1)
closed-settled seen s m n f rest is on number left k (inl done) = inl (any-kept (is_done k) seen m done)
closed-settled seen s m n f rest is on number left k (inr (i, g, at, of)) =
    closed-by seen m n k f rest is number left i g (ap (λ (fs : List Frame). slice_get fs i) (sym on) ∙ at) of

nest-settled : (seen : List Move) (s : State) (m : Move) → Works s m.0 (view_of m.1) → Settled seen (view_of s)
    → (view_of m.1 ≡ record (view_of s) { frames = [] }) ⊎ Settled (and_then seen m) (view_of m.1)
nest-settled seen s m (works_none quiet is) settled =
    inr (settled-same seen s m (quiet-told m.0 quiet) (same-frames s (view_of m.1) (ap (λ (x : View). x.frames) is)) settled)
nest-settled seen s m (empties quiet is at_finish) settled = inl is
nest-settled seen s m (orders_one who o a is (changes_none plain after)) settled =
    inr (settled-same seen s m (λ k. ap (λ (x : Label). is_told k x) is)
    (same-frames s (view_of m.1) (ap (λ (x : View). x.frames) after)) settled)
nest-settled seen s m (orders_one who o a is (opens_one h x gives fresh finds after)) settled =
    inr (settled-same seen s m (λ k. ap (λ (y : Label). is_told k y) is)
    (same-frames s (view_of m.1) (ap (λ (y : View). y.frames) after)) settled)
nest-settled seen s m (orders_one who o a is (registers_one h r b gives fresh room asks after)) settled =
    inr (settled-same seen s m (λ k. ap (λ (y : Label). is_told k y) is)
    (same-frames s (view_of m.1) (ap (λ (y : View). y.frames) after)) settled)
nest-settled seen s m (orders_one who o a is (removes_one c h by one names after)) settled =
    inr (settled-same seen s m (λ k. ap (λ (y : Label). is_told k y) is)
    (λ k stands. (
      stands.0,
      taken_from c stands.1,
      ap (λ (y : View). slice_get y.frames stands.0) after
          ∙ get-map c stands.0 (frames_of s) stands.1 stands.2,
      stands.3,
    )) settled)
nest-settled seen s m (orders_one who o a is (frees_one h by one live after)) settled =
    inr (settled-same seen s m (λ k. ap (λ (y : Label). is_told k y) is)
    (same-frames s (view_of m.1) (ap (λ (y : View). y.frames) after)) settled)
nest-settled seen s m (tells_one n what is number after) settled =
    inr (λ k told. told-settled seen s m n what is after settled k told (nat_eq k n) refl)
nest-settled seen s m (fires_one n c f rest is on number among after) settled =
    inr (settled-same seen s m (λ k. ap (λ (y : Label). is_told k y) is)
    (λ k stands. (let there = fired-frames c s f rest on k stands.0 stands.1
    (ap (λ (fs : List Frame). slice_get fs stands.0) (sym on) ∙ stands.2) stands.3 in
    (there.0, there.1, ap (λ (y : View). slice_get y.frames there.0) after ∙ there.2, there.3))) settled)
nest-settled seen s m (closes_one n f rest is on number none after) settled =
    inr (λ k told. closed-settled seen s m n f rest is on number (ap (λ (x : View). x.frames) after) k
    (settled k (last-of (is_told k) seen m told (ap (λ (y : Label). is_told k y) is))))

nest-step : (n : ℕ) (seen : List Move) (s : State) (m : Move) → Works s m.0 (view_of m.1) → Nests n seen (view_of s)
    → Nests n (and_then seen m) (view_of m.1)
nest-step n seen s m works (inl has) = inl (record {
  below = (let more = works-number s m.0 (view_of m.1) works in let low = has.below in omega arith);
  none = frames-none n s m.0 (view_of m.1) works has;
})
nest-step n seen s m works (inr (low, settled)) =
    let more = works-number s m.0 (view_of m.1) works in
    elim (nest-settled seen s m works settled) [
      | inl emptied ↦ inl (record {
        below = omega arith;
        none = λ i f at of. (let none : slice_get (frames_of m.1) i ≡ None = ap (λ (x : View). slice_get x.frames i) emptied in absurd (cc));
      })
      | inr still ↦ inr (omega arith, still)
    ]

nest-on : (n : ℕ) (seen : List Move) (s : State) (moves : List Move) → IsPath s moves → Nests n seen (view_of s)
    → Nests n (seen ++ moves) (view_of (end_of s moves))
nest-on n seen s [] path nests = subst (λ (ms : List Move). Nests n ms (view_of s)) (sym (append-nil seen)) nests
nest-on n seen s (m ∷ moves) path nests =
    subst (λ (ms : List Move). Nests n ms (view_of (end_of m.1 moves))) (append_assoc seen (m ∷ []) moves)
    (nest-on n (and_then seen m) m.1 moves path.1 (nest-step n seen s m (made-works s m path.0) nests))

le-or-lt : (a b : ℕ) → (a ≤ b) ⊎ (b < a)
le-or-lt a b = elim (either (nat_le a b)) [
  | inl is ↦ inl (leb-true a b is)
  | inr is ↦ inr (leb-false a b is)
]

-- What is told from a state on has its next number at least.
told-least : (k : ℕ) (s : State) (moves : List Move) → IsPath s moves → any (is_told k) moves ≡ true → s.occurrence ≤ k
told-least k s moves path told = elim (le-or-lt s.occurrence k) [
  | inl above ↦ above
  | inr low ↦ absurd (not_both (any (is_told k) moves) told (told-on k s moves path low))
]

falls-on : (s : State) (moves : List Move) → IsPath s moves → Falls s.occurrence (frames_of s)
    → Falls (end_of s moves).occurrence (frames_of (end_of s moves))
falls-on s [] path falls = falls
falls-on s (m ∷ moves) path falls =
    falls-on m.1 moves path.1 (works-falls s m.0 (view_of m.1) (made-works s m path.0) falls)

top-is-highest : (s : State) (k n : ℕ) (f : Frame) (rest : List Frame) → HasFrame k (view_of s) → frames_of s ≡ f ∷ rest
    → n ≡ f.number → Falls s.occurrence (frames_of s) → n < k → ⊥
top-is-highest s k n f rest (i, g, at, of) on number falls above =
    let there : Falls s.occurrence (f ∷ rest) = subst (λ (fs : List Frame). Falls s.occurrence fs) on falls in
    let low : g.number < f.number + 1 =
    falls-below (f.number + 1) i (f ∷ rest) g (omega arith, there.1) (ap (λ (fs : List Frame). slice_get fs i) (sym on) ∙ at) in
    omega arith

pub closes-in-order : (s : State) (moves : List Move) → IsPath s moves → Keeps [] (view_of s) → ClosesInOrder moves
closes-in-order s moves path keeps front mid behind n k reason object u t is told =
    let first : Move = (label.Occ n reason object, u) in
    let last : Move = (label.Done n, t) in
    let parts = path_at s moves front ((first ∷ mid) ++ last ∷ behind) path
    (is ∙ append_assoc front (first ∷ mid) (last ∷ behind)) in
    let v : State = end_of s front in
    let from : ToldFrom v n (view_of u) = told-from v first.0 n reason object (view_of u) refl (made-works v first parts.1.0) in
    let halves = path_split u mid (last ∷ behind) parts.1.1 in
    let w : State = end_of u mid in
    let below : n < u.occurrence = (let e = from.next in omega arith) in
    let done : DoneFrom w n (view_of t) = done-from w n (view_of t) (made-works w last halves.1.0) in
    let there : Keeps front (view_of v) = keeps-on [] s front parts.0 keeps in
    let works : Works v first.0 (view_of u) = made-works v first parts.1.0 in
    let falls : Falls w.occurrence (frames_of w) =
    falls-on u mid halves.0 (works-falls v first.0 (view_of u) works there.falls) in
    let least : u.occurrence ≤ k = told-least k u mid halves.0 told in
    elim (nest-on n [] u mid halves.0 (inr (below, (λ j some. absurd (cc))))) [
      | inl gone ↦ absurd (gone.none 0 done.frame (at-top w done.frame done.rest done.on) (sym done.number))
      | inr nests ↦ elim (nests.1 k told) [
        | inl ended ↦ ended
        | inr stands ↦ absurd (top-is-highest w k n done.frame done.rest stands done.on done.number falls (let e = from.next in omega arith))
      ]
    ]

-- A callback goes by a removal.
lost-live : (c : ℕ) (a b : Callbacks Body) → is_live c a ≡ true → is_live c b ≡ false → b ≡ a → ⊥
lost-live c a b alive gone same = not_both (is_live c a) alive (ap (λ (x : Callbacks Body). is_live c x) (sym same) ∙ gone)

goes-by : (b : Bool) (c d h : ℕ) (s : State) (l : Label) (who : Who) (o : Order) (a : Answer) → nat_eq c d ≡ b → l ≡ label.Do who o a
    → o ≡ order.Remove (Some h) → a ≡ answer.Number 1 → thing_at h s.world.handles ≡ Some (thing.Callback d)
    → is_live c s.world.callbacks ≡ true → is_live c (removed d s.world.callbacks) ≡ false → removes l s ≡ Some c
goes-by true c d h s l who o a is told by one names alive gone =
    ap (λ (x : Label). removes x s)
    (told ∙ ap (λ (x : Order). label.Do who x a) by ∙ ap (λ (x : Answer). label.Do who (order.Remove (Some h)) x) one)
    ∙ removal-removes who h d 1 s names ∙ ap (λ (x : ℕ). Some x) (sym (eqb-true c d is))
goes-by false c d h s l who o a is told by one names alive gone =
    absurd (not_both (is_live c s.world.callbacks) alive (sym (live_removed d c s.world.callbacks is) ∙ gone))

works-go : (s : State) (l : Label) (w : View) (c : ℕ) → Works s l w → IsSound s.world.callbacks → is_live c s.world.callbacks ≡ true
    → is_live c w.callbacks ≡ false → removes l s ≡ Some c
works-go s l w c (works_none quiet is) sound alive gone =
    absurd (lost-live c s.world.callbacks w.callbacks alive gone (ap (λ (x : View). x.callbacks) is))
works-go s l w c (empties quiet is at_finish) sound alive gone =
    absurd (lost-live c s.world.callbacks w.callbacks alive gone (ap (λ (x : View). x.callbacks) is))
works-go s l w c (orders_one who o a is (changes_none plain after)) sound alive gone =
    absurd (lost-live c s.world.callbacks w.callbacks alive gone (ap (λ (x : View). x.callbacks) after))
works-go s l w c (orders_one who o a is (opens_one h x gives fresh finds after)) sound alive gone =
    absurd (lost-live c s.world.callbacks w.callbacks alive gone (ap (λ (y : View). y.callbacks) after))
works-go s l w c (orders_one who o a is (registers_one h r b gives fresh room asks after)) sound alive gone =
    absurd (not_both (is_live c s.world.callbacks) alive
    (sym (live_registered c r b s.world.callbacks (live_low c s.world.callbacks sound alive))
    ∙ ap (λ (y : View). is_live c y.callbacks) (sym after) ∙ gone))
works-go s l w c (orders_one who o a is (removes_one d h by one names after)) sound alive gone =
    goes-by (nat_eq c d) c d h s l who o a refl is by one names alive (ap (λ (y : View). is_live c y.callbacks) (sym after) ∙ gone)
works-go s l w c (orders_one who o a is (frees_one h by one live after)) sound alive gone =
    absurd (lost-live c s.world.callbacks w.callbacks alive gone (ap (λ (y : View). y.callbacks) after))
works-go s l w c (tells_one n what is number after) sound alive gone =
    absurd (lost-live c s.world.callbacks w.callbacks alive gone (ap (λ (x : View). x.callbacks) after))
works-go s l w c (fires_one n d f rest is on number among after) sound alive gone =
    absurd (lost-live c s.world.callbacks w.callbacks alive gone (ap (λ (x : View). x.callbacks) after))
works-go s l w c (closes_one n f rest is on number none after) sound alive gone =
    absurd (lost-live c s.world.callbacks w.callbacks alive gone (ap (λ (x : View). x.callbacks) after))

pub goes-by-removal : (s : State) (moves : List Move) → IsPath s moves → Keeps [] (view_of s) → GoesByRemoval s moves
goes-by-removal s moves path keeps before behind m c is alive gone =
    let parts = path_at s moves before (m ∷ behind) path is in
    let u : State = end_of s before in
    let there : Keeps before (view_of u) = keeps-on [] s before parts.0 keeps in
    works-go u m.0 (view_of m.1) c (made-works u m parts.1.0) there.sound alive gone

-- What a removal changes.
pub record RemovedFrom (s : State) (h : ℕ) (w : View) : Type 0 where
  pub callback : ℕ
  pub names : thing_at h s.world.handles ≡ Some (thing.Callback callback)
  pub callbacks : w.callbacks ≡ removed callback s.world.callbacks
  pub handles : w.handles ≡ freed h s.world.handles

changes-removed : (s : State) (h n : ℕ) (o : Order) (a : Answer) (w : View) → o ≡ order.Remove (Some h) → a ≡ answer.Number n
    → Changes s o a w → RemovedFrom s h w
changes-removed s h n o a w by one (changes_none plain after) =
    absurd (let none : Some h ≡ None = ap (λ (x : Answer). freed_by (order.Remove (Some h)) x) (sym one)
    ∙ ap (λ (x : Order). freed_by x a) (sym by) ∙ plain.1 in cc)
changes-removed s h n o a w by one (opens_one k x gives fresh finds after) =
    absurd (let d : answer.Number n ≡ answer.Handle k = sym one ∙ gives in cc)
changes-removed s h n o a w by one (registers_one k r b gives fresh room asks after) =
    absurd (let d : answer.Number n ≡ answer.Handle k = sym one ∙ gives in cc)
changes-removed s h n o a w by one (removes_one c k too counts names after) =
    let both : order.Remove (Some h) ≡ order.Remove (Some k) = sym by ∙ too in
    let same : k ≡ h = cc in record {
      callback = c;
      names = ap (λ (x : ℕ). thing_at x s.world.handles) (sym same) ∙ names;
      callbacks = ap (λ (x : View). x.callbacks) after;
      handles = ap (λ (x : View). x.handles) after ∙ ap (λ (x : ℕ). freed x s.world.handles) same;
    }
changes-removed s h n o a w by one (frees_one k too counts live after) =
    absurd (let both : order.Remove (Some h) ≡ order.Free (Some k) = sym by ∙ too in cc)

pub removed-from : (s : State) (l : Label) (w : View) (who : Who) (h k : ℕ) → l ≡ label.Do who (order.Remove (Some h)) (answer.Number k)
    → Works s l w → RemovedFrom s h w
removed-from s l w who h k removes (works_none quiet is) =
    absurd (let d : answers (answer.Number k) ≡ other = ap deed_of (sym removes) ∙ quiet in cc)
removed-from s l w who h k removes (empties quiet is at_finish) =
    absurd (let d : answers (answer.Number k) ≡ other = ap deed_of (sym removes) ∙ quiet in cc)
removed-from s l w who h k removes (orders_one by o a is changes) =
    let both : label.Do who (order.Remove (Some h)) (answer.Number k) ≡ label.Do by o a = sym removes ∙ is in
    let same_order : o ≡ order.Remove (Some h) = cc in
    let same_answer : a ≡ answer.Number k = cc in
    changes-removed s h k o a w same_order same_answer changes
removed-from s l w who h k removes (tells_one n what is number after) =
    absurd (let d : answers (answer.Number k) ≡ tells n = ap deed_of (sym removes ∙ is) in cc)
removed-from s l w who h k removes (fires_one n c f rest is on number among after) =
    absurd (let d : answers (answer.Number k) ≡ fires n c = ap deed_of (sym removes ∙ is) in cc)
removed-from s l w who h k removes (closes_one n f rest is on number none after) =
    absurd (let d : answers (answer.Number k) ≡ closes n = ap deed_of (sym removes ∙ is) in cc)

-- A callback that isn't live and was registered before fires no more.
gone-label : (history : List Move) (s : State) (l : Label) (w : View) (c : ℕ) → Works s l w → Keeps history (view_of s)
    → is_live c s.world.callbacks ≡ false → is_fire_of c l ≡ false
gone-label history s l w c (works_none quiet is) keeps gone = ap (λ (d : Deed). fires_any c d) quiet
gone-label history s l w c (empties quiet is at_finish) keeps gone = ap (λ (d : Deed). fires_any c d) quiet
gone-label history s l w c (orders_one who o a is changes) keeps gone = ap (λ (x : Label). is_fire_of c x) is
gone-label history s l w c (tells_one n what is number after) keeps gone = ap (λ (x : Label). is_fire_of c x) is
gone-label history s l w c (fires_one n d f rest is on number among after) keeps gone =
    let stands : Stands history s.world.callbacks f.number f.left = keeps.stands 0 f (at-top s f rest on) in
    let waits : Waits history s.world.callbacks f.number d = stands.waits d among in
    ap (λ (x : Label). is_fire_of c x) is
    ∙ ne_eqb c d (λ same. not_both (is_live c s.world.callbacks) (ap (λ (x : ℕ). is_live x s.world.callbacks) same ∙ waits.live) gone)
gone-label history s l w c (closes_one n f rest is on number none after) keeps gone = ap (λ (x : Label). is_fire_of c x) is

gone-on : (c : ℕ) (history : List Move) (s : State) (moves : List Move) → IsPath s moves → Keeps history (view_of s)
    → c < s.world.callbacks.next → is_live c s.world.callbacks ≡ false → any (is_fire_of c) moves ≡ false
gone-on c history s [] path keeps below gone = refl
gone-on c history s (m ∷ moves) path keeps below gone =
    let works : Works s m.0 (view_of m.1) = made-works s m path.0 in
    let turns : ChangesByOne s.world.callbacks m.1.world.callbacks = works-turn s m.0 (view_of m.1) works in
    let grows : s.world.callbacks.next ≤ m.1.world.callbacks.next = turns_next s.world.callbacks m.1.world.callbacks turns in
    or_false (is_fire_of c m.0) (any (is_fire_of c) moves) (gone-label history s m.0 (view_of m.1) c works keeps gone)
    (gone-on c (and_then history m) m.1 moves path.1 (works-keeps history s m works keeps) (omega arith)
    (stays_gone c s.world.callbacks m.1.world.callbacks turns keeps.sound below gone))

pub removes-for-good : (s : State) (moves : List Move) → IsPath s moves → Keeps [] (view_of s) → RemovesForGood s moves
removes-for-good s moves path keeps before behind m c is removal =
    let parts = path_at s moves before (m ∷ behind) path is in
    let u : State = end_of s before in
    let there : Keeps before (view_of u) = keeps-on [] s before parts.0 keeps in
    let works : Works u m.0 (view_of m.1) = made-works u m parts.1.0 in
    let freed_by_it : FreesOf m.0 c u = removing-frees m.0 c u removal in
    let from : RemovedFrom u freed_by_it.handle (view_of m.1) =
    removed-from u m.0 (view_of m.1) freed_by_it.who freed_by_it.handle freed_by_it.number freed_by_it.is works in
    let both : Some (thing.Callback from.callback) ≡ Some (thing.Callback c) = sym from.names ∙ freed_by_it.names in
    let same : from.callback ≡ c = cc in
    let dead : is_live c m.1.world.callbacks ≡ false =
    ap (λ (x : Callbacks Body). is_live c x) from.callbacks
    ∙ ap (λ (x : ℕ). is_live c (removed x u.world.callbacks)) same ∙ gone_removed c u.world.callbacks there.sound in
    let low : c < u.world.callbacks.next = there.names freed_by_it.handle c freed_by_it.names in
    let grows : u.world.callbacks.next ≤ m.1.world.callbacks.next =
    turns_next u.world.callbacks m.1.world.callbacks (works-turn u m.0 (view_of m.1) works) in
    record {
      dead = dead;
      silent = gone-on c (and_then before m) m.1 behind parts.1.1 (works-keeps before u m works there) (omega arith) dead;
    }
