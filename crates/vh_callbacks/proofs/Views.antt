-- How contracts see what the registry keeps, after each of its calls.
use Rattle.std.proofs.Common.{◌≡◌, ◌+◌, ◌++◌, ◌∷◌, [], ℕ, List, Bool, true, false, cond, not, refl, sym, ap, ◌∙◌, Option, Some, None}
use Rattle.std.specs.Option.{option_map}
use Rattle.vh_callbacks.specs.declared.index.Watch.{Watch}
use Rattle.vh_callbacks.specs.declared.live.Kept.{Kept}
use Rattle.vh_callbacks.specs.declared.live.Live.{Live}
use Rattle.vh_callbacks.specs.declared.registration.Registration.{Registration}
use Rattle.vh_callbacks.specs.declared.registration.Removed.TheVariants as removal
use Rattle.vh_callbacks.specs.Callbacks.{Callbacks, Rise, live_at, without, changed, changed_by, changed_in, registered, removed, ended, is_running, is_last, one_less, held_less, body_after, gone_of, activations_of}
use Rattle.vh_callbacks.specs.Watching.{watch}
use Rattle.vh_callbacks.specs.Keeping.{is_live_one, is_held_one, live_of, held_among, inside, unmarked, only, watched_by, is_running_one, is_last_one, activations_in}
use Rattle.vh_callbacks.proofs.CallbacksLemmas.{without_absent}
use Rattle.vh_callbacks.proofs.LawsLemmas.{count, new_one}
use Rattle.vh_callbacks.proofs.KeepingLemmas.{passing_at, passing_without, passing_changed, live_kept, live_more, held_more, live_unmarked, held_unmarked, live_gone, known_is}

module _ {B : Type 0} where
  -- The callbacks that are seen.
  abbrev pub seen : List (ℕ × Kept B) → ℕ → Callbacks B
  seen es next = record { live = live_of es; held = held_among es; next = next }

  pub seen_registered : (r : Registration) (b : B) (es : List (ℕ × Kept B)) (next : ℕ)
      → seen (es ++ (next, live_kept (new_one r b)) ∷ []) (next + 1) ≡ registered r b (seen es next)
  seen_registered r b es next = rw (live_more es next (new_one r b), held_more es next (new_one r b)) refl

  -- ---- a live one that is found

  pub record IsFound (o : Option (Kept B)) (w : Watch) : Type 0 where
    pub kept : Kept B
    pub is : o ≡ Some kept
    pub live : kept.is_live ≡ true
    pub watched : w ≡ watch kept.callback.registration.reason kept.callback.registration.object

  found_by : (b : Bool) (k : Kept B) (w : Watch) → k.is_live ≡ b → watched_by (cond b (Some k.callback) None) ≡ Some w → IsFound (Some k) w
  found_by true k w live is = record { kept = k; is = refl; live = live; watched = cc }
  found_by false k w live is = absurd (cc)

  pub found : (o : Option (Kept B)) (w : Watch) → watched_by (only is_live_one o) ≡ Some w → IsFound o w
  found None w is = absurd (cc)
  found (Some k) w is = found_by k.is_live k w refl is

  pub live_is : (n next : ℕ) (w : Watch) (es : List (ℕ × Kept B)) → Rise 1 es next → (f : IsFound (live_at n es) w)
      → live_at n (live_of es) ≡ Some f.kept.callback
  live_is n next w es h f =
      passing_at is_live_one n 1 es next h ∙ ap (only is_live_one) f.is ∙ ap (λ (b : Bool). cond b (Some f.kept.callback) None) f.live

  unwatched : (o : Option (Live B)) → watched_by o ≡ None → o ≡ None
  unwatched None is = refl
  unwatched (Some l) is = cc

  -- Where nothing is watched the number isn't live.
  pub none_live : (n next : ℕ) (es : List (ℕ × Kept B)) → Rise 1 es next → watched_by (only is_live_one (live_at n es)) ≡ None
      → live_at n (live_of es) ≡ None
  none_live n next es h is = passing_at is_live_one n 1 es next h ∙ unwatched (only is_live_one (live_at n es)) is

  pub seen_running : (n next : ℕ) (w : Watch) (es : List (ℕ × Kept B)) → Rise 1 es next → (f : IsFound (live_at n es) w) → is_running f.kept.callback ≡ true
      → seen (changed unmarked n es) next ≡ removed n (seen es next)
  seen_running n next w es h f runs =
      rw (live_unmarked n es next h, held_unmarked n f.kept es next h f.is, live_is n next w es h f, runs) refl

  pub none_held : (n next : ℕ) (w : Watch) (es : List (ℕ × Kept B)) → Rise 1 es next → IsFound (live_at n es) w → live_at n (held_among es) ≡ None
  none_held n next w es h f =
      passing_at is_held_one n 1 es next h ∙ ap (only is_held_one) f.is ∙ ap (λ (b : Bool). cond (not b) (Some f.kept.callback) None) f.live

  pub seen_gone : (n next : ℕ) (w : Watch) (es : List (ℕ × Kept B)) → Rise 1 es next → (f : IsFound (live_at n es) w) → is_running f.kept.callback ≡ false
      → seen (without n es) next ≡ removed n (seen es next)
  seen_gone n next w es h f quiet =
      rw (passing_without is_live_one n es next h, passing_without is_held_one n es next h, without_absent n (held_among es) (none_held n next w es h f), live_is n next w es h f, quiet) refl

  pub seen_none : (n next : ℕ) (es : List (ℕ × Kept B)) → Rise 1 es next → live_at n (live_of es) ≡ None → seen es next ≡ removed n (seen es next)
  seen_none n next es h none = rw (without_absent n (live_of es) none, none) refl

  pub runs_of : (o : Option (Kept B)) (w : Watch) (b : Bool) → (f : IsFound o w) → b ≡ is_running_one o → is_running f.kept.callback ≡ b
  runs_of o w b f is = sym (ap is_running_one f.is) ∙ sym is

  pub gone_running : (l : Live B) → is_running l ≡ true → removal.Running ≡ gone_of (Some l)
  gone_running l runs = rw runs refl

  pub gone_quiet : (l : Live B) → is_running l ≡ false → removal.Gone l.body ≡ gone_of (Some l)
  gone_quiet l quiet = rw quiet refl

  -- The body that is taken out is that of the callback.
  pub body_is : (o : Option (Kept B)) (k : Kept B) (b : B) → o ≡ Some k → option_map (λ (j : Kept B). j.callback.body) o ≡ Some b → b ≡ k.callback.body
  body_is o k b is taken = let same : Some b ≡ Some k.callback.body = sym taken ∙ ap (option_map (λ (j : Kept B). j.callback.body)) is in cc

  -- ---- activations

  pub seen_changed : (f : Live B → Live B) (n next : ℕ) (es : List (ℕ × Kept B)) → Rise 1 es next
      → seen (changed (inside f) n es) next ≡ changed_in f n (seen es next)
  seen_changed f n next es h =
      rw (passing_changed is_live_one f n es next (λ k. refl) h, passing_changed is_held_one f n es next (λ k. refl) h) refl

  count_kept : (o : Option (Kept B)) → count (option_map (λ (k : Kept B). k.callback) o) ≡ activations_in o
  count_kept None = refl
  count_kept (Some k) = refl

  pub activations_are : (n next : ℕ) (es : List (ℕ × Kept B)) → Rise 1 es next → activations_of n (seen es next) ≡ activations_in (live_at n es)
  activations_are n next es h = ap count (known_is n es next h) ∙ count_kept (live_at n es)

  -- one that is held, and whose last activation ends
  pub record IsEnding (o : Option (Kept B)) : Type 0 where
    pub kept : Kept B
    pub is : o ≡ Some kept
    pub held : kept.is_live ≡ false
    pub last : is_last kept.callback ≡ true

  ending_by : (b : Bool) (k : Kept B) → k.is_live ≡ b → cond b false (is_last k.callback) ≡ true → IsEnding (Some k)
  ending_by true k held is = absurd (cc)
  ending_by false k held is = record { kept = k; is = refl; held = held; last = is }

  pub ending : (o : Option (Kept B)) → is_last_one o ≡ true → IsEnding o
  ending None is = absurd (cc)
  ending (Some k) is = ending_by k.is_live k refl is

  pub ending_live : (n next : ℕ) (es : List (ℕ × Kept B)) → Rise 1 es next → IsEnding (live_at n es) → live_at n (live_of es) ≡ None
  ending_live n next es h e =
      passing_at is_live_one n 1 es next h ∙ ap (only is_live_one) e.is ∙ ap (λ (b : Bool). cond b (Some e.kept.callback) None) e.held

  pub ending_held : (n next : ℕ) (es : List (ℕ × Kept B)) → Rise 1 es next → (e : IsEnding (live_at n es)) → live_at n (held_among es) ≡ Some e.kept.callback
  ending_held n next es h e =
      passing_at is_held_one n 1 es next h ∙ ap (only is_held_one) e.is ∙ ap (λ (b : Bool). cond (not b) (Some e.kept.callback) None) e.held

  pub seen_forgotten : (n next : ℕ) (es : List (ℕ × Kept B)) → Rise 1 es next → IsEnding (live_at n es)
      → seen (without n es) next ≡ ended n (seen es next)
  seen_forgotten n next es h e =
      rw (live_gone n es next h (ending_live n next es h e), passing_without is_held_one n es next h, ending_live n next es h e, ending_held n next es h e, e.last) refl

  pub given_back : (n next : ℕ) (es : List (ℕ × Kept B)) → Rise 1 es next → (e : IsEnding (live_at n es))
      → Some e.kept.callback.body ≡ body_after (live_at n (held_among es))
  given_back n next es h e = rw (ending_held n next es h e, e.last) refl

  -- one that is live, or has more activations
  more_by : (b : Bool) (k : Kept B) (l : Live B) → cond b false (is_last k.callback) ≡ false → cond (not b) (Some k.callback) None ≡ Some l → is_last l ≡ false
  more_by true k l isn't at = cc
  more_by false k l isn't at = let same : k.callback ≡ l = cc in ap is_last (sym same) ∙ isn't

  more_of : (o : Option (Kept B)) (l : Live B) → is_last_one o ≡ false → only is_held_one o ≡ Some l → is_last l ≡ false
  more_of None l isn't at = cc
  more_of (Some k) l isn't at = more_by k.is_live k l isn't at

  pub not_last : (n next : ℕ) (es : List (ℕ × Kept B)) (l : Live B) → Rise 1 es next → is_last_one (live_at n es) ≡ false → live_at n (held_among es) ≡ Some l
      → is_last l ≡ false
  not_last n next es l h isn't at = more_of (live_at n es) l isn't (sym (passing_at is_held_one n 1 es next h) ∙ at)

  less_is : (o : Option (Live B)) (n : ℕ) (es : List (ℕ × Live B)) → live_at n es ≡ o → ((l : Live B) → live_at n es ≡ Some l → is_last l ≡ false)
      → changed one_less n es ≡ held_less o n es
  less_is None n es is more = ap (λ (o : Option (Live B)). changed_by o one_less n es) is
  less_is (Some l) n es is more = let isn't : is_last l ≡ false = more l is in rw isn't refl

  pub seen_less : (n next : ℕ) (es : List (ℕ × Kept B)) → Rise 1 es next → is_last_one (live_at n es) ≡ false
      → seen (changed (inside one_less) n es) next ≡ ended n (seen es next)
  seen_less n next es h isn't =
      seen_changed one_less n next es h
      ∙ ap (λ (xs : List (ℕ × Live B)). record { live = changed one_less n (live_of es); held = xs; next = next })
      (less_is (live_at n (held_among es)) n (held_among es) refl (λ l at. not_last n next es l h isn't at))

  none_back : (o : Option (Live B)) → ((l : Live B) → o ≡ Some l → is_last l ≡ false) → None ≡ body_after o
  none_back None more = refl
  none_back (Some l) more = let isn't : is_last l ≡ false = more l refl in rw isn't refl

  pub nothing_back : (n next : ℕ) (es : List (ℕ × Kept B)) → Rise 1 es next → is_last_one (live_at n es) ≡ false
      → None ≡ body_after (live_at n (held_among es))
  nothing_back n next es h isn't = none_back (live_at n (held_among es)) (λ l at. not_last n next es l h isn't at)
