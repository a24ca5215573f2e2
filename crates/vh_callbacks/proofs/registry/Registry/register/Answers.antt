use Rattle.std.proofs.Common.{◌≡◌, ◌<◌, length, refl, sym, ap, ◌∙◌, arith, false}
use Rattle.std.specs.Prelude.{nat_le, nat_lt}
use Rattle.std.proofs.lemmas.Bool.{or_parts, leb-false}
use Rattle.vh_callbacks.specs.Callbacks.{is_full}
use Rattle.vh_callbacks.specs.Keeping.{live_of}
use Rattle.vh_callbacks.specs.Marks.{Registered}
use Rattle.vh_callbacks.proofs.LawsLemmas.{new_one}
use Rattle.vh_callbacks.proofs.KeepingLemmas.{kept_registered}
use Rattle.vh_callbacks.proofs.Views.{seen, seen_registered}
use Rattle.vh_callbacks.proofs.registry.Registry.register.Goals as goal

pub put-requires-clause-few : goal.put-requires-clause-few
put-requires-clause-few g c =
    let es = c.self.inside.entries.entries in
    let full : is_full (seen es c.self.inside.next) ≡ false =
    ap (λ (r : Registered g.row.B.Denot). is_full r.callbacks) c.self.view_is ∙ sym c.is_full.ensures ∙ c.if-is_full.false in
    leb-false 65536 (length (live_of es)) (or_parts (nat_le 65536 (length (live_of es))) (nat_lt 9223372036854775808 c.self.inside.next) full).0

pub invariant_of-self-2 : goal.invariant_of-self-2
invariant_of-self-2 g c =
    let es = c.self.inside.entries.entries in
    let full : is_full (seen es c.self.inside.next) ≡ false =
    ap (λ (r : Registered g.row.B.Denot). is_full r.callbacks) c.self.view_is ∙ sym c.is_full.ensures ∙ c.if-is_full.false in
    let few : length (live_of es) < 65536 =
    leb-false 65536 (length (live_of es)) (or_parts (nat_le 65536 (length (live_of es))) (nat_lt 9223372036854775808 c.self.inside.next) full).0 in
    let same = c.self.invariant.count in
    rw c.in_default.ensures.ok
    (kept_registered es c.put.new.index.entries c.self.inside.index.entries c.self.inside.next c.self.inside.count c.self.inside.sets.items (new_one c.args.r c.args.body)
    c.self.invariant (omega arith) (rw (← c.in_default.ensures.ok) c.in_default.ensures.indexed))

pub returns-clause-ok : goal.returns-clause-ok
returns-clause-ok g c = (
  sym c.is_full.ensures ∙ c.if-is_full.false,
  c.new.ensures ∙ ap (λ (r : Registered g.row.B.Denot). r.callbacks.next) c.self.view_is,
  rw (c.in_default.ensures.ok, ← c.self.view_is, seen_registered c.args.r c.args.body c.self.inside.entries.entries c.self.inside.next) refl,
)
