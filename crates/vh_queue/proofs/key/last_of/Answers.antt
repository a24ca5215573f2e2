use Rattle.std.proofs.Common.{◌≡◌, ◌∙◌, ◌∷◌, [], ℕ, List, map, Some, None, sym, ap, refl}
use Rattle.vh_queue_maps.specs.Rows.{from_to, last_key}
use Rattle.vh_queue.specs.declared.key.Key.{Key}
use Rattle.vh_queue.specs.contracts.key.KeyOrd.TheImpl.{cmp-value}
use Rattle.vh_queue.specs.Serials.{last_of}
use Rattle.vh_queue.proofs.EndsLemmas.{ends-before, key-up-to}
use Rattle.vh_queue.specs.Ranked.{key}
use Rattle.vh_queue.proofs.key.last_of.Goals as goal

abbrev serial_of : Key → ℕ
serial_of p = p.serial

-- The last serial is that of the last key
last-serial : (ps : List Key) (p : Key) → Some p ≡ last_key ps → Some p.serial ≡ last_of (map serial_of ps)
last-serial [] p is = absurd (cc)
last-serial (q ∷ []) p is = let same : p ≡ q = cc in ap (λ (r : Key). Some r.serial) same
last-serial (q ∷ r ∷ ps) p is = last-serial (r ∷ ps) p is

none-last : (ps : List Key) → None ≡ last_key ps → None ≡ last_of (map serial_of ps)
none-last [] is = refl
none-last (q ∷ []) is = absurd (cc)
none-last (q ∷ r ∷ ps) is = none-last (r ∷ ps) is

pub returns : goal.returns
returns c =
    let first = key c.args.time c.args.rank c.args.from in let end = key c.args.time c.args.rank c.args.below in
    last-serial (from_to (cmp-value).it first end c.args.ranked.now) c.in_ok-key.key.now c.in_ok-key.ensures

pub returns-in_err-key : goal.returns-in_err-key
returns-in_err-key c =
    let first = key c.args.time c.args.rank c.args.from in let end = key c.args.time c.args.rank c.args.below in
    c.from_residual-in_err-key.ensures ∙ none-last (from_to (cmp-value).it first end c.args.ranked.now) c.in_err-key.ensures

pub returns-then-le : goal.returns-then-le
returns-then-le c =
    let least = c.in_ok-least.least.now in
    sym (ap last_of (ends-before c.args.time c.args.rank c.args.from c.args.below least c.args.ranked.now
    (key-up-to (key c.args.time c.args.rank c.args.below) least (sym c.le.ensures ∙ c.if-le.true)) c.in_ok-least.ensures.all_from))
