-- A step that orders nothing leads on.
use Rattle.std.proofs.Common.{◌≡◌, ◌<◌, ◌+◌, ◌-◌, ℕ, suc, List, Option, None, sym, ap, ◌∙◌, arith}
use Rattle.vh_base.specs.declared.orders.Answer.{Answer}
use Rattle.vh_base.specs.declared.orders.Order.{Order}
use Rattle.vh_base.specs.declared.orders.Seen.{Seen}
use Rattle.vh_app.specs.declared.point.Point.{Point}
use Rattle.vh_app.specs.Next.{Came, came, next_in, ordered_or}
use Rattle.vh_app.specs.Script.{ScriptData}

pub step-on : (n k : ℕ) (s : ScriptData) (seen : Seen) (vars : List Answer) (p : Point) (c : Came) (whole : Order × Point × List Answer)
    → k < n → c ≡ came s seen vars p.at → c.order ≡ None → next_in (n - k) s seen vars p ≡ whole
    → next_in (n - (k + 1)) s seen c.vars c.at ≡ whole
step-on n k s seen vars p c whole less is none before =
    let m : ℕ = n - (k + 1) in
    let more : n - k ≡ suc m = omega arith in
    sym (ap (λ (x : Came). ordered_or x.order x.at x.vars (next_in m s seen x.vars x.at)) (sym is)
    ∙ ap (λ (o : Option Order). ordered_or o c.at c.vars (next_in m s seen c.vars c.at)) none)
    ∙ sym (ap (λ (x : ℕ). next_in x s seen vars p) more) ∙ before
