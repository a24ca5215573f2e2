-- The text of a run, label by label.
use Rattle.std.proofs.Common.{◌≡◌, ℕ, suc, ◌+◌, ◌-◌, ◌<◌, List, [], ◌++◌, Bool, true, false, cond, sym, ap, ◌∙◌, append_assoc, append-nil, arith}
use Rattle.vh_kernel.specs.declared.label.Label.{Label}
use Rattle.vh_kernel.specs.State.{State}
use Rattle.vh_kernel.specs.Outcome.{Move}
use Rattle.vh_kernel_choice.specs.declared.chooser.Chooser.{Chooser}
use Rattle.vh_kernel_choice.specs.Choices.{chooser_after}
use Rattle.vh_kernel.specs.Step.{is_end, choices_of}
use Rattle.vh_kernel.specs.Run.{next_move, moves_of, text_of, line_of_move}

-- With a label to make, the text is its line and what follows.
unrolled : (o : Chooser) (k : ℕ) (s : State) (m : Move) → next_move o s ≡ m
    → text_of (moves_of o (suc k) s)
    ≡ line_of_move m ++ text_of (cond (is_end m.0) [] (moves_of (chooser_after o (choices_of s)) k m.1))
unrolled o k s m is =
    ap (λ (z : Move). line_of_move z ++ text_of (cond (is_end z.0) [] (moves_of (chooser_after o (choices_of s)) k z.1))) is

-- A label that is no end goes on.
pub text_next : (o : Chooser) (n i : ℕ) (s t : State) (l : Label) (done whole : List ℕ)
    → i < n → next_move o s ≡ (l, t) → is_end l ≡ false → done ++ text_of (moves_of o (n - i) s) ≡ whole
    → (done ++ line_of_move (l, t)) ++ text_of (moves_of (chooser_after o (choices_of s)) (n - (i + 1)) t) ≡ whole
text_next o n i s t l done whole below is open_yet so_far =
    let e : n - i ≡ suc (n - (i + 1)) = omega arith in
    let p : Chooser = chooser_after o (choices_of s) in
    let line : List ℕ = line_of_move (l, t) in
    let rest : List ℕ = text_of (moves_of p (n - (i + 1)) t) in
    append_assoc done line rest
    ∙ ap (λ (w : List ℕ). done ++ w)
    (sym (ap (λ (k : ℕ). text_of (moves_of o k s)) e ∙ unrolled o (n - (i + 1)) s (l, t) is
    ∙ ap (λ (b : Bool). line ++ text_of (cond b [] (moves_of p (n - (i + 1)) t))) open_yet))
    ∙ so_far

-- An end is the last.
pub text_last : (o : Chooser) (n i : ℕ) (s t : State) (l : Label) (done whole : List ℕ)
    → i < n → next_move o s ≡ (l, t) → is_end l ≡ true
    → done ++ text_of (moves_of o (n - i) s) ≡ whole → done ++ line_of_move (l, t) ≡ whole
text_last o n i s t l done whole below is ends so_far =
    let e : n - i ≡ suc (n - (i + 1)) = omega arith in
    let p : Chooser = chooser_after o (choices_of s) in
    ap (λ (w : List ℕ). done ++ w)
    (sym (ap (λ (k : ℕ). text_of (moves_of o k s)) e ∙ unrolled o (n - (i + 1)) s (l, t) is
    ∙ ap (λ (b : Bool). line_of_move (l, t) ++ text_of (cond b [] (moves_of p (n - (i + 1)) t))) ends
    ∙ append-nil (line_of_move (l, t))))
    ∙ so_far
