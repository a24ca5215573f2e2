-- From turns to runs: a run that hasn't ended goes on by one label.
use Rattle.std.proofs.Common.{◌≡◌, ◌≢◌, ℕ, ◌+◌, ◌<◌, ◌≤◌, List, [], ◌∷◌, ◌++◌, length, take, true, false, Option, Some, None, refl, ap, sym, subst, inl, inr, ◌∙◌, append_assoc, append-nil, arith, length-append}
use Rattle.std.proofs.Math.Seq.{take-append-add, take-length}
use Rattle.vh_base.specs.Outside.{appended, AppendsFront}
use Rattle.vh_orders.specs.declared.phase.Ending.{Ending}
use Rattle.vh_orders.specs.declared.phase.Ending.TheVariants as ending
use Rattle.vh_kernel.specs.declared.label.Label.{Label}
use Rattle.vh_kernel.specs.declared.label.Label.TheVariants as label
use Rattle.vh_kernel.specs.State.{State}
use Rattle.vh_kernel.specs.Outcome.{Move}
use Rattle.vh_kernel_choice.specs.declared.chooser.Chooser.{Chooser}
use Rattle.vh_kernel_choice.specs.Choices.{chosen, chooser_after}
use Rattle.vh_kernel.specs.Step.{is_end, choices_of}
use Rattle.vh_kernel.specs.Run.{IsMove, IsRun, line_of_move, text_of}
use Rattle.vh_kernel_laws.specs.Laws.{Lawful}
use Rattle.vh_host.specs.declared.status.Status.{Status}
use Rattle.vh_host.specs.declared.status.Status.TheVariants as status
use Rattle.vh_host.specs.Turn.{Turned, TurnsTo, IsCut}
use Rattle.vh_host.specs.Transcript.{none_ends, but_last, WroteEnded, WroteFront, WroteOf, Wrote}
use Rattle.vh_base_outside.proofs.Appended.{appended_twice}

-- From a state and an order of choice the machine makes these labels, none of them an end, and comes to others.
abbrev pub Goes : Chooser → State → List Move → Chooser → State → Type 0
Goes o s [] p t = (o ≡ p) × (s ≡ t)
Goes o s (m ∷ moves) p t = IsMove o s m × (is_end m.0 ≡ false) × Goes (chooser_after o (choices_of s)) m.1 moves p t

-- A step from a state is one from the same state.
from_same : (o p : Chooser) (s t : State) (m : Move) → (o ≡ p) × (s ≡ t) → IsMove p t m → IsMove o s m
from_same o p s t m same e =
    let P : State → Type 0 = λ z. IsMove p z m in
    let Q : Chooser → Type 0 = λ z. IsMove z s m in
    subst Q (sym same.0) (subst P (sym same.1) e)

-- It goes on by one label more.
pub goes_more : (o p : Chooser) (s t u : State) (l : Label) (moves : List Move)
    → Goes o s moves p t → IsMove p t (l, u) → is_end l ≡ false
    → Goes o s (moves ++ (l, u) ∷ []) (chooser_after p (choices_of t)) u
goes_more o p s t u l [] g m open_yet =
    let next : chooser_after o (choices_of s) ≡ chooser_after p (choices_of t) =
    ap (λ (z : Chooser). chooser_after z (choices_of s)) g.0 ∙ ap (λ (z : State). chooser_after p (choices_of z)) g.1 in
    (from_same o p s t (l, u) g m, open_yet, (next, refl))
goes_more o p s t u l (n ∷ moves) g m open_yet =
    (g.0, g.1, goes_more (chooser_after o (choices_of s)) p n.1 t u l moves g.2 m open_yet)

-- What hasn't ended is a run.
pub goes_run : (o p : Chooser) (s t : State) (moves : List Move) → Goes o s moves p t → IsRun o s moves
goes_run o p s t [] g = tt
goes_run o p s t (n ∷ moves) g = (g.0, (λ e. cc (g.1)), goes_run (chooser_after o (choices_of s)) p n.1 t moves g.2)

-- With any one label more it is a run.
pub goes_last : (o p : Chooser) (s t : State) (m : Move) (moves : List Move)
    → Goes o s moves p t → IsMove p t m → IsRun o s (moves ++ m ∷ [])
goes_last o p s t m [] g e = (from_same o p s t m g e, (λ _. refl), tt)
goes_last o p s t m (n ∷ moves) g e = (g.0, (λ h. cc (g.1)), goes_last (chooser_after o (choices_of s)) p n.1 t m moves g.2 e)

-- None of its labels is an end.
pub goes_none : (o p : Chooser) (s t : State) (moves : List Move) → Goes o s moves p t → none_ends moves ≡ true
goes_none o p s t [] g = refl
goes_none o p s t (n ∷ moves) g = rw (g.1) (goes_none (chooser_after o (choices_of s)) p n.1 t moves g.2)

-- The text with one label more.
pub text_more : (moves : List Move) (m : Move) → text_of (moves ++ m ∷ []) ≡ text_of moves ++ line_of_move m
text_more [] m = append-nil (line_of_move m)
text_more (n ∷ moves) m = ap (λ (w : List ℕ). line_of_move n ++ w) (text_more moves m) ∙ sym (append_assoc (line_of_move n) (text_of moves) (line_of_move m))

-- What a run has come to: its labels so far, the order of choice, the state, and what was written since it began.
pub record SoFar (o p : Chooser) (s t : State) (count : ℕ) (old new : Option (List ℕ)) : Type 0 where
  pub moves : List Move
  pub goes : Goes o s moves p t
  pub counted : length moves ≡ count
  pub told : new ≡ appended old (text_of moves)

-- What was written once a line more was.
told_more : (mid old new : Option (List ℕ)) (moves : List Move) (m : Move)
    → mid ≡ appended old (text_of moves) → new ≡ appended mid (line_of_move m) → new ≡ appended old (text_of (moves ++ m ∷ []))
told_more mid old new moves m before more =
    more ∙ ap (λ (w : Option (List ℕ)). appended w (line_of_move m)) before ∙ appended_twice old (text_of moves) (line_of_move m)
    ∙ ap (λ (w : List ℕ). appended old w) (sym (text_more moves m))

-- A turn that goes on adds its label.
pub so_far_more : (o p : Chooser) (s t u : State) (n : ℕ) (old mid new : Option (List ℕ))
    → SoFar o p s t n old mid → Turned (chosen p (choices_of t)) None t u mid new
    → SoFar o (chooser_after p (choices_of t)) s u (n + 1) old new
so_far_more o p s t u n old mid new f turn = record {
  moves = f.moves ++ (turn.0, u) ∷ [];
  goes = goes_more o p s t u turn.0 f.moves f.goes turn.1.0 turn.2;
  counted = length-append f.moves ((turn.0, u) ∷ []) ∙ ap (λ (k : ℕ). k + 1) f.counted;
  told = told_more mid old new f.moves (turn.0, u) f.told turn.1.1;
}

-- What a whole run wrote, by its status.
abbrev pub WroteFrom : Chooser → ℕ → State → Status → Option (List ℕ) → Option (List ℕ) → Type 0
WroteFrom o budget s st old new = (written : List ℕ) × (new ≡ appended old written) × Wrote o budget s st written

-- What was written of labels that were made, by the status.
wrote_of : (o : Chooser) (s : State) (budget : ℕ) (st : Status) (moves : List Move) (written : List ℕ) (old new : Option (List ℕ))
    → Lawful o s → IsRun o s moves → length moves ≤ budget → new ≡ appended old written → WroteOf budget moves st written
    → WroteFrom o budget s st old new
wrote_of o s budget st moves written old new lawful run few told is =
    (written, told, record { moves = moves; run = run; laws = lawful moves run; in_budget = few; text = is })

-- The labels with one more, but for that one.
but_last_more : (moves : List Move) (m : Move) → but_last (moves ++ m ∷ []) ≡ moves
but_last_more [] m = refl
but_last_more (a ∷ []) m = refl
but_last_more (a ∷ b ∷ moves) m = ap (λ (ms : List Move). a ∷ ms) (but_last_more (b ∷ moves) m)

-- The text but for the last label is no longer than the text.
but_last_shorter : (moves : List Move) → length (text_of (but_last moves)) ≤ length (text_of moves)
but_last_shorter [] = omega arith
but_last_shorter (m ∷ []) = omega arith
but_last_shorter (m ∷ n ∷ moves) =
    let h = but_last_shorter (n ∷ moves) in
    omega (
      arith,
      length-append (line_of_move m) (text_of (but_last (n ∷ moves))),
      length-append (line_of_move m) (text_of (n ∷ moves)),
    )

-- A turn with the end ends it.
ends_with : (o p : Chooser) (s t u : State) (n budget : ℕ) (e : Ending) (old mid new : Option (List ℕ))
    → SoFar o p s t n old mid → n < budget → TurnsTo (chosen p (choices_of t)) (label.End e) t u mid new
    → (moves : List Move) × IsRun o s moves × (length moves ≤ budget) × (new ≡ appended old (text_of moves)) × WroteEnded moves e (text_of moves)
ends_with o p s t u n budget e old mid new f below turn =
    let last : Move = (label.End e, u) in (
      f.moves ++ last ∷ [],
      goes_last o p s t last f.moves f.goes turn.0,
      (let c = f.counted in omega (arith, length-append f.moves (last ∷ []))),
      told_more mid old new f.moves last f.told turn.1,
      record { before = f.moves; last = u; ends = refl; whole = refl },
    )

-- A turn that is cut short leaves a front of the text with its line.
cut_short : (o p : Chooser) (s t : State) (n budget : ℕ) (old mid new : Option (List ℕ))
    → SoFar o p s t n old mid → n < budget → IsCut (chosen p (choices_of t)) t mid new
    → (moves : List Move) × (written : List ℕ) × IsRun o s moves × (length moves ≤ budget) × (new ≡ appended old written) × WroteFront moves written
cut_short o p s t n budget old mid new f below turn =
    let last : Move = turn.0 in
    let cut : AppendsFront mid new (line_of_move last) = turn.2 in
    let before : List ℕ = text_of f.moves in
    let part : List ℕ = take cut.0 (line_of_move last) in (
      f.moves ++ last ∷ [],
      before ++ part,
      goes_last o p s t last f.moves f.goes turn.1,
      (let c = f.counted in omega (arith, length-append f.moves (last ∷ []))),
      cut.1 ∙ ap (λ (w : Option (List ℕ)). appended w part) f.told ∙ appended_twice old before part,
      record {
        part = length before + cut.0;
        front = sym (ap (λ (w : List ℕ). take (length before + cut.0) w) (text_more f.moves last) ∙ take-append-add before (line_of_move last) cut.0);
        but_last_line =
            let same : length (text_of (but_last (f.moves ++ last ∷ []))) ≡ length before = ap (λ (ms : List Move). length (text_of ms)) (but_last_more f.moves last) in
            omega (arith, length-append before part);
      },
    )

-- A turn that makes no label leaves the text so far.
cut_before : (moves : List Move) → WroteFront moves (text_of moves)
cut_before moves =
    record { part = length (text_of moves); front = sym (take-length (text_of moves)); but_last_line = but_last_shorter moves }

-- A turn that answers a status ends the run with it.
pub so_far_ends : (o p : Chooser) (s t u : State) (n budget : ℕ) (st : Status) (old mid new : Option (List ℕ))
    → Lawful o s → SoFar o p s t n old mid → n < budget → Turned (chosen p (choices_of t)) (Some st) t u mid new
    → WroteFrom o budget s st old new
so_far_ends o p s t u n budget (status.Done c) old mid new lawful f below turn =
    let w = ends_with o p s t u n budget (ending.Cause c) old mid new f below turn in
    wrote_of o s budget (status.Done c) w.0 (text_of w.0) old new lawful w.1 w.2 w.3 w.4
so_far_ends o p s t u n budget (status.RunFault x) old mid new lawful f below turn =
    let w = ends_with o p s t u n budget (ending.Fault x) old mid new f below turn in
    wrote_of o s budget (status.RunFault x) w.0 (text_of w.0) old new lawful w.1 w.2 w.3 w.4
so_far_ends o p s t u n budget status.WriteFault old mid new lawful f below turn =
    let w = cut_short o p s t n budget old mid new f below turn in
    wrote_of o s budget status.WriteFault w.0 w.1 old new lawful w.2 w.3 w.4 w.5
so_far_ends o p s t u n budget status.NoMemory old mid new lawful f below turn = elim turn [
  | inl same ↦
      wrote_of o s budget status.NoMemory f.moves (text_of f.moves) old new lawful (goes_run o p s t f.moves f.goes)
      (let c = f.counted in omega arith) (same ∙ f.told) (cut_before f.moves)
  | inr cut ↦
      let w = cut_short o p s t n budget old mid new f below cut in
      wrote_of o s budget status.NoMemory w.0 w.1 old new lawful w.2 w.3 w.4 w.5
]
so_far_ends o p s t u n budget status.Usage old mid new lawful f below turn = absurd turn
so_far_ends o p s t u n budget (status.ReadFault k) old mid new lawful f below turn = absurd turn
so_far_ends o p s t u n budget (status.TooLong k) old mid new lawful f below turn = absurd turn
so_far_ends o p s t u n budget (status.DesignRefused x q) old mid new lawful f below turn = absurd turn
so_far_ends o p s t u n budget (status.AppRefused k x q) old mid new lawful f below turn = absurd turn
so_far_ends o p s t u n budget status.BudgetSpent old mid new lawful f below turn = absurd turn

-- With as many labels as the budget, the budget is spent.
pub so_far_spent : (o p : Chooser) (s t : State) (n budget : ℕ) (old new : Option (List ℕ))
    → Lawful o s → SoFar o p s t n old new → n ≡ budget → WroteFrom o budget s status.BudgetSpent old new
so_far_spent o p s t n budget old new lawful f all =
    wrote_of o s budget status.BudgetSpent f.moves (text_of f.moves) old new lawful (goes_run o p s t f.moves f.goes)
    (let c = f.counted in omega arith) f.told
    (record { spent = f.counted ∙ all; no_end = goes_none o p s t f.moves f.goes; whole = refl })
