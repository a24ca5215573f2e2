-- A text leads to its end: it is what the lexer's function gives.
use Rattle.std.proofs.Common.{◌≡◌, Bool, true, false, List, [], ◌∷◌, ◌++◌, Option, None, Ok, refl, ap, sym, subst, ◌∙◌}
use Rattle.vh_base.specs.declared.place.Place.{Place}
use Rattle.vh_lex.specs.declared.token.Token.{Token}
use Rattle.vh_lex.specs.declared.conditional.Conditional.{Conditional}
use Rattle.vh_lex.specs.declared.conditional.Branch.{Branch}
use Rattle.vh_lex.specs.declared.conditional.Branch.TheVariants as branch
use Rattle.vh_lex.specs.Gathered.{MacroRows as Rows}
use Rattle.vh_lex.specs.Conditionals.{is_skipped, skips}
use Rattle.vh_lex.specs.Directives.{next_branch}
use Rattle.vh_lex.specs.Spelling.{read}
use Rattle.vh_lex.specs.Lexed.{Lexed, reading, refused, exhausted, files_after, files_read, end_of, IfReading}
use Rattle.vh_lex.specs.SourceText.{HasText, At, Reads, read_end, read_piece, read_chosen, read_sought, Skips, skip_end, skip_piece, skip_conditional, Others, other_elsif, other_else, other_endif, Seeks, seek_chosen, seek_elsif, seek_else, seek_endif}
use Rattle.vh_lex.specs.Reached.{ReadsTo, read_here, in_chosen, in_sought, in_others, in_seeks, SkipsTo, skip_here, skip_in, skip_others, OthersTo, other_in, other_past, other_in_else, SeeksTo, seek_in, seek_others, seek_skipped, seek_past, seek_in_else}
use Rattle.vh_lex.specs.Laws.{OneList}
use Rattle.vh_lex.specs.TextLaws.{TextIsSpelled}
use Rattle.vh_lex.proofs.ConditionalsLemmas.{skips-last}
use Rattle.vh_lex.proofs.MacroLemmas.{Knows, knows-none}
use Rattle.vh_lex.proofs.StepLemmas.{state_of, lexed_in, outcome, Leads, leads-then, here}
use Rattle.vh_lex.proofs.GoesLemmas.{goes-leads}
use Rattle.vh_lex.proofs.CondLemmas.{passes-leads, begun, turned, elsed, if-leads, elsif-leads, else-leads, endif-leads}

-- The branch of the innermost one
skips-as : (cs : List Conditional) (c : Conditional) (b : Branch) → c.branch ≡ b → skips (cs ++ c ∷ []) ≡ is_skipped b
skips-as cs c b e = skips-last cs c ∙ ap is_skipped e

mutual
  reads-lead : {a c : At} → Reads a c → (o : Option Place) (rows : Rows) (cs : List Conditional) → Knows a.macros rows → skips cs ≡ false → Leads o a c rows cs cs
  reads-lead read_end o rows cs k f = record { first = o; macros = rows; knows = k; same = refl; reach = here }
  reads-lead (read_piece g r) o rows cs k f =
      let l = (goes-leads g o rows cs k f).leads in
      leads-then l (reads-lead r l.first l.macros cs l.knows f)
  reads-lead {a} (read_chosen i r t m) o rows cs k f =
      let c = begun a branch.Read in
      let l = (if-leads i o rows cs false k f).leads in
      let n = reads-lead r l.first l.macros (cs ++ c ∷ []) l.knows (skips-as cs c branch.Read refl) in
      let p = others-lead t n.first n.macros cs c n.knows refl (λ holds. refl) in
      leads-then l (leads-then n (leads-then p (reads-lead m p.first p.macros cs p.knows f)))
  reads-lead {a} (read_sought i r t m) o rows cs k f =
      let c = begun a branch.Sought in
      let l = (if-leads i o rows cs false k f).leads in
      let n = skips-lead r l.first l.macros (cs ++ c ∷ []) l.knows (skips-as cs c branch.Sought refl) in
      let p = seeks-lead t n.first n.macros cs c n.knows refl refl in
      leads-then l (leads-then n (leads-then p (reads-lead m p.first p.macros cs p.knows f)))

  skips-lead : {a c : At} → Skips a c → (o : Option Place) (rows : Rows) (cs : List Conditional) → Knows a.macros rows → skips cs ≡ true → Leads o a c rows cs cs
  skips-lead skip_end o rows cs k f = record { first = o; macros = rows; knows = k; same = refl; reach = here }
  skips-lead (skip_piece g r) o rows cs k f =
      let l = (passes-leads g o rows cs k f).leads in
      leads-then l (skips-lead r l.first l.macros cs l.knows f)
  skips-lead {a} (skip_conditional i r t m) o rows cs k f =
      let c = begun a branch.Past in
      let l = (if-leads i o rows cs true k f).leads in
      let n = skips-lead r l.first l.macros (cs ++ c ∷ []) l.knows (skips-as cs c branch.Past refl) in
      let p = others-lead t n.first n.macros cs c n.knows refl (λ holds. refl) in
      leads-then l (leads-then n (leads-then p (skips-lead m p.first p.macros cs p.knows f)))

  others-lead : {a b : At} → Others a b → (o : Option Place) (rows : Rows) (cs : List Conditional) (c : Conditional) → Knows a.macros rows → c.has_else ≡ false
      → ((holds : Bool) → next_branch c.branch holds ≡ branch.Past) → Leads o a b rows (cs ++ c ∷ []) cs
  others-lead (other_elsif {holds = holds} e r t) o rows cs c k h f =
      let d = turned holds c in
      let l = (elsif-leads e o rows cs c h k).leads in
      let n = skips-lead r l.first l.macros (cs ++ d ∷ []) l.knows (skips-as cs d branch.Past (f holds)) in
      leads-then l (leads-then n (others-lead t n.first n.macros cs d n.knows h (λ x. ap (λ b. next_branch b x) (f holds))))
  others-lead (other_else e r t) o rows cs c k h f =
      let d = elsed c in
      let l = (else-leads e o rows cs c h k).leads in
      let n = skips-lead r l.first l.macros (cs ++ d ∷ []) l.knows (skips-as cs d branch.Past (f true)) in
      leads-then l (leads-then n (endif-leads t n.first n.macros cs d n.knows).leads)
  others-lead (other_endif e) o rows cs c k h f = (endif-leads e o rows cs c k).leads

  seeks-lead : {a b : At} → Seeks a b → (o : Option Place) (rows : Rows) (cs : List Conditional) (c : Conditional) → Knows a.macros rows → c.has_else ≡ false
      → c.branch ≡ branch.Sought → Leads o a b rows (cs ++ c ∷ []) cs
  seeks-lead (seek_chosen e r t) o rows cs c k h f =
      let d = turned true c in
      let l = (elsif-leads e o rows cs c h k).leads in
      let n = reads-lead r l.first l.macros (cs ++ d ∷ []) l.knows (skips-as cs d branch.Read (ap (λ b. next_branch b true) f)) in
      leads-then l (leads-then n (others-lead t n.first n.macros cs d n.knows h (λ x. ap (λ b. next_branch (next_branch b true) x) f)))
  seeks-lead (seek_elsif e r t) o rows cs c k h f =
      let d = turned false c in
      let l = (elsif-leads e o rows cs c h k).leads in
      let n = skips-lead r l.first l.macros (cs ++ d ∷ []) l.knows (skips-as cs d branch.Sought (ap (λ b. next_branch b false) f)) in
      leads-then l (leads-then n (seeks-lead t n.first n.macros cs d n.knows h (ap (λ b. next_branch b false) f)))
  seeks-lead (seek_else e r t) o rows cs c k h f =
      let d = elsed c in
      let l = (else-leads e o rows cs c h k).leads in
      let n = reads-lead r l.first l.macros (cs ++ d ∷ []) l.knows (skips-as cs d branch.Read (ap (λ b. next_branch b true) f)) in
      leads-then l (leads-then n (endif-leads t n.first n.macros cs d n.knows).leads)
  seeks-lead (seek_endif e) o rows cs c k h f = (endif-leads e o rows cs c k).leads

-- A text up to some byte leads there.
pub record LeadsTo (t : Bool) (o : Option Place) (a e : At) (rows : Rows) (cs : List Conditional) : Type 0 where
  pub stack : List Conditional
  pub leads : Leads o a e rows cs stack
  pub skips_as : skips stack ≡ t

to-then : {t : Bool} {o : Option Place} {a b e : At} {rows : Rows} {cs cs2 : List Conditional} (l : Leads o a b rows cs cs2) → LeadsTo t l.first b e l.macros cs2 → LeadsTo t o a e rows cs
to-then l m = record { stack = m.stack; leads = leads-then l m.leads; skips_as = m.skips_as }

mutual
  pub reads-to : {t : Bool} {a e : At} → ReadsTo t a e → (o : Option Place) (rows : Rows) (cs : List Conditional) → Knows a.macros rows → skips cs ≡ false → LeadsTo t o a e rows cs
  reads-to (read_here r) o rows cs k f = record { stack = cs; leads = reads-lead r o rows cs k f; skips_as = f }
  reads-to (in_chosen {b = b} r i x) o rows cs k f =
      let c = begun b branch.Read in
      let l = reads-lead r o rows cs k f in
      let m = (if-leads i l.first l.macros cs false l.knows f).leads in
      to-then l (to-then m (reads-to x m.first m.macros (cs ++ c ∷ []) m.knows (skips-as cs c branch.Read refl)))
  reads-to (in_sought {b = b} r i x) o rows cs k f =
      let c = begun b branch.Sought in
      let l = reads-lead r o rows cs k f in
      let m = (if-leads i l.first l.macros cs false l.knows f).leads in
      to-then l (to-then m (skips-to x m.first m.macros (cs ++ c ∷ []) m.knows (skips-as cs c branch.Sought refl)))
  reads-to (in_others {b = b} r i x y) o rows cs k f =
      let c = begun b branch.Read in
      let l = reads-lead r o rows cs k f in
      let m = (if-leads i l.first l.macros cs false l.knows f).leads in
      let n = reads-lead x m.first m.macros (cs ++ c ∷ []) m.knows (skips-as cs c branch.Read refl) in
      to-then l (to-then m (to-then n (others-to y n.first n.macros cs c n.knows refl (λ holds. refl))))
  reads-to (in_seeks {b = b} r i x y) o rows cs k f =
      let c = begun b branch.Sought in
      let l = reads-lead r o rows cs k f in
      let m = (if-leads i l.first l.macros cs false l.knows f).leads in
      let n = skips-lead x m.first m.macros (cs ++ c ∷ []) m.knows (skips-as cs c branch.Sought refl) in
      to-then l (to-then m (to-then n (seeks-to y n.first n.macros cs c n.knows refl refl)))

  skips-to : {a e : At} → SkipsTo a e → (o : Option Place) (rows : Rows) (cs : List Conditional) → Knows a.macros rows → skips cs ≡ true → LeadsTo true o a e rows cs
  skips-to (skip_here r) o rows cs k f = record { stack = cs; leads = skips-lead r o rows cs k f; skips_as = f }
  skips-to (skip_in {b = b} r i x) o rows cs k f =
      let c = begun b branch.Past in
      let l = skips-lead r o rows cs k f in
      let m = (if-leads i l.first l.macros cs true l.knows f).leads in
      to-then l (to-then m (skips-to x m.first m.macros (cs ++ c ∷ []) m.knows (skips-as cs c branch.Past refl)))
  skips-to (skip_others {b = b} r i x y) o rows cs k f =
      let c = begun b branch.Past in
      let l = skips-lead r o rows cs k f in
      let m = (if-leads i l.first l.macros cs true l.knows f).leads in
      let n = skips-lead x m.first m.macros (cs ++ c ∷ []) m.knows (skips-as cs c branch.Past refl) in
      to-then l (to-then m (to-then n (others-to y n.first n.macros cs c n.knows refl (λ holds. refl))))

  others-to : {a e : At} → OthersTo a e → (o : Option Place) (rows : Rows) (cs : List Conditional) (c : Conditional) → Knows a.macros rows → c.has_else ≡ false
      → ((holds : Bool) → next_branch c.branch holds ≡ branch.Past) → LeadsTo true o a e rows (cs ++ c ∷ [])
  others-to (other_in {holds = holds} i x) o rows cs c k h f =
      let d = turned holds c in
      let l = (elsif-leads i o rows cs c h k).leads in
      to-then l (skips-to x l.first l.macros (cs ++ d ∷ []) l.knows (skips-as cs d branch.Past (f holds)))
  others-to (other_past {holds = holds} i x y) o rows cs c k h f =
      let d = turned holds c in
      let l = (elsif-leads i o rows cs c h k).leads in
      let n = skips-lead x l.first l.macros (cs ++ d ∷ []) l.knows (skips-as cs d branch.Past (f holds)) in
      to-then l (to-then n (others-to y n.first n.macros cs d n.knows h (λ u. ap (λ b. next_branch b u) (f holds))))
  others-to (other_in_else i x) o rows cs c k h f =
      let d = elsed c in
      let l = (else-leads i o rows cs c h k).leads in
      to-then l (skips-to x l.first l.macros (cs ++ d ∷ []) l.knows (skips-as cs d branch.Past (f true)))

  seeks-to : {t : Bool} {a e : At} → SeeksTo t a e → (o : Option Place) (rows : Rows) (cs : List Conditional) (c : Conditional) → Knows a.macros rows → c.has_else ≡ false
      → c.branch ≡ branch.Sought → LeadsTo t o a e rows (cs ++ c ∷ [])
  seeks-to (seek_in i x) o rows cs c k h f =
      let d = turned true c in
      let l = (elsif-leads i o rows cs c h k).leads in
      to-then l (reads-to x l.first l.macros (cs ++ d ∷ []) l.knows (skips-as cs d branch.Read (ap (λ b. next_branch b true) f)))
  seeks-to (seek_others i x y) o rows cs c k h f =
      let d = turned true c in
      let l = (elsif-leads i o rows cs c h k).leads in
      let n = reads-lead x l.first l.macros (cs ++ d ∷ []) l.knows (skips-as cs d branch.Read (ap (λ b. next_branch b true) f)) in
      to-then l (to-then n (others-to y n.first n.macros cs d n.knows h (λ u. ap (λ b. next_branch (next_branch b true) u) f)))
  seeks-to (seek_skipped i x) o rows cs c k h f =
      let d = turned false c in
      let l = (elsif-leads i o rows cs c h k).leads in
      to-then l (skips-to x l.first l.macros (cs ++ d ∷ []) l.knows (skips-as cs d branch.Sought (ap (λ b. next_branch b false) f)))
  seeks-to (seek_past i x y) o rows cs c k h f =
      let d = turned false c in
      let l = (elsif-leads i o rows cs c h k).leads in
      let n = skips-lead x l.first l.macros (cs ++ d ∷ []) l.knows (skips-as cs d branch.Sought (ap (λ b. next_branch b false) f)) in
      to-then l (to-then n (seeks-to y n.first n.macros cs d n.knows h (ap (λ b. next_branch b false) f)))
  seeks-to (seek_in_else i x) o rows cs c k h f =
      let d = elsed c in
      let l = (else-leads i o rows cs c h k).leads in
      to-then l (reads-to x l.first l.macros (cs ++ d ∷ []) l.knows (skips-as cs d branch.Read (ap (λ b. next_branch b true) f)))

-- At the end of the last file nothing is left
at-end : (o : Option Place) (a : At) (rows : Rows) (cs : List Conditional) → a.bytes ≡ [] → a.files ≡ [] → outcome o a rows cs ≡ reading o (state_of a rows cs)
at-end o a rows cs e f = ap (λ bytes. files_after (lexed_in o (read bytes (state_of a rows cs))) a.files) e ∙ ap (λ files. files_after (reading o (state_of a rows cs)) files) f

abbrev pub Gives : Lexed → List Token → Type 0
Gives l tokens = (end_of l ≡ Ok tt) × IfReading l (λ first s. s.made.tokens ≡ tokens)

pub text_is_spelled : TextIsSpelled
text_is_spelled files tokens t =
    let l = reads-lead t.text None [] [] knows-none refl in
    subst (λ x. Gives x tokens) (sym (l.same ∙ at-end l.first t.last l.macros [] t.ends t.is_last)) (refl, t.tokens_are)

pub one-list : (l : Lexed) (tokens others : List Token) → Gives l tokens → Gives l others → tokens ≡ others
one-list (reading first s) tokens others h k = sym h.1 ∙ k.1
one-list (refused fault place) tokens others h k = cc
one-list exhausted tokens others h k = cc

pub one_text : OneList HasText
one_text files tokens others t u = one-list (files_read files) tokens others (text_is_spelled files tokens t) (text_is_spelled files others u)
