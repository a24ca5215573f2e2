-- A step of the lexer's function, and a piece of a text.
use Rattle.std.proofs.Common.{◌≡◌, ℕ, zero, suc, ◌+◌, ◌-◌, ◌≤◌, Bool, true, false, List, [], ◌∷◌, Option, Some, None, Result, Ok, Err, length, take, drop, nat_eq, if◌then◌else◌, refl, ap, sym, subst, ◌∙◌, length-drop, arith}
use Rattle.std.proofs.lemmas.Bool.Decides.{nat_tests}
use Rattle.vh_base.specs.declared.place.Place.{Place}
use Rattle.vh_base.specs.Classes.{is_name_start}
use Rattle.vh_lex.specs.declared.token.Token.{Token}
use Rattle.vh_lex.specs.declared.setting.Setting.{Setting}
use Rattle.vh_lex.specs.declared.conditional.Conditional.{Conditional}
use Rattle.vh_lex.specs.declared.directive.Directive.{Directive}
use Rattle.vh_lex.specs.declared.directive.Directive.TheVariants as directive
use Rattle.vh_lex.specs.declared.piece.Part.{Part}
use Rattle.vh_lex.specs.declared.piece.Part.TheVariants as part
use Rattle.vh_lex.specs.declared.piece.Piece.TheVariants.{Blank, Kept}
use Rattle.vh_lex.specs.Bytes.{begins}
use Rattle.vh_lex.specs.Beginning.{Named, beginning, comment_len, word_name, simple_name}
use Rattle.vh_lex.specs.Gathered.{MacroRows as Rows}
use Rattle.vh_lex.specs.Conditionals.{skips}
use Rattle.vh_lex.specs.State.{State, start_of, moved}
use Rattle.vh_lex.specs.Directives.{Step, directive_of, directive_behind, directed, seen_directive}
use Rattle.vh_lex.specs.Spelling.{Stop, name_read, part_read, piece_read, name_skipped, use_skipped, skipped, step, step_then, read_after, read}
use Rattle.vh_lex.specs.Lexed.{File, Lexed, reading, refused, lexed_by, first_place, files_after}
use Rattle.vh_lex.specs.MacroTokens.{Macros}
use Rattle.vh_lex.specs.SourceText.{At, place_of, past, at_start, IsWord, is_conditional}
use Rattle.vh_lex.proofs.PlacesLemmas.{moved-place}
use Rattle.vh_lex.proofs.MacroLemmas.{Knows}
use Rattle.vh_lex.proofs.BeginningLemmas.{IsFine, fine-beginning, comment-long}
use Rattle.vh_lex.proofs.MacroTokensLemmas.{drop-less}

-- The state in which the function is
abbrev pub state_of : At → Rows → List Conditional → State
state_of a rows cs =
    record { macros = rows; made = record { tokens = a.tokens; uses = a.uses }; conditionals = cs; setting = a.setting; place = place_of a }

abbrev pub lexed_in : Option Place → Result State Stop → Lexed
lexed_in o (Ok s) = reading o s
lexed_in o (Err stop) = refused stop.fault stop.place

-- What the files come to from there on
abbrev pub outcome : Option Place → At → Rows → List Conditional → Lexed
outcome o a rows cs = files_after (lexed_in o (read a.bytes (state_of a rows cs))) a.files

passed : (skip : ℕ) (bytes : List ℕ) (s : State) → read_after skip bytes s ≡ read (drop skip bytes) s
passed zero [] s = refl
passed zero (byte ∷ bytes) s = refl
passed (suc skip) [] s = refl
passed (suc skip) (byte ∷ bytes) s = passed skip bytes s

read-step : (b : ℕ) (bs : List ℕ) (s t : State) (len : ℕ) → 1 ≤ len → step (b ∷ bs) s ≡ Ok (t, len)
    → read (b ∷ bs) s ≡ read (drop len (b ∷ bs)) (record t { place = moved (take len (b ∷ bs)) s.place })
read-step b bs s t len h e =
    ap (λ o. step_then o (b ∷ bs) s.place (λ skip went. read_after skip bs went)) e
    ∙ passed (len - 1) bs (record t { place = moved (take len (b ∷ bs)) s.place })
    ∙ ap (λ r. read r (record t { place = moved (take len (b ∷ bs)) s.place })) (drop-less len b bs h)

-- There, with other macros, settings, tokens and uses
abbrev pub again : Macros → Setting → List Token → ℕ → At → At
again macros setting tokens uses a = record a { macros = macros; setting = setting; tokens = tokens; uses = uses }

pub run-step : (o : Option Place) (a : At) (b : ℕ) (bs : List ℕ) (rows rows2 : Rows) (cs cs2 : List Conditional) (macros : Macros) (setting : Setting) (tokens : List Token) (uses len : ℕ)
    → a.bytes ≡ b ∷ bs → 1 ≤ len → step a.bytes (state_of a rows cs) ≡ Ok (state_of (again macros setting tokens uses a) rows2 cs2, len)
    → outcome o a rows cs ≡ outcome o (past len (again macros setting tokens uses a)) rows2 cs2
run-step o a b bs rows rows2 cs cs2 macros setting tokens uses len e h f =
    ap (λ r. files_after (lexed_in o r) a.files)
    (ap (λ bytes. read bytes (state_of a rows cs)) e
    ∙ read-step b bs (state_of a rows cs) (state_of (again macros setting tokens uses a) rows2 cs2) len h (ap (λ bytes. step bytes (state_of a rows cs)) (sym e) ∙ f)
    ∙ ap (λ bytes. read (drop len bytes) (record (state_of (again macros setting tokens uses a) rows2 cs2) { place = moved (take len bytes) (place_of a) })) (sym e)
    ∙ ap (λ place. read (drop len a.bytes) (record (state_of (again macros setting tokens uses a) rows2 cs2) { place = place })) (moved-place a.file (take len a.bytes) a.passed))

-- The same, a step at a time.
pub record Config : Type 0 where
  pub bytes : List ℕ
  pub files : List File
  pub state : State

abbrev pub config-of : At → Rows → List Conditional → Config
config-of a rows cs = record { bytes = a.bytes; files = a.files; state = state_of a rows cs }

abbrev pub next-step : Step → List ℕ → List File → Place → Option Config
next-step (Ok went) bytes files place =
    Some (record { bytes = drop went.1 bytes; files = files; state = record went.0 { place = moved (take went.1 bytes) place } })
next-step (Err wrong) bytes files place = None

abbrev pub next-of : List ℕ → List File → State → Option Config
next-of [] [] s = None
next-of [] (f ∷ fs) s = Some (record { bytes = f.bytes; files = fs; state = record s { place = start_of f.number } })
next-of (b ∷ bs) files s = next-step (step (b ∷ bs) s) (b ∷ bs) files s.place

abbrev pub next : Config → Option Config
next c = next-of c.bytes c.files c.state

pub data Reach : Config → Config → Type 0 where
  here : {x : Config} → Reach x x
  further : {x y z : Config} → next x ≡ Some y → Reach y z → Reach x z

pub reach-join : {x y z : Config} → Reach x y → Reach y z → Reach x z
reach-join here q = q
reach-join (further e r) q = further e (reach-join r q)

abbrev or-other : Config → Option Config → Config
or-other c None = c
or-other c (Some d) = d

-- What is reached is on the way to the end
pub reach-end : {x y z : Config} → Reach x y → next y ≡ None → Reach x z → Reach z y
reach-end here n here = here
reach-end here n (further e q) = let no = sym n ∙ e in cc
reach-end (further e r) n here = further e r
reach-end {z = z} (further {x = x} {y = y} e r) n (further f q) = reach-end r n (subst (λ w. Reach w z) (ap (or-other y) (sym f ∙ e)) q)

-- And no more is left there
abbrev pub left-in : List File → ℕ
left-in [] = 0
left-in (f ∷ fs) = 1 + length f.bytes + left-in fs

abbrev pub left-at : Config → ℕ
left-at c = length c.bytes + left-in c.files

next-less : (bytes : List ℕ) (files : List File) (s : State) (c : Config) → next-of bytes files s ≡ Some c → left-at c ≤ length bytes + left-in files
next-less [] [] s c e = cc
next-less [] (f ∷ fs) s c e = subst (λ d. left-at d ≤ length {A = ℕ} [] + left-in (f ∷ fs)) (ap (or-other c) e) (omega arith)
next-less (b ∷ bs) files s c e = by (step (b ∷ bs) s) e
  where
    by : (r : Step) → next-step r (b ∷ bs) files s.place ≡ Some c → left-at c ≤ length (b ∷ bs) + left-in files
    by (Ok went) f = subst (λ d. left-at d ≤ length (b ∷ bs) + left-in files) (ap (or-other c) f) (let size = length-drop went.1 (b ∷ bs) in omega arith)
    by (Err wrong) f = cc

pub reach-less : {x y : Config} → Reach x y → left-at y ≤ left-at x
reach-less here = omega arith
reach-less (further {x = x} {y = y} e r) = let h = reach-less r in let k = next-less x.bytes x.files x.state y e in omega arith

pub run-next : (a : At) (b : ℕ) (bs : List ℕ) (rows rows2 : Rows) (cs cs2 : List Conditional) (macros : Macros) (setting : Setting) (tokens : List Token) (uses len : ℕ)
    → a.bytes ≡ b ∷ bs → step a.bytes (state_of a rows cs) ≡ Ok (state_of (again macros setting tokens uses a) rows2 cs2, len)
    → next (config-of a rows cs) ≡ Some (config-of (past len (again macros setting tokens uses a)) rows2 cs2)
run-next a b bs rows rows2 cs cs2 macros setting tokens uses len e f =
    let s = state_of (again macros setting tokens uses a) rows2 cs2 in
    ap (λ bytes. next-of bytes a.files (state_of a rows cs)) e
    ∙ ap (λ r. next-step r (b ∷ bs) a.files (place_of a)) (ap (λ bytes. step bytes (state_of a rows cs)) (sym e) ∙ f)
    ∙ ap (λ bytes. Some (record { bytes = drop len bytes; files = a.files; state = record s { place = moved (take len bytes) (place_of a) } })) (sym e)
    ∙ ap (λ place. Some (record { bytes = drop len a.bytes; files = a.files; state = record s { place = place } })) (moved-place a.file (take len a.bytes) a.passed)

-- From there the files come to what they come to from the other place.
pub record Leads (o : Option Place) (a c : At) (rows : Rows) (cs cs2 : List Conditional) : Type 0 where
  pub first : Option Place
  pub macros : Rows
  pub knows : Knows c.macros macros
  pub same : outcome o a rows cs ≡ outcome first c macros cs2
  pub reach : Reach (config-of a rows cs) (config-of c macros cs2)

pub leads-then : {o : Option Place} {a b c : At} {rows : Rows} {cs cs2 cs3 : List Conditional} (l : Leads o a b rows cs cs2) → Leads l.first b c l.macros cs2 cs3 → Leads o a c rows cs cs3
leads-then l m = record { first = m.first; macros = m.macros; knows = m.knows; same = l.same ∙ m.same; reach = reach-join l.reach m.reach }

-- In text that is read
pub kept-step : (bytes : List ℕ) (s : State) (p : Part) (len : ℕ) → skips s.conditionals ≡ false → beginning bytes ≡ Kept p len → step bytes s ≡ part_read p len bytes s
kept-step bytes s p len e f = ap (λ t. if t then skipped bytes s else piece_read (beginning bytes) bytes s) e ∙ ap (λ q. piece_read q bytes s) f

pub blank-step : (bytes : List ℕ) (s : State) (len : ℕ) → skips s.conditionals ≡ false → beginning bytes ≡ Blank len → step bytes s ≡ Ok (s, len)
blank-step bytes s len e f = ap (λ t. if t then skipped bytes s else piece_read (beginning bytes) bytes s) e ∙ ap (λ q. piece_read q bytes s) f

pub skipped-step : (bytes : List ℕ) (s : State) → skips s.conditionals ≡ true → step bytes s ≡ skipped bytes s
skipped-step bytes s e = ap (λ t. if t then skipped bytes s else piece_read (beginning bytes) bytes s) e

pub eq-literal : (b n : ℕ) → nat_eq b n ≡ true → b ≡ n
eq-literal b n e = grind (arith, nat_tests)

-- A directive's word
word-beginning : (bs : List ℕ) (n : Named) (d : Directive) → word_name bs ≡ Some n → directive_of n.name ≡ Some d
    → (beginning (96 ∷ bs) ≡ Kept (part.Use n.name) (n.len + 1)) × (directive_behind bs n.name ≡ Some d)
word-beginning bs n d e f = by (begins is_name_start bs) refl e
  where
    by : (t : Bool) → begins is_name_start bs ≡ t → (if t then Some (simple_name bs) else None) ≡ Some n
        → (beginning (96 ∷ bs) ≡ Kept (part.Use n.name) (n.len + 1)) × (directive_behind bs n.name ≡ Some d)
    by true g h = let same : simple_name bs ≡ n = cc in (rw g (ap (λ m. Kept (part.Use m.name) (m.len + 1)) same), rw g f)
    by false g h = cc

pub word-read : (d : Directive) (a : At) (at : ℕ) (s : State) → IsWord d a at → skips s.conditionals ≡ false → step a.bytes s ≡ directed d at (drop at a.bytes) s
word-read d a at s w e = by a.bytes w.quote w.word
  where
    by : (bytes : List ℕ) → begins (λ b. nat_eq b 96) bytes ≡ true → word_name (drop 1 bytes) ≡ Some w.name → step bytes s ≡ directed d at (drop at bytes) s
    by [] q g = cc
    by (b ∷ bs) q g =
        let f = word-beginning bs w.name d g w.directive in
        ap (λ x. step (x ∷ bs) s) (eq-literal b 96 q) ∙ kept-step (96 ∷ bs) s (part.Use w.name.name) (w.name.len + 1) e f.0
        ∙ ap (λ o. name_read o w.name.name (w.name.len + 1) (drop (w.name.len + 1) (96 ∷ bs)) s) f.1
        ∙ ap (λ x. directed d (w.name.len + 1) (drop (w.name.len + 1) (x ∷ bs)) s) (sym (eq-literal b 96 q))
        ∙ ap (λ n. directed d n (drop n (b ∷ bs)) s) (sym w.long)

pub quote-skips : (bytes : List ℕ) (s : State) → skips s.conditionals ≡ true → begins (λ b. nat_eq b 96) bytes ≡ true → step bytes s ≡ use_skipped (word_name (drop 1 bytes)) bytes s
quote-skips [] s e q = cc
quote-skips (b ∷ bs) s e q =
    ap (λ x. step (x ∷ bs) s) (eq-literal b 96 q) ∙ skipped-step (96 ∷ bs) s e ∙ ap (λ x. use_skipped (word_name bs) (x ∷ bs) s) (sym (eq-literal b 96 q))

pub word-skips : (d : Directive) (a : At) (at : ℕ) (s : State) → IsWord d a at → skips s.conditionals ≡ true → step a.bytes s ≡ seen_directive d at (drop at a.bytes) s
word-skips d a at s w e =
    quote-skips a.bytes s e w.quote ∙ ap (λ o. use_skipped o a.bytes s) w.word
    ∙ ap (λ o. name_skipped o (w.name.len + 1) (drop (w.name.len + 1) a.bytes) s) w.directive
    ∙ ap (λ n. seen_directive d n (drop n a.bytes) s) (sym w.long)

-- One of a conditional is seen in both
seen-same : (d : Directive) (at : ℕ) (bytes : List ℕ) (s : State) → is_conditional (Some d) ≡ true → seen_directive d at bytes s ≡ directed d at bytes s
seen-same directive.Ifdef at bytes s e = refl
seen-same directive.Ifndef at bytes s e = refl
seen-same directive.Elsif at bytes s e = refl
seen-same directive.Else at bytes s e = refl
seen-same directive.Endif at bytes s e = refl
seen-same directive.Define at bytes s e = cc
seen-same directive.Undef at bytes s e = cc
seen-same directive.Timescale at bytes s e = cc
seen-same directive.DefaultNettype at bytes s e = cc
seen-same directive.Resetall at bytes s e = cc
seen-same directive.Other at bytes s e = cc

pub word-step : (d : Directive) (a : At) (at : ℕ) (s : State) → IsWord d a at → is_conditional (Some d) ≡ true → step a.bytes s ≡ directed d at (drop at a.bytes) s
word-step d a at s w c = by (skips s.conditionals) refl
  where
    by : (t : Bool) → skips s.conditionals ≡ t → step a.bytes s ≡ directed d at (drop at a.bytes) s
    by true e = word-skips d a at s w e ∙ seen-same d at (drop at a.bytes) s c
    by false e = word-read d a at s w e

-- There is a byte
pub record IsMore (bytes : List ℕ) : Type 0 where
  pub first : ℕ
  pub rest : List ℕ
  pub bytes_are : bytes ≡ first ∷ rest

pub more : (b : ℕ) (bs bytes : List ℕ) → bytes ≡ b ∷ bs → IsMore bytes
more b bs bytes e = record { first = b; rest = bs; bytes_are = e }

pub word-more : (bytes : List ℕ) → begins (λ b. nat_eq b 96) bytes ≡ true → IsMore bytes
word-more [] e = cc
word-more (b ∷ bs) e = more b bs (b ∷ bs) refl

pub kept-more : (bytes : List ℕ) (p : Part) (len : ℕ) → beginning bytes ≡ Kept p len → IsMore bytes × (1 ≤ len)
kept-more [] p len e = cc
kept-more (b ∷ bs) p len e = (more b bs (b ∷ bs) refl, (subst (IsFine b) e (fine-beginning b bs)).0)

pub blank-more : (bytes : List ℕ) (len : ℕ) → 1 ≤ len → beginning bytes ≡ Blank len → IsMore bytes
blank-more [] len h e = let same : 0 ≡ len = cc in absurd (omega arith)
blank-more (b ∷ bs) len h e = more b bs (b ∷ bs) refl

pub comment-more : (bytes : List ℕ) (len : ℕ) → comment_len bytes ≡ Some len → IsMore bytes × (1 ≤ len)
comment-more [] len e = cc
comment-more (b ∷ bs) len e = (more b bs (b ∷ bs) refl, comment-long b bs len e)

-- A piece leads there, and where there is a byte it is a step.
pub record Moves (o : Option Place) (a c : At) (rows : Rows) (cs cs2 : List Conditional) : Type 0 where
  pub leads : Leads o a c rows cs cs2
  pub steps : IsMore a.bytes → (x : State × ℕ) × (step a.bytes (state_of a rows cs) ≡ Ok x)

-- A step leads to what it leaves
pub step-leads : (o : Option Place) (a : At) (rows rows2 : Rows) (cs cs2 : List Conditional) (macros : Macros) (setting : Setting) (tokens : List Token) (uses len : ℕ)
    → IsMore a.bytes → 1 ≤ len → Knows macros rows2 → step a.bytes (state_of a rows cs) ≡ Ok (state_of (again macros setting tokens uses a) rows2 cs2, len)
    → Moves o a (past len (again macros setting tokens uses a)) rows cs cs2
step-leads o a rows rows2 cs cs2 macros setting tokens uses len i h k e =
    record {
      leads = record { first = o; macros = rows2; knows = k; same = run-step o a i.first i.rest rows rows2 cs cs2 macros setting tokens uses len i.bytes_are h e; reach = further (run-next a i.first i.rest rows rows2 cs cs2 macros setting tokens uses len i.bytes_are e) here };
      steps = λ _. ((state_of (again macros setting tokens uses a) rows2 cs2, len), e);
    }

lexed-same : (first : Place) (r : Result State Stop) → lexed_by first r ≡ lexed_in (Some first) r
lexed-same first (Ok s) = refl
lexed-same first (Err stop) = refl

pub file-leads : (o : Option Place) (a : At) (rows : Rows) (cs : List Conditional) (f : File) (fs : List File) → a.bytes ≡ [] → a.files ≡ f ∷ fs → Knows a.macros rows → Moves o a (at_start f fs a) rows cs cs
file-leads o a rows cs f fs e g k =
    record {
      leads =
          record {
            first = Some (first_place o f.number);
            macros = rows;
            knows = k;
            same =
                ap (λ bytes. files_after (lexed_in o (read bytes (state_of a rows cs))) a.files) e ∙ ap (λ files. files_after (reading o (state_of a rows cs)) files) g
                ∙ ap (λ l. files_after l fs) (lexed-same (first_place o f.number) (read f.bytes (state_of (at_start f fs a) rows cs)));
            reach = further (ap (λ bytes. next-of bytes a.files (state_of a rows cs)) e ∙ ap (λ files. next-of [] files (state_of a rows cs)) g) here;
          };
      steps = λ i. let no = sym e ∙ i.bytes_are in cc;
    }
