-- The pieces of skipped text, and the directives of conditionals, are steps of the lexer's function.
use Rattle.std.proofs.Common.{◌≡◌, ℕ, ◌+◌, ◌≤◌, Bool, true, false, List, [], ◌∷◌, ◌++◌, Option, Some, None, Ok, Err, drop, nat_eq, option_map, is_some, if◌then◌else◌, refl, ap, sym, ◌∙◌, arith}
use Rattle.vh_base.specs.declared.place.Place.{Place}
use Rattle.vh_base.specs.declared.faults.DesignFault.TheVariants.{L2, L5}
use Rattle.vh_lex.specs.declared.conditional.Conditional.{Conditional}
use Rattle.vh_lex.specs.declared.conditional.Branch.{Branch}
use Rattle.vh_lex.specs.declared.directive.Directive.{Directive}
use Rattle.vh_lex.specs.declared.directive.Directive.TheVariants as directive
use Rattle.vh_lex.specs.Bytes.{begins_with}
use Rattle.vh_lex.specs.Beginning.{comment_len, word_name}
use Rattle.vh_lex.specs.Gathered.{MacroRows as Rows, macro_of}
use Rattle.vh_lex.specs.MacroTexts.{parts_of}
use Rattle.vh_lex.specs.Conditionals.{skips}
use Rattle.vh_lex.specs.State.{State}
use Rattle.vh_lex.specs.Directives.{Step, directive_of, name_behind, named_then, condition, opening, next_branch, opened as opened_in, branching, elsif_in, else_in, endif_by, directed, refused}
use Rattle.vh_lex.specs.Spelling.{comment_skipped, use_skipped, name_skipped, step}
use Rattle.vh_lex.specs.SourceText.{At, place_of, past, Names, Passes, comment, byte, quote, word, skipped_file, If, ifdef, ifndef, Elsif, elsif, Else, else_, Endif, endif, is_conditional}
use Rattle.vh_lex.proofs.ConditionalsLemmas.{innermost-last, without-last, with-last}
use Rattle.vh_lex.proofs.MacroLemmas.{Knows}
use Rattle.vh_lex.proofs.StepLemmas.{state_of, Moves, IsMore, step-leads, file-leads, skipped-step, quote-skips, word-step, more, word-more, comment-more}
use Rattle.vh_lex.proofs.GoesLemmas.{named-read, names-long}

-- A piece of skipped text
bare-step : (b : ℕ) (bs : List ℕ) (s : State) → nat_eq b 96 ≡ false → comment_len (b ∷ bs) ≡ None → begins_with 47 42 (b ∷ bs) ≡ false
    → comment_skipped (comment_len (b ∷ bs)) (b ∷ bs) s ≡ Ok (s, 1)
bare-step b bs s q c d =
    let last : Step = if nat_eq b 96 then use_skipped (word_name bs) (b ∷ bs) s else Ok (s, 1) in
    ap (λ o. comment_skipped o (b ∷ bs) s) c ∙ ap (λ t. if t then Err (L5, 0) else last) d
    ∙ ap (λ t. if◌then◌else◌ {A = Step} t (use_skipped (word_name bs) (b ∷ bs) s) (Ok (s, 1))) q

plain-word : (o : Option Directive) (at : ℕ) (bytes : List ℕ) (s : State) → is_conditional o ≡ false → name_skipped o at bytes s ≡ Ok (s, at)
plain-word None at bytes s e = refl
plain-word (Some directive.Define) at bytes s e = refl
plain-word (Some directive.Undef) at bytes s e = refl
plain-word (Some directive.Timescale) at bytes s e = refl
plain-word (Some directive.DefaultNettype) at bytes s e = refl
plain-word (Some directive.Resetall) at bytes s e = refl
plain-word (Some directive.Other) at bytes s e = refl
plain-word (Some directive.Ifdef) at bytes s e = cc
plain-word (Some directive.Ifndef) at bytes s e = cc
plain-word (Some directive.Elsif) at bytes s e = cc
plain-word (Some directive.Else) at bytes s e = cc
plain-word (Some directive.Endif) at bytes s e = cc

skip-leads : (o : Option Place) (a : At) (rows : Rows) (cs : List Conditional) (len : ℕ) → Knows a.macros rows → IsMore a.bytes → 1 ≤ len → step a.bytes (state_of a rows cs) ≡ Ok (state_of a rows cs, len)
    → Moves o a (past len a) rows cs cs
skip-leads o a rows cs len k i h e = step-leads o a rows rows cs cs a.macros a.setting a.tokens a.uses len i h k e

pub passes-leads : {a c : At} → Passes a c → (o : Option Place) (rows : Rows) (cs : List Conditional) → Knows a.macros rows → skips cs ≡ true → Moves o a c rows cs cs
passes-leads {a} (comment len e) o rows cs k f =
    let s = state_of a rows cs in
    let i = comment-more a.bytes len e in
    skip-leads o a rows cs len k i.0 i.1 (skipped-step a.bytes s f ∙ ap (λ x. comment_skipped x a.bytes s) e)
passes-leads {a} (byte first rest e c b q) o rows cs k f =
    let s = state_of a rows cs in
    skip-leads o a rows cs 1 k (more first rest a.bytes e) (omega arith)
    (skipped-step a.bytes s f ∙ ap (λ x. comment_skipped (comment_len x) x s) e
    ∙ bare-step first rest s q (ap comment_len (sym e) ∙ c) (ap (begins_with 47 42) (sym e) ∙ b))
passes-leads {a} (quote q w) o rows cs k f =
    let s = state_of a rows cs in
    skip-leads o a rows cs 1 k (word-more a.bytes q) (omega arith) (quote-skips a.bytes s f q ∙ ap (λ x. use_skipped x a.bytes s) w)
passes-leads {a} (word name q w c) o rows cs k f =
    let s = state_of a rows cs in
    skip-leads o a rows cs (name.len + 1) k (word-more a.bytes q) (omega arith)
    (quote-skips a.bytes s f q ∙ ap (λ x. use_skipped x a.bytes s) w ∙ plain-word (directive_of name.name) (name.len + 1) (drop (name.len + 1) a.bytes) s c)
passes-leads {a} (skipped_file f fs e g) o rows cs k h = file-leads o a rows cs f fs e g k

-- Whether a macro is defined
known-same : (o : Option (List ℕ)) → is_some (option_map parts_of o) ≡ is_some o
known-same None = refl
known-same (Some x) = refl

pub defined-same : (a : At) (rows : Rows) (name : List ℕ) → Knows a.macros rows → is_some (macro_of name rows) ≡ is_some (a.macros name)
defined-same a rows name k = ap is_some (k name) ∙ known-same (a.macros name)

-- A conditional more
abbrev pub begun : At → Branch → Conditional
begun a b = record { place = place_of a; branch = b; has_else = false }

if-step : (wanted : Bool) (d : Directive) (a : At) (rows : Rows) (cs : List Conditional) (name : List ℕ) (len : ℕ) (t : Bool) (w : Names d a name len) → is_conditional (Some d) ≡ true
    → ((at : ℕ) (bytes : List ℕ) (s : State) → directed d at bytes s ≡ named_then (name_behind at bytes) (λ from n. Ok (opened_in wanted n.name s, from + n.len)))
    → Knows a.macros rows → skips cs ≡ t
    → step a.bytes (state_of a rows cs) ≡ Ok (state_of a rows (cs ++ begun a (opening t (condition wanted (is_some (a.macros name)))) ∷ []), len)
if-step wanted d a rows cs name len t w c go k f =
    let s = state_of a rows cs in
    word-step d a w.at s w.word c ∙ go w.at (drop w.at a.bytes) s
    ∙ named-read d a name len w (λ n. opened_in wanted n s)
    ∙ ap (λ x. Ok (state_of a rows (cs ++ begun a (opening x (condition wanted (is_some (macro_of name rows)))) ∷ []), len)) f
    ∙ ap (λ x. Ok (state_of a rows (cs ++ begun a (opening t (condition wanted x)) ∷ []), len)) (defined-same a rows name k)

pub if-leads : {holds : Bool} {a c : At} → If holds a c → (o : Option Place) (rows : Rows) (cs : List Conditional) (t : Bool) → Knows a.macros rows → skips cs ≡ t
    → Moves o a c rows cs (cs ++ begun a (opening t holds) ∷ [])
if-leads {a = a} (ifdef name len w) o rows cs t k f =
    step-leads o a rows rows cs (cs ++ begun a (opening t (condition true (is_some (a.macros name)))) ∷ []) a.macros a.setting a.tokens a.uses len (word-more a.bytes w.word.quote)
    (names-long directive.Ifdef a name len w) k (if-step true directive.Ifdef a rows cs name len t w refl (λ at bytes s. refl) k f)
if-leads {a = a} (ifndef name len w) o rows cs t k f =
    step-leads o a rows rows cs (cs ++ begun a (opening t (condition false (is_some (a.macros name)))) ∷ []) a.macros a.setting a.tokens a.uses len (word-more a.bytes w.word.quote)
    (names-long directive.Ifndef a name len w) k (if-step false directive.Ifndef a rows cs name len t w refl (λ at bytes s. refl) k f)

-- Another branch of the innermost one
abbrev pub turned : Bool → Conditional → Conditional
turned holds c = record c { branch = next_branch c.branch holds }

abbrev pub elsed : Conditional → Conditional
elsed c = record c { branch = next_branch c.branch true; has_else = true }

pub elsif-leads : {holds : Bool} {a b : At} → Elsif holds a b → (o : Option Place) (rows : Rows) (cs : List Conditional) (c : Conditional) → c.has_else ≡ false → Knows a.macros rows
    → Moves o a b rows (cs ++ c ∷ []) (cs ++ turned holds c ∷ [])
elsif-leads {a = a} (elsif name len w) o rows cs c h k =
    let s = state_of a rows (cs ++ c ∷ []) in
    let naming = name_behind w.at (drop w.at a.bytes) in
    let go : Conditional → Step = λ d. named_then naming (λ from n. Ok (elsif_in d n.name s, from + n.len)) in
    step-leads o a rows rows (cs ++ c ∷ []) (cs ++ turned (is_some (a.macros name)) c ∷ []) a.macros a.setting a.tokens a.uses len (word-more a.bytes w.word.quote)
    (names-long directive.Elsif a name len w) k
    (word-step directive.Elsif a w.at s w.word refl ∙ ap (λ x. branching x go) (innermost-last cs c) ∙ ap (λ t. if t then refused L2 else go c) h
    ∙ named-read directive.Elsif a name len w (λ n. elsif_in c n s)
    ∙ ap (λ x. Ok (state_of a rows x, len)) (with-last cs c (turned (is_some (macro_of name rows)) c))
    ∙ ap (λ x. Ok (state_of a rows (cs ++ turned x c ∷ []), len)) (defined-same a rows name k))

pub else-leads : {a b : At} → Else a b → (o : Option Place) (rows : Rows) (cs : List Conditional) (c : Conditional) → c.has_else ≡ false → Knows a.macros rows
    → Moves o a b rows (cs ++ c ∷ []) (cs ++ elsed c ∷ [])
else-leads {a} (else_ len w) o rows cs c h k =
    let s = state_of a rows (cs ++ c ∷ []) in
    step-leads o a rows rows (cs ++ c ∷ []) (cs ++ elsed c ∷ []) a.macros a.setting a.tokens a.uses len (word-more a.bytes w.quote) (let e = w.long in omega arith) k
    (word-step directive.Else a len s w refl ∙ ap (λ x. branching x (λ d. Ok (else_in d s, len))) (innermost-last cs c) ∙ ap (λ t. if t then refused L2 else Ok (else_in c s, len)) h
    ∙ ap (λ x. Ok (state_of a rows x, len)) (with-last cs c (elsed c)))

pub endif-leads : {a b : At} → Endif a b → (o : Option Place) (rows : Rows) (cs : List Conditional) (c : Conditional) → Knows a.macros rows → Moves o a b rows (cs ++ c ∷ []) cs
endif-leads {a} (endif len w) o rows cs c k =
    let s = state_of a rows (cs ++ c ∷ []) in
    step-leads o a rows rows (cs ++ c ∷ []) cs a.macros a.setting a.tokens a.uses len (word-more a.bytes w.quote) (let e = w.long in omega arith) k
    (word-step directive.Endif a len s w refl ∙ ap (λ x. endif_by x len s) (innermost-last cs c) ∙ ap (λ x. Ok (state_of a rows x, len)) (without-last cs c))
