-- The pieces of a text are the steps of the lexer's function.
use Rattle.std.proofs.Common.{◌≡◌, ℕ, ◌+◌, ◌≤◌, Bool, true, false, List, [], ◌∷◌, ◌++◌, Option, Some, None, Ok, Err, length, drop, nat_eq, nat_le, nat_lt, option_map, if◌then◌else◌, refl, ap, sym, subst, ◌∙◌, arith}
use Rattle.std.specs.List.{prefix_len}
use Rattle.std.proofs.lemmas.Bool.Decides.{nat_tests}
use Rattle.vh_base.specs.declared.place.Place.{Place}
use Rattle.vh_base.specs.declared.faults.DesignFault.TheVariants.{L2, L3, L6}
use Rattle.vh_lex.specs.declared.token.Kind.{Kind}
use Rattle.vh_lex.specs.declared.token.Kind.TheVariants as kind
use Rattle.vh_lex.specs.declared.token.Token.{Token}
use Rattle.vh_lex.specs.declared.setting.Setting.{Setting}
use Rattle.vh_lex.specs.declared.conditional.Conditional.{Conditional}
use Rattle.vh_lex.specs.declared.directive.Directive.{Directive}
use Rattle.vh_lex.specs.declared.directive.Directive.TheVariants as directive
use Rattle.vh_lex.specs.declared.piece.Part.{Part}
use Rattle.vh_lex.specs.declared.piece.Part.TheVariants as part
use Rattle.vh_lex.specs.Bytes.{begins, is_name_byte}
use Rattle.vh_lex.specs.Beginning.{Named, name_of, is_long}
use Rattle.vh_lex.specs.Gathered.{MacroRows as Rows, Gathered, with_macro}
use Rattle.vh_lex.specs.MacroTexts.{parts_of, macro_text, macro_len}
use Rattle.vh_lex.specs.Conditionals.{skips}
use Rattle.vh_lex.specs.State.{State}
use Rattle.vh_lex.specs.Directives.{Step, Naming, directive_behind, gap_len, name_by, name_behind, named_then, define_by, define_text, scaled, timescale_by, default_net_by, directed, refused}
use Rattle.vh_lex.specs.Spelling.{and_then, with_token as token_more, used_by, with_use, parts_made, expanded, made_in, around_of, name_read, part_read}
use Rattle.vh_lex.specs.MacroTokens.{with_text, token_of, Gives}
use Rattle.vh_lex.specs.SourceText.{At, place_of, Defines, Names, Sets, Goes, blank, token, macro, define, undef, sets, file}
use Rattle.vh_lex.proofs.MacroLemmas.{Knows, knows-with}
use Rattle.vh_lex.proofs.MacroTokensLemmas.{gives-made}
use Rattle.vh_lex.proofs.StepLemmas.{state_of, Moves, again, step-leads, file-leads, kept-step, blank-step, word-read, word-more, kept-more, blank-more}

-- A token
token-read : (a : At) (rows : Rows) (cs : List Conditional) (p : Part) (k : Kind) (len : ℕ) (bytes : List ℕ) → token_of a.setting p ≡ Some k
    → part_read p len bytes (state_of a rows cs) ≡ made_in (state_of a rows cs) len (token_more k (place_of a) (state_of a rows cs).made)
token-read a rows cs (part.Token kind) k len bytes e = let same : kind ≡ k = cc in ap (λ x. made_in (state_of a rows cs) len (token_more x (place_of a) (state_of a rows cs).made)) same
token-read a rows cs part.Module k len bytes e = let same : kind.Module a.setting ≡ k = cc in ap (λ x. made_in (state_of a rows cs) len (token_more x (place_of a) (state_of a rows cs).made)) same
token-read a rows cs (part.Use name) k len bytes e = cc
token-read a rows cs (part.Wrong fault) k len bytes e = cc

token-fits : (k : Kind) (place : Place) (m : Gathered) → length m.tokens + 1 ≤ 4194304
    → token_more k place m ≡ Ok (record m { tokens = m.tokens ++ record { kind = k; place = place } ∷ [] })
token-fits k place m h = let e : nat_lt (length m.tokens) 4194304 ≡ true = grind (arith, nat_tests) in rw e refl

use-fits : (m : Gathered) → m.uses + 1 ≤ 1048576 → with_use m ≡ Ok (record m { uses = m.uses + 1 })
use-fits m h = let e : nat_lt m.uses 1048576 ≡ true = grind (arith, nat_tests) in rw e refl

-- The use of a macro
macro-read : (a : At) (rows : Rows) (cs : List Conditional) (name text : List ℕ) (len inner : ℕ) (tokens : List Token) (bytes : List ℕ) → Knows a.macros rows
    → directive_behind (drop 1 bytes) name ≡ None → a.macros name ≡ Some text → Gives a.macros a.setting (place_of a) 63 text tokens inner
    → length (a.tokens ++ tokens) ≤ 4194304 → a.uses + 1 + inner ≤ 1048576
    → part_read (part.Use name) len bytes (state_of a rows cs) ≡ Ok (state_of (again a.macros a.setting (a.tokens ++ tokens) (a.uses + 1 + inner) a) rows cs, len)
unfolding expanded
macro-read a rows cs name text len inner tokens bytes k d x g h u =
    let s = state_of a rows cs in
    ap (λ o. name_read o name len (drop len bytes) s) d
    ∙ ap (λ o. made_in s len (used_by (expanded 64 (around_of s)) o s.made)) (k name ∙ ap (option_map parts_of) x)
    ∙ ap (λ o. made_in s len (and_then o (parts_made (expanded 63 (around_of s)) (around_of s) (parts_of text)))) (use-fits s.made (omega arith))
    ∙ ap (λ o. made_in s len o) (gives-made a.macros rows a.setting (place_of a) k g (record s.made { uses = a.uses + 1 }) h u)

abbrev from-of : Naming → ℕ
from-of (Ok found) = found.0
from-of (Err wrong) = 0

-- A name stands behind the word
name-from : (at from : ℕ) (bytes : List ℕ) (n : Named) → name_behind at bytes ≡ Ok (from, n) → at ≤ from
name-from at from bytes n e = by (name_of (drop (gap_len bytes) bytes)) e
  where
    long : (m : Named) (t : Bool) → if◌then◌else◌ {A = Naming} t (Err (L6, at + gap_len bytes)) (Ok (at + gap_len bytes, m)) ≡ Ok (from, n) → at ≤ from
    long m true g = cc
    long m false g = subst (λ x. at ≤ x) (ap from-of g) (omega arith)

    by : (o : Option Named) → name_by o (at + gap_len bytes) ≡ Ok (from, n) → at ≤ from
    by None f = cc
    by (Some m) f = long m (is_long m.name) f

pub names-long : (d : Directive) (a : At) (name : List ℕ) (len : ℕ) → Names d a name len → 1 ≤ len
names-long d a name len w = let h = name-from w.at w.from (drop w.at a.bytes) w.named w.found in let e = w.word.long in let f = w.long in omega arith

-- `define
define-read : (a : At) (rows : Rows) (cs : List Conditional) (name text : List ℕ) (len : ℕ) (w : Defines a name text len)
    → directed directive.Define w.at (drop w.at a.bytes) (state_of a rows cs) ≡ Ok (state_of a (with_macro name (Some (parts_of text)) rows) cs, len)
define-read a rows cs name text len w =
    let s = state_of a rows cs in
    let behind = drop w.at a.bytes in
    let gap = gap_len behind in
    let rest = drop gap behind in
    let last : Step = define_text (w.at + gap + w.named.len) w.named.name (drop w.named.len rest) s in
    let third : Step = if is_long w.named.name then Err (L6, w.at + gap) else last in
    let second : Step = if begins (λ b. nat_eq b 40) (drop w.named.len rest) then refused L3 else third in
    ap (λ t. if t then refused L2 else define_by (name_of rest) (w.at + gap) rest s) w.on_line
    ∙ ap (λ o. define_by o (w.at + gap) rest s) w.found
    ∙ ap (λ t. if t then refused L2 else second) w.is_free
    ∙ ap (λ t. if t then refused L3 else third) w.is_plain
    ∙ ap (λ t. if t then Err (L6, w.at + gap) else last) w.is_short
    ∙ ap (λ x. Ok (state_of a (with_macro x (Some (parts_of (macro_text (drop w.named.len rest)))) rows) cs, w.at + gap + w.named.len + macro_len (drop w.named.len rest))) (sym w.name_is)
    ∙ ap (λ x. Ok (state_of a (with_macro name (Some (parts_of x)) rows) cs, w.at + gap + w.named.len + macro_len (drop w.named.len rest))) (sym w.text_is)
    ∙ ap (λ n. Ok (state_of a (with_macro name (Some (parts_of text)) rows) cs, n)) (sym w.long)

-- A directive with a name
pub named-read : (d : Directive) (a : At) (name : List ℕ) (len : ℕ) (w : Names d a name len) (go : List ℕ → State)
    → named_then (name_behind w.at (drop w.at a.bytes)) (λ from n. Ok (go n.name, from + n.len)) ≡ Ok (go name, len)
named-read d a name len w go =
    ap (λ o. named_then o (λ from n. Ok (go n.name, from + n.len))) w.found
    ∙ ap (λ x. Ok (go x, w.from + w.named.len)) (sym w.name_is) ∙ ap (λ n. Ok (go name, n)) (sym w.long)

-- A directive of settings
sets-read : (d : Directive) (a : At) (rows : Rows) (cs : List Conditional) (at len : ℕ) (bytes : List ℕ) (new : Setting) → Sets d at bytes a.setting new len
    → directed d at bytes (state_of a rows cs) ≡ Ok (state_of (again a.macros new a.tokens a.uses a) rows cs, len)
sets-read directive.Timescale a rows cs at len bytes new w =
    let s = state_of a rows cs in
    let fine : nat_le w.precision.value w.unit.value ≡ true = let h = w.is_fine in grind (arith, nat_tests) in
    ap (λ o. timescale_by at o bytes s) w.first ∙ ap (λ o. scaled at w.unit o s) w.second
    ∙ ap (λ t. if t then Ok (state_of (again a.macros (record a.setting { unit = w.unit.value; precision = w.precision.value }) a.tokens a.uses a) rows cs, at + w.unit.len + w.precision.len) else refused L2) fine
    ∙ ap (λ x. Ok (state_of (again a.macros x a.tokens a.uses a) rows cs, at + w.unit.len + w.precision.len)) (sym w.set)
    ∙ ap (λ n. Ok (state_of (again a.macros new a.tokens a.uses a) rows cs, n)) (sym w.long)
sets-read directive.DefaultNettype a rows cs at len bytes new w =
    let s = state_of a rows cs in
    let size = at + gap_len bytes + prefix_len is_name_byte (drop (gap_len bytes) bytes) in
    ap (λ o. default_net_by o size s) w.found
    ∙ ap (λ x. Ok (state_of (again a.macros x a.tokens a.uses a) rows cs, size)) (sym w.set)
    ∙ ap (λ n. Ok (state_of (again a.macros new a.tokens a.uses a) rows cs, n)) (sym w.long)
sets-read directive.Resetall a rows cs at len bytes new w =
    ap (λ x. Ok (state_of (again a.macros x a.tokens a.uses a) rows cs, at)) (sym w.0)
    ∙ ap (λ n. Ok (state_of (again a.macros new a.tokens a.uses a) rows cs, n)) (sym w.1)
sets-read directive.Define a rows cs at len bytes new w = absurd w
sets-read directive.Undef a rows cs at len bytes new w = absurd w
sets-read directive.Ifdef a rows cs at len bytes new w = absurd w
sets-read directive.Ifndef a rows cs at len bytes new w = absurd w
sets-read directive.Elsif a rows cs at len bytes new w = absurd w
sets-read directive.Else a rows cs at len bytes new w = absurd w
sets-read directive.Endif a rows cs at len bytes new w = absurd w
sets-read directive.Other a rows cs at len bytes new w = absurd w

pub sets-long : (d : Directive) (at len : ℕ) (bytes : List ℕ) (old new : Setting) → 1 ≤ at → Sets d at bytes old new len → 1 ≤ len
sets-long directive.Timescale at len bytes old new h w = let e = w.long in omega arith
sets-long directive.DefaultNettype at len bytes old new h w = let e = w.long in omega arith
sets-long directive.Resetall at len bytes old new h w = let e = w.1 in omega arith
sets-long directive.Define at len bytes old new h w = absurd w
sets-long directive.Undef at len bytes old new h w = absurd w
sets-long directive.Ifdef at len bytes old new h w = absurd w
sets-long directive.Ifndef at len bytes old new h w = absurd w
sets-long directive.Elsif at len bytes old new h w = absurd w
sets-long directive.Else at len bytes old new h w = absurd w
sets-long directive.Endif at len bytes old new h w = absurd w
sets-long directive.Other at len bytes old new h w = absurd w

-- A piece of text that is read
pub goes-leads : {a c : At} → Goes a c → (o : Option Place) (rows : Rows) (cs : List Conditional) → Knows a.macros rows → skips cs ≡ false → Moves o a c rows cs cs
goes-leads {a} (blank len h e) o rows cs k f =
    step-leads o a rows rows cs cs a.macros a.setting a.tokens a.uses len (blank-more a.bytes len h e) h k (blank-step a.bytes (state_of a rows cs) len f e)
goes-leads {a} (token p kd len e t h) o rows cs k f =
    let s = state_of a rows cs in
    let i = kept-more a.bytes p len e in
    step-leads o a rows rows cs cs a.macros a.setting (a.tokens ++ record { kind = kd; place = place_of a } ∷ []) a.uses len i.0 i.1 k
    (kept-step a.bytes s p len f e ∙ token-read a rows cs p kd len a.bytes t ∙ ap (λ m. made_in s len m) (token-fits kd (place_of a) s.made h))
goes-leads {a} (macro name text len inner tokens e d x g h u) o rows cs k f =
    let s = state_of a rows cs in
    let i = kept-more a.bytes (part.Use name) len e in
    step-leads o a rows rows cs cs a.macros a.setting (a.tokens ++ tokens) (a.uses + 1 + inner) len i.0 i.1 k
    (kept-step a.bytes s (part.Use name) len f e ∙ macro-read a rows cs name text len inner tokens a.bytes k d x g h u)
goes-leads {a} (define name text len w) o rows cs k f =
    step-leads o a rows (with_macro name (Some (parts_of text)) rows) cs cs (with_text name (Some text) a.macros) a.setting a.tokens a.uses len
    (word-more a.bytes w.word.quote) (let e = w.word.long in let l = w.long in omega arith) (knows-with name (Some text) a.macros rows k)
    (word-read directive.Define a w.at (state_of a rows cs) w.word f ∙ define-read a rows cs name text len w)
goes-leads {a} (undef name len w) o rows cs k f =
    let s = state_of a rows cs in
    step-leads o a rows (with_macro name None rows) cs cs (with_text name None a.macros) a.setting a.tokens a.uses len
    (word-more a.bytes w.word.quote) (names-long directive.Undef a name len w) (knows-with name None a.macros rows k)
    (word-read directive.Undef a w.at s w.word f ∙ named-read directive.Undef a name len w (λ n. record s { macros = with_macro n None s.macros }))
goes-leads {a} (sets d at len new w x) o rows cs k f =
    step-leads o a rows rows cs cs a.macros new a.tokens a.uses len (word-more a.bytes w.quote)
    (sets-long d at len (drop at a.bytes) a.setting new (let e = w.long in omega arith) x) k
    (word-read d a at (state_of a rows cs) w f ∙ sets-read d a rows cs at len (drop at a.bytes) new x)
goes-leads {a} (file f fs e g) o rows cs k h = file-leads o a rows cs f fs e g k
