-- The pieces of a text cover its files.
use Rattle.std.proofs.Common.{◌≡◌, ◌⊎◌, inl, inr, ℕ, ◌+◌, ◌≤◌, Bool, List, [], ◌∷◌, ◌++◌, length, take, drop, refl, ap, sym, ◌∙◌, length-take, take-append-drop, arith}
use Rattle.vh_lex.specs.declared.token.Token.{Token}
use Rattle.vh_lex.specs.declared.setting.Setting.{Setting}
use Rattle.vh_lex.specs.declared.directive.Directive.TheVariants as directive
use Rattle.vh_lex.specs.declared.piece.Part.TheVariants as part
use Rattle.vh_lex.specs.Lexed.{File}
use Rattle.vh_lex.specs.MacroTokens.{Macros}
use Rattle.vh_lex.specs.SourceText.{HasText, At, past, at_start, Goes, blank, token, macro, define, undef, sets, file, Passes, comment, byte, quote, word, skipped_file, If, ifdef, ifndef, Elsif, elsif, Else, else_, Endif, endif}
use Rattle.vh_lex.specs.Laws.{NeverBoth}
use Rattle.vh_lex.specs.TextLaws.{Cuts, Opens, Covers}
use Rattle.vh_lex.proofs.StepLemmas.{IsMore, again, more, word-more, kept-more, blank-more, comment-more}
use Rattle.vh_lex.proofs.GoesLemmas.{names-long, sets-long}
use Rattle.vh_lex.proofs.ReachedLemmas.{text_is_spelled}

cuts : (a : At) (macros : Macros) (setting : Setting) (tokens : List Token) (uses len : ℕ) → IsMore a.bytes → 1 ≤ len → Cuts a (past len (again macros setting tokens uses a))
cuts a macros setting tokens uses len i h =
    record {
      piece = take len a.bytes;
      is_some = (let size = length-take len a.bytes in let whole : length a.bytes ≡ length i.rest + 1 = ap length i.bytes_are ∙ omega arith in omega arith);
      bytes = sym (take-append-drop len a.bytes);
      passed = refl;
      file = refl;
      files = refl;
    }

opens : (a : At) (f : File) (fs : List File) → a.bytes ≡ [] → a.files ≡ f ∷ fs → Opens a (at_start f fs a)
opens a f fs e g = record { next = f; none_left = e; bytes = refl; passed = refl; file = refl; files = g }

read-covers : {a c : At} → Goes a c → Cuts a c ⊎ Opens a c
read-covers {a} (blank len h e) = inl (cuts a a.macros a.setting a.tokens a.uses len (blank-more a.bytes len h e) h)
read-covers {a} (token p k len e t h) = let i = kept-more a.bytes p len e in inl (cuts a a.macros a.setting _ a.uses len i.0 i.1)
read-covers {a} (macro name text len inner tokens e d x g h u) = let i = kept-more a.bytes (part.Use name) len e in inl (cuts a a.macros a.setting (a.tokens ++ tokens) _ len i.0 i.1)
read-covers {a} (define name text len w) = inl (cuts a _ a.setting a.tokens a.uses len (word-more a.bytes w.word.quote) (let e = w.word.long in let l = w.long in omega arith))
read-covers {a} (undef name len w) = inl (cuts a _ a.setting a.tokens a.uses len (word-more a.bytes w.word.quote) (names-long directive.Undef a name len w))
read-covers {a} (sets d at len new w x) =
    inl (cuts a a.macros new a.tokens a.uses len (word-more a.bytes w.quote) (sets-long d at len (drop at a.bytes) a.setting new (let e = w.long in omega arith) x))
read-covers {a} (file f fs e g) = inr (opens a f fs e g)

skipped-covers : {a c : At} → Passes a c → Cuts a c ⊎ Opens a c
skipped-covers {a} (comment len e) = let i = comment-more a.bytes len e in inl (cuts a a.macros a.setting a.tokens a.uses len i.0 i.1)
skipped-covers {a} (byte first rest e c b q) = inl (cuts a a.macros a.setting a.tokens a.uses 1 (more first rest a.bytes e) (omega arith))
skipped-covers {a} (quote q w) = inl (cuts a a.macros a.setting a.tokens a.uses 1 (word-more a.bytes q) (omega arith))
skipped-covers {a} (word name q w c) = inl (cuts a a.macros a.setting a.tokens a.uses (name.len + 1) (word-more a.bytes q) (omega arith))
skipped-covers {a} (skipped_file f fs e g) = inr (opens a f fs e g)

if-covers : {holds : Bool} {a c : At} → If holds a c → Cuts a c
if-covers {a = a} (ifdef name len w) = cuts a a.macros a.setting a.tokens a.uses len (word-more a.bytes w.word.quote) (names-long directive.Ifdef a name len w)
if-covers {a = a} (ifndef name len w) = cuts a a.macros a.setting a.tokens a.uses len (word-more a.bytes w.word.quote) (names-long directive.Ifndef a name len w)

elsif-covers : {holds : Bool} {a c : At} → Elsif holds a c → Cuts a c
elsif-covers {a = a} (elsif name len w) = cuts a a.macros a.setting a.tokens a.uses len (word-more a.bytes w.word.quote) (names-long directive.Elsif a name len w)

else-covers : {a c : At} → Else a c → Cuts a c
else-covers {a} (else_ len w) = cuts a a.macros a.setting a.tokens a.uses len (word-more a.bytes w.quote) (let e = w.long in omega arith)

endif-covers : {a c : At} → Endif a c → Cuts a c
endif-covers {a} (endif len w) = cuts a a.macros a.setting a.tokens a.uses len (word-more a.bytes w.quote) (let e = w.long in omega arith)

pub covers : Covers
covers =
    record {
      read = λ a c g. read-covers g;
      skipped = λ a c g. skipped-covers g;
      opens = λ holds a c g. if-covers g;
      turns = λ holds a c g. elsif-covers g;
      else_ = λ a c g. else-covers g;
      closes = λ a c g. endif-covers g;
    }

pub never_both : NeverBoth HasText
never_both files tokens fault place t r = let e = sym (text_is_spelled files tokens t).0 ∙ r in cc
