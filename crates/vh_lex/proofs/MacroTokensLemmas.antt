-- What a macro's parts come to is what its bytes spell.
use Rattle.std.proofs.Common.{◌≡◌, ℕ, zero, suc, ◌+◌, ◌-◌, ◌≤◌, ◌<◌, Bool, true, false, List, [], ◌∷◌, ◌++◌, Option, Some, None, Ok, Err, length, drop, nat_lt, option_map, is_some, if◌then◌else◌, refl, ap, sym, subst, ◌∙◌, append_assoc, append-nil, length-append, length-drop, arith}
use Rattle.std.proofs.lemmas.Bool.Decides.{nat_tests}
use Rattle.vh_base.specs.declared.place.Place.{Place}
use Rattle.vh_base.specs.declared.faults.DesignFault.TheVariants.{L6}
use Rattle.vh_lex.specs.declared.token.Kind.{Kind}
use Rattle.vh_lex.specs.declared.token.Kind.TheVariants as kind
use Rattle.vh_lex.specs.declared.token.Token.{Token}
use Rattle.vh_lex.specs.declared.setting.Setting.{Setting}
use Rattle.vh_lex.specs.declared.piece.Part.{Part}
use Rattle.vh_lex.specs.declared.piece.Part.TheVariants as part
use Rattle.vh_lex.specs.declared.piece.Piece.{Piece}
use Rattle.vh_lex.specs.declared.piece.Piece.TheVariants.{Blank, Kept, Fault}
use Rattle.vh_lex.specs.Beginning.{beginning}
use Rattle.vh_lex.specs.Gathered.{MacroRows as Rows, Gathered}
use Rattle.vh_lex.specs.MacroTexts.{piece_then, parts_after, parts_of}
use Rattle.vh_lex.specs.Directives.{directive_of}
use Rattle.vh_lex.specs.Spelling.{Around, Making, and_then, with_token, used_by, used_within, part_made, parts_made, with_use, expanded}
use Rattle.vh_lex.specs.MacroTokens.{Macros, token_of, Gives, nothing, blank, token, macro}
use Rattle.vh_lex.proofs.MacroLemmas.{Knows}
use Rattle.vh_lex.proofs.BeginningLemmas.{IsFine, fine-beginning}

-- Skipping bytes is cutting what follows them
skipped : (skip : ℕ) (bytes : List ℕ) → parts_after skip bytes ≡ parts_of (drop skip bytes)
skipped zero [] = refl
skipped (suc skip) [] = refl
skipped zero (byte ∷ bytes) = refl
skipped (suc skip) (byte ∷ bytes) = skipped skip bytes

pub drop-less : {A : Type 0} (len : ℕ) (b : A) (bs : List A) → 1 ≤ len → drop (len - 1) bs ≡ drop len (b ∷ bs)
drop-less zero b bs h = absurd (omega arith)
drop-less (suc k) b bs h = ap (λ n. drop n bs) (omega arith)

drop-nothing : (len : ℕ) → drop {A = ℕ} len [] ≡ []
drop-nothing zero = refl
drop-nothing (suc n) = refl

parts-blank : (bytes : List ℕ) (len : ℕ) → beginning bytes ≡ Blank len → parts_of bytes ≡ parts_of (drop len bytes)
parts-blank [] len e = ap parts_of (sym (drop-nothing len))
parts-blank (b ∷ bs) len e =
    ap (λ p. piece_then p (λ skip. parts_after skip bs)) e ∙ skipped (len - 1) bs
    ∙ ap parts_of (drop-less len b bs (subst (IsFine b) e (fine-beginning b bs)))

parts-kept : (bytes : List ℕ) (p : Part) (len : ℕ) → beginning bytes ≡ Kept p len → parts_of bytes ≡ p ∷ parts_of (drop len bytes)
parts-kept [] p len e = cc
parts-kept (b ∷ bs) p len e =
    ap (λ q. piece_then q (λ skip. parts_after skip bs)) e
    ∙ ap (λ ps. p ∷ ps) (skipped (len - 1) bs ∙ ap parts_of (drop-less len b bs (subst (IsFine b) e (fine-beginning b bs)).0))

module _ (macros : Macros) (rows : Rows) (setting : Setting) (place : Place) (knows : Knows macros rows) where
  abbrev around : Around
  around = record { macros = rows; setting = setting; place = place }

  abbrev made : List Token → ℕ → Gathered
  made tokens uses = record { tokens = tokens; uses = uses }

  -- a token is made
  token-made : (inner : List Part → Gathered → Making) (p : Part) (k : Kind) (m : Gathered) → token_of setting p ≡ Some k → part_made inner around p m ≡ with_token k place m
  token-made inner (part.Token kind) k m e = let same : kind ≡ k = cc in ap (λ x. with_token x place m) same
  token-made inner part.Module k m e = let same : kind.Module setting ≡ k = cc in ap (λ x. with_token x place m) same
  token-made inner (part.Use name) k m e = cc
  token-made inner (part.Wrong fault) k m e = cc

  token-fits : (k : Kind) (m : Gathered) → length m.tokens < 4194304 → with_token k place m ≡ Ok (made (m.tokens ++ record { kind = k; place = place } ∷ []) m.uses)
  token-fits k m h = let e : nat_lt (length m.tokens) 4194304 ≡ true = grind (arith, nat_tests) in rw e refl

  use-fits : (m : Gathered) → m.uses < 1048576 → with_use m ≡ Ok (made m.tokens (m.uses + 1))
  use-fits m h = let e : nat_lt m.uses 1048576 ≡ true = grind (arith, nat_tests) in rw e refl

  use-made : (inner : List Part → Gathered → Making) (name text : List ℕ) (m : Gathered) → is_some (directive_of name) ≡ false → macros name ≡ Some text
      → part_made inner around (part.Use name) m ≡ inner (parts_of text) m
  use-made inner name text m d e =
      ap (λ t. used_within t inner around name m) d ∙ ap (λ o. used_by inner o m) (knows name ∙ ap (option_map parts_of) e)

  pub gives-made : {levels uses : ℕ} {bytes : List ℕ} {tokens : List Token} → Gives macros setting place levels bytes tokens uses → (m : Gathered)
      → length (m.tokens ++ tokens) ≤ 4194304 → m.uses + uses ≤ 1048576
      → parts_made (expanded levels around) around (parts_of bytes) m ≡ Ok (made (m.tokens ++ tokens) (m.uses + uses))
  unfolding expanded
  gives-made nothing m h k = ap (λ ts. Ok (made ts m.uses)) (sym (append-nil m.tokens)) ∙ ap (λ n. Ok (made (m.tokens ++ []) n)) (omega arith)
  gives-made {levels} {uses} {bytes} {tokens} (blank len e g) m h k =
      ap (λ ps. parts_made (expanded levels around) around ps m) (parts-blank bytes len e) ∙ gives-made g m h k
  gives-made {levels} {uses} {bytes} (token {tokens = tokens} p kd len e t g) m h k =
      let one : Token = record { kind = kd; place = place } in
      let size = length-append m.tokens (one ∷ tokens) in
      let next = made (m.tokens ++ one ∷ []) m.uses in
      let assoc = append_assoc m.tokens (one ∷ []) tokens in
      ap (λ ps. parts_made (expanded levels around) around ps m) (parts-kept bytes p len e)
      ∙ ap (λ o. and_then o (parts_made (expanded levels around) around (parts_of (drop len bytes))))
      (token-made (expanded levels around) p kd m t ∙ token-fits kd m (omega arith))
      ∙ gives-made g next (subst (λ ts. length ts ≤ 4194304) (sym assoc) h) k
      ∙ ap (λ ts. Ok (made ts (m.uses + uses))) assoc
  gives-made {bytes = bytes} (macro {levels = levels} {inner = inner} {uses = uses} {first = first} {tokens = tokens} name text len e d x f g) m h k =
      let size = length-append m.tokens (first ++ tokens) in
      let more = length-append first tokens in
      let beginning-size = length-append m.tokens first in
      let assoc = append_assoc m.tokens first tokens in
      ap (λ ps. parts_made (expanded (suc levels) around) around ps m) (parts-kept bytes (part.Use name) len e)
      ∙ ap (λ o. and_then o (parts_made (expanded (suc levels) around) around (parts_of (drop len bytes))))
      (use-made (expanded (suc levels) around) name text m d x
      ∙ ap (λ o. and_then o (parts_made (expanded levels around) around (parts_of text))) (use-fits m (omega arith))
      ∙ gives-made f (made m.tokens (m.uses + 1)) (omega arith) (omega arith))
      ∙ gives-made g (made (m.tokens ++ first) (m.uses + 1 + inner)) (subst (λ ts. length ts ≤ 4194304) (sym assoc) h) (omega arith)
      ∙ ap (λ ts. Ok (made ts (m.uses + 1 + inner + uses))) assoc
      ∙ ap (λ n. Ok (made (m.tokens ++ (first ++ tokens)) n)) (omega arith)

  -- what a text made of what was made before it
  pub record Given (levels : ℕ) (bytes : List ℕ) (m n : Gathered) : Type 0 where
    pub tokens : List Token
    pub uses : ℕ
    pub gives : Gives macros setting place levels bytes tokens uses
    pub made_is : n ≡ made (m.tokens ++ tokens) (m.uses + uses)
    pub tokens_fit : length m.tokens ≤ 4194304 → length n.tokens ≤ 4194304
    pub uses_fit : m.uses ≤ 1048576 → n.uses ≤ 1048576

  abbrev Used : ℕ → List ℕ → Gathered → Gathered → Type 0
  Used zero text m n = ⊥
  Used (suc levels) text m n = (m.uses < 1048576) × Given levels text (made m.tokens (m.uses + 1)) n

  given-nothing : (levels : ℕ) (m n : Gathered) → m ≡ n → Given levels [] m n
  given-nothing levels m n e =
      record {
        tokens = [];
        uses = 0;
        gives = nothing;
        made_is = sym e ∙ ap (λ ts. made ts m.uses) (sym (append-nil m.tokens)) ∙ ap (λ u. made (m.tokens ++ []) u) (omega arith);
        tokens_fit = subst (λ x. length m.tokens ≤ 4194304 → length x.tokens ≤ 4194304) e (λ h. h);
        uses_fit = subst (λ x. m.uses ≤ 1048576 → x.uses ≤ 1048576) e (λ h. h);
      }

  given-blank : (levels : ℕ) (bytes : List ℕ) (len : ℕ) (m n : Gathered) → beginning bytes ≡ Blank len → Given levels (drop len bytes) m n → Given levels bytes m n
  given-blank levels bytes len m n e g =
      record { tokens = g.tokens; uses = g.uses; gives = blank len e g.gives; made_is = g.made_is; tokens_fit = g.tokens_fit; uses_fit = g.uses_fit }

  given-token : (levels : ℕ) (bytes : List ℕ) (p : Part) (k : Kind) (len : ℕ) (m n : Gathered) → beginning bytes ≡ Kept p len → token_of setting p ≡ Some k → length m.tokens < 4194304
      → Given levels (drop len bytes) (made (m.tokens ++ record { kind = k; place = place } ∷ []) m.uses) n → Given levels bytes m n
  given-token levels bytes p k len m n e t h g =
      let one : Token = record { kind = k; place = place } in
      let size = length-append m.tokens (one ∷ []) in
      record {
        tokens = one ∷ g.tokens;
        uses = g.uses;
        gives = token p k len e t g.gives;
        made_is = g.made_is ∙ ap (λ ts. made ts (m.uses + g.uses)) (append_assoc m.tokens (one ∷ []) g.tokens);
        tokens_fit = λ _. g.tokens_fit (omega arith);
        uses_fit = g.uses_fit;
      }

  given-macro : (levels : ℕ) (bytes name text : List ℕ) (len : ℕ) (m mid n : Gathered) → beginning bytes ≡ Kept (part.Use name) len → is_some (directive_of name) ≡ false → macros name ≡ Some text
      → Used levels text m mid → Given levels (drop len bytes) mid n → Given levels bytes m n
  given-macro zero bytes name text len m mid n e d x u g = absurd u
  given-macro (suc levels) bytes name text len m mid n e d x u g =
      record {
        tokens = u.1.tokens ++ g.tokens;
        uses = 1 + u.1.uses + g.uses;
        gives = macro name text len e d x u.1.gives g.gives;
        made_is =
            g.made_is ∙ ap (λ (x : Gathered). made (x.tokens ++ g.tokens) (x.uses + g.uses)) u.1.made_is
            ∙ ap (λ ts. made ts (m.uses + 1 + u.1.uses + g.uses)) (append_assoc m.tokens u.1.tokens g.tokens)
            ∙ ap (λ n. made (m.tokens ++ (u.1.tokens ++ g.tokens)) n) (omega arith);
        tokens_fit = λ h. g.tokens_fit (u.1.tokens_fit h);
        uses_fit = λ h. g.uses_fit (u.1.uses_fit (let k = u.0 in omega arith));
      }

  -- the parts of a text, where the use of a macro in it is what its text spells
  parts-give : (levels : ℕ) (inner : List Part → Gathered → Making) → ((text : List ℕ) (m n : Gathered) → inner (parts_of text) m ≡ Ok n → Used levels text m n)
      → (most : ℕ) (bytes : List ℕ) → length bytes ≤ most → (m n : Gathered) → parts_made inner around (parts_of bytes) m ≡ Ok n → Given levels bytes m n
  parts-give levels inner uses most [] h m n e = given-nothing levels m n (let same : m ≡ n = cc in same)
  parts-give levels inner uses zero (b ∷ bs) h m n e = absurd (omega arith)
  parts-give levels inner uses (suc most) (b ∷ bs) h m n e = by (beginning (b ∷ bs)) refl (fine-beginning b bs) (λ rest f. parts-give levels inner uses most rest f)
    where
      short : (len : ℕ) → 1 ≤ len → length (drop len (b ∷ bs)) ≤ most
      short len f = rw (length-drop len (b ∷ bs)) (omega arith)

      token-case : (p : Part) (k : Kind) (len : ℕ) → beginning (b ∷ bs) ≡ Kept p len → token_of setting p ≡ Some k → (t : Bool) → nat_lt (length m.tokens) 4194304 ≡ t
          → and_then (if t then Ok (made (m.tokens ++ record { kind = k; place = place } ∷ []) m.uses) else Err L6) (parts_made inner around (parts_of (drop len (b ∷ bs)))) ≡ Ok n
          → ((mid : Gathered) → parts_made inner around (parts_of (drop len (b ∷ bs))) mid ≡ Ok n → Given levels (drop len (b ∷ bs)) mid n) → Given levels (b ∷ bs) m n
      token-case p k len f g true t o rest = given-token levels (b ∷ bs) p k len m n f g (grind (arith, nat_tests)) (rest (made (m.tokens ++ record { kind = k; place = place } ∷ []) m.uses) o)
      token-case p k len f g false t o rest = cc

      use-case : (name text : List ℕ) (len : ℕ) → beginning (b ∷ bs) ≡ Kept (part.Use name) len → is_some (directive_of name) ≡ false → macros name ≡ Some text
          → (o : Making) → inner (parts_of text) m ≡ o → and_then o (parts_made inner around (parts_of (drop len (b ∷ bs)))) ≡ Ok n
          → ((mid : Gathered) → parts_made inner around (parts_of (drop len (b ∷ bs))) mid ≡ Ok n → Given levels (drop len (b ∷ bs)) mid n) → Given levels (b ∷ bs) m n
      use-case name text len f d x (Ok mid) o e rest = given-macro levels (b ∷ bs) name text len m mid n f d x (uses text m mid o) (rest mid e)
      use-case name text len f d x (Err fault) o e rest = cc

      macro-case : (name : List ℕ) (len : ℕ) → beginning (b ∷ bs) ≡ Kept (part.Use name) len → is_some (directive_of name) ≡ false → (x : Option (List ℕ)) → macros name ≡ x
          → and_then (used_by inner (option_map parts_of x) m) (parts_made inner around (parts_of (drop len (b ∷ bs)))) ≡ Ok n
          → ((mid : Gathered) → parts_made inner around (parts_of (drop len (b ∷ bs))) mid ≡ Ok n → Given levels (drop len (b ∷ bs)) mid n) → Given levels (b ∷ bs) m n
      macro-case name len f d None x e rest = cc
      macro-case name len f d (Some text) x e rest = use-case name text len f d x (inner (parts_of text) m) refl e rest

      name-case : (name : List ℕ) (len : ℕ) → beginning (b ∷ bs) ≡ Kept (part.Use name) len → (t : Bool) → is_some (directive_of name) ≡ t
          → and_then (used_within t inner around name m) (parts_made inner around (parts_of (drop len (b ∷ bs)))) ≡ Ok n
          → ((mid : Gathered) → parts_made inner around (parts_of (drop len (b ∷ bs))) mid ≡ Ok n → Given levels (drop len (b ∷ bs)) mid n) → Given levels (b ∷ bs) m n
      name-case name len f true d e rest = cc
      name-case name len f false d e rest =
          macro-case name len f d (macros name) refl
          (ap (λ o. and_then (used_by inner o m) (parts_made inner around (parts_of (drop len (b ∷ bs))))) (sym (knows name)) ∙ e) rest

      part-case : (p : Part) (len : ℕ) → beginning (b ∷ bs) ≡ Kept p len → and_then (part_made inner around p m) (parts_made inner around (parts_of (drop len (b ∷ bs)))) ≡ Ok n
          → ((mid : Gathered) → parts_made inner around (parts_of (drop len (b ∷ bs))) mid ≡ Ok n → Given levels (drop len (b ∷ bs)) mid n) → Given levels (b ∷ bs) m n
      part-case (part.Token k) len f e rest = token-case (part.Token k) k len f refl (nat_lt (length m.tokens) 4194304) refl e rest
      part-case part.Module len f e rest = token-case part.Module (kind.Module setting) len f refl (nat_lt (length m.tokens) 4194304) refl e rest
      part-case (part.Use name) len f e rest = name-case name len f (is_some (directive_of name)) refl e rest
      part-case (part.Wrong fault) len f e rest = cc

      by : (q : Piece) → beginning (b ∷ bs) ≡ q → IsFine b q
          → ((rest : List ℕ) → length rest ≤ most → (mid last : Gathered) → parts_made inner around (parts_of rest) mid ≡ Ok last → Given levels rest mid last) → Given levels (b ∷ bs) m n
      by (Blank len) f fine rest =
          given-blank levels (b ∷ bs) len m n f
          (rest (drop len (b ∷ bs)) (short len fine) m n (ap (λ ps. parts_made inner around ps m) (sym (parts-blank (b ∷ bs) len f)) ∙ e))
      by (Kept p len) f fine rest =
          part-case p len f (ap (λ ps. parts_made inner around ps m) (sym (parts-kept (b ∷ bs) p len f)) ∙ e) (λ mid o. rest (drop len (b ∷ bs)) (short len fine.0) mid n o)
      by (Fault fault at) f fine rest =
          let o = ap (λ ps. parts_made inner around ps m) (sym (ap (λ q. piece_then q (λ skip. parts_after skip bs)) f)) ∙ e in cc

  pub made-gives : (levels : ℕ) (bytes : List ℕ) (m n : Gathered) → parts_made (expanded levels around) around (parts_of bytes) m ≡ Ok n → Given levels bytes m n
  unfolding expanded
  made-gives zero bytes m n e = parts-give zero (expanded zero around) (λ text o p f. cc) (length bytes) bytes (omega arith) m n e
  made-gives (suc levels) bytes m n e = parts-give (suc levels) (expanded (suc levels) around) (λ text o p f. by text o p (made-gives levels text (made o.tokens (o.uses + 1)) p) (nat_lt o.uses 1048576) refl f) (length bytes) bytes (omega arith) m n e
    where
      by : (text : List ℕ) (o p : Gathered) → (parts_made (expanded levels around) around (parts_of text) (made o.tokens (o.uses + 1)) ≡ Ok p → Given levels text (made o.tokens (o.uses + 1)) p)
          → (t : Bool) → nat_lt o.uses 1048576 ≡ t
          → and_then (if t then Ok (made o.tokens (o.uses + 1)) else Err L6) (parts_made (expanded levels around) around (parts_of text)) ≡ Ok p → (o.uses < 1048576) × Given levels text (made o.tokens (o.uses + 1)) p
      by text o p g true t f = (grind (arith, nat_tests), g f)
      by text o p g false t f = cc
