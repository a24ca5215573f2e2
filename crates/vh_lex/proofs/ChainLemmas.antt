-- What the lexer's function gives is a text.
use Rattle.std.proofs.Common.{◌≡◌, ◌⊎◌, inl, inr, ℕ, zero, suc, ◌+◌, ◌-◌, ◌≤◌, Bool, true, false, List, [], ◌∷◌, ◌++◌, Option, Some, None, Result, slice_get, Ok, Err, length, take, drop, nat_eq, nat_le, nat_lt, option_map, is_some, if◌then◌else◌, refl, ap, sym, subst, ◌∙◌, length-append, length-drop, arith}
use Rattle.std.specs.List.{list_any, prefix_len}
use Rattle.std.proofs.lemmas.Bool.Decides.{nat_tests}
use Rattle.vh_base.specs.declared.place.Place.{Place}
use Rattle.vh_base.specs.declared.faults.DesignFault.{DesignFault}
use Rattle.vh_base.specs.declared.faults.DesignFault.TheVariants.{L2, L3, L5, L6}
use Rattle.vh_base.specs.Classes.{is_name_start}
use Rattle.vh_lex.specs.declared.token.Kind.{Kind}
use Rattle.vh_lex.specs.declared.token.Kind.TheVariants as kind
use Rattle.vh_lex.specs.declared.token.Token.{Token}
use Rattle.vh_lex.specs.declared.setting.Setting.{Setting}
use Rattle.vh_lex.specs.declared.setting.DefaultNet.{DefaultNet}
use Rattle.vh_lex.specs.declared.conditional.Conditional.{Conditional}
use Rattle.vh_lex.specs.declared.conditional.Branch.{Branch}
use Rattle.vh_lex.specs.declared.conditional.Branch.TheVariants as branch
use Rattle.vh_lex.specs.declared.directive.Directive.{Directive}
use Rattle.vh_lex.specs.declared.directive.Directive.TheVariants as directive
use Rattle.vh_lex.specs.declared.piece.Part.{Part}
use Rattle.vh_lex.specs.declared.piece.Part.TheVariants as part
use Rattle.vh_lex.specs.declared.piece.Piece.{Piece}
use Rattle.vh_lex.specs.declared.piece.Piece.TheVariants.{Blank, Kept, Fault}
use Rattle.vh_lex.specs.Bytes.{begins, begins_with, is_line_end, is_name_byte, is_graphic}
use Rattle.vh_lex.specs.Beginning.{Named, beginning, comment_len, use_by, simple_name, escaped_name, name_of, word_name, is_long}
use Rattle.vh_lex.specs.Gathered.{MacroRows as Rows, Gathered, macro_of, with_macro}
use Rattle.vh_lex.specs.MacroTexts.{parts_of, macro_text, macro_len}
use Rattle.vh_lex.specs.Conditionals.{is_skipped, skips}
use Rattle.vh_lex.specs.State.{State, first_setting, moved}
use Rattle.vh_lex.specs.Directives.{Step, Naming, Found, directive_of, directive_behind, gap_len, name_behind, named_then, define_by, condition, opening, next_branch, opened as opened_in, branching, elsif_in, else_in, endif_by, time_behind, slash_behind, scaled, timescale_by, net_of, net_word, default_net_by, directed, refused}
use Rattle.vh_lex.specs.Spelling.{Making, and_then, with_token as token_more, used_by, parts_made, expanded, made_in, around_of, name_read, part_read, piece_read, read, step_then, read_after, comment_skipped, use_skipped, name_skipped, skipped, step}
use Rattle.vh_lex.specs.declared.fault.LexFault.{LexFault}
use Rattle.vh_lex.specs.declared.fault.LexFault.TheVariants.{Refused, NoMemory}
use Rattle.vh_lex.specs.Lexed.{File, Lexed, reading, refused as refused_at, exhausted, nothing_read, Refuses, files_after, closed_by, end_of, IfReading, files_read}
use Rattle.vh_lex.specs.MacroTokens.{Macros, with_text, token_of}
use Rattle.vh_lex.specs.SourceText.{At, place_of, past, at_start, IsWord, Names, Goes, blank, token, macro, define, undef, sets, file, Passes, comment, byte, quote, word, skipped_file, If, ifdef, ifndef, Elsif, elsif, Else, else_, Endif, endif, is_conditional, before, Reads, read_end, read_piece, read_chosen, read_sought, Skips, skip_end, skip_piece, skip_conditional, Others, other_elsif, other_else, other_endif, Seeks, seek_chosen, seek_elsif, seek_else, seek_endif, HasText}
use Rattle.vh_lex.specs.Reached.{ReadsTo, read_here, in_chosen, in_sought, in_others, in_seeks, SkipsTo, skip_here, skip_in, skip_others, OthersTo, other_in, other_past, other_in_else, SeeksTo, seek_in, seek_others, seek_skipped, seek_past, seek_in_else, IsStuck, IsLeftOpen}
use Rattle.vh_lex.specs.Laws.{TokensOrRefused}
use Rattle.vh_lex.specs.TextLaws.{SpelledHasText, FaultStops}
use Rattle.vh_lex.proofs.LawsLemmas.{IsKnown, known-files}
use Rattle.vh_lex.proofs.ConditionalsLemmas.{innermost-last, without-last, with-last, skips-last}
use Rattle.vh_lex.proofs.MacroLemmas.{Knows, knows-none, knows-with}
use Rattle.vh_lex.proofs.BeginningLemmas.{IsFine, fine-beginning}
use Rattle.vh_lex.proofs.MacroTokensLemmas.{made-gives}
use Rattle.vh_lex.proofs.GoesLemmas.{names-long, goes-leads}
use Rattle.vh_lex.proofs.PlacesLemmas.{moved-place}
use Rattle.vh_lex.proofs.CondLemmas.{begun, turned, elsed, defined-same, passes-leads, if-leads}
use Rattle.vh_lex.proofs.StepLemmas.{state_of, lexed_in, outcome, IsMore, again, run-step, file-leads, eq-literal, kept-more, comment-more, left-in, config-of, next-step, next-of, next, Reach, here, further, reach-join, reach-end, reach-less, run-next}
use Rattle.vh_lex.proofs.ReachedLemmas.{reads-to}

-- The conditionals that are open, the innermost first: what is left of each.
abbrev TextFor : Branch → At → At → Type 0
TextFor branch.Sought a b = Skips a b
TextFor branch.Read a b = Reads a b
TextFor branch.Past a b = Skips a b

abbrev RestFor : Bool → Branch → At → At → Type 0
RestFor true br a b = Endif a b
RestFor false branch.Sought a b = Seeks a b
RestFor false branch.Read a b = Others a b
RestFor false branch.Past a b = Others a b

abbrev Chain : List Conditional → At → At → Type 0
Chain [] a e = Reads a e
Chain (c ∷ below) a e = (b : At) × ((d : At) × (TextFor c.branch a b × (RestFor c.has_else c.branch b d × Chain below d e)))

abbrev stacked : List Conditional → List Conditional
stacked [] = []
stacked (c ∷ below) = stacked below ++ c ∷ []

-- Text in front of what is left of the innermost
on-read : (a b e : At) (st : List Conditional) → skips (stacked st) ≡ false → ((z : At) → Reads b z → Reads a z) → Chain st b e → Chain st a e
on-read a b e [] f go t = go e t
on-read a b e (c ∷ below) f go t = by c.branch (sym (skips-last (stacked below) c) ∙ f) t
  where
    by : (br : Branch) → is_skipped br ≡ false → (x : At) × ((d : At) × (TextFor br b x × (RestFor c.has_else br x d × Chain below d e)))
        → (x : At) × ((d : At) × (TextFor br a x × (RestFor c.has_else br x d × Chain below d e)))
    by branch.Read g u = (u.0, (u.1.0, (go u.0 u.1.1.0, u.1.1.1)))
    by branch.Sought g u = cc
    by branch.Past g u = cc

on-skips : (a b e : At) (st : List Conditional) → skips (stacked st) ≡ true → ((z : At) → Skips b z → Skips a z) → Chain st b e → Chain st a e
on-skips a b e [] f go t = cc
on-skips a b e (c ∷ below) f go t = by c.branch (sym (skips-last (stacked below) c) ∙ f) t
  where
    by : (br : Branch) → is_skipped br ≡ true → (x : At) × ((d : At) × (TextFor br b x × (RestFor c.has_else br x d × Chain below d e)))
        → (x : At) × ((d : At) × (TextFor br a x × (RestFor c.has_else br x d × Chain below d e)))
    by branch.Read g u = cc
    by branch.Sought g u = (u.0, (u.1.0, (go u.0 u.1.1.0, u.1.1.1)))
    by branch.Past g u = (u.0, (u.1.0, (go u.0 u.1.1.0, u.1.1.1)))

-- A conditional opens
on-if : (holds : Bool) (a b e : At) (st : List Conditional) → If holds a b → (t : Bool) → skips (stacked st) ≡ t → Chain (begun a (opening t holds) ∷ st) b e → Chain st a e
on-if true a b e st i false f u = on-read a u.1.0 e st f (λ z r. read_chosen i u.1.1.0 u.1.1.1.0 r) u.1.1.1.1
on-if false a b e st i false f u = on-read a u.1.0 e st f (λ z r. read_sought i u.1.1.0 u.1.1.1.0 r) u.1.1.1.1
on-if holds a b e st i true f u = on-skips a u.1.0 e st f (λ z r. skip_conditional i u.1.1.0 u.1.1.1.0 r) u.1.1.1.1

-- Another branch of it
rest-elsif : (a b x y : At) (br : Branch) (holds : Bool) → Elsif holds a b → TextFor (next_branch br holds) b x → RestFor false (next_branch br holds) x y → RestFor false br a y
rest-elsif a b x y branch.Sought true i t r = seek_chosen i t r
rest-elsif a b x y branch.Sought false i t r = seek_elsif i t r
rest-elsif a b x y branch.Read holds i t r = other_elsif i t r
rest-elsif a b x y branch.Past holds i t r = other_elsif i t r

rest-else : (a b x y : At) (br : Branch) → Else a b → TextFor (next_branch br true) b x → Endif x y → RestFor false br a y
rest-else a b x y branch.Sought i t r = seek_else i t r
rest-else a b x y branch.Read i t r = other_else i t r
rest-else a b x y branch.Past i t r = other_else i t r

rest-endif : (a b : At) (has_else : Bool) (br : Branch) → Endif a b → RestFor has_else br a b
rest-endif a b true br i = i
rest-endif a b false branch.Sought i = seek_endif i
rest-endif a b false branch.Read i = other_endif i
rest-endif a b false branch.Past i = other_endif i

text-ends : (a : At) (br : Branch) → TextFor br a a
text-ends a branch.Sought = skip_end
text-ends a branch.Read = read_end
text-ends a branch.Past = skip_end

on-rest : (a d e : At) (c : Conditional) (below : List Conditional) → RestFor c.has_else c.branch a d → Chain below d e → Chain (c ∷ below) a e
on-rest a d e c below r t = (a, (d, (text-ends a c.branch, (r, t))))

on-elsif : (holds : Bool) (a b e : At) (c : Conditional) (below : List Conditional) → Elsif holds a b → c.has_else ≡ false → Chain (turned holds c ∷ below) b e → Chain (c ∷ below) a e
on-elsif holds a b e c below i h u =
    let rest : RestFor false (next_branch c.branch holds) u.0 u.1.0 = subst (λ t. RestFor t (next_branch c.branch holds) u.0 u.1.0) h u.1.1.1.0 in
    on-rest a u.1.0 e c below (subst (λ t. RestFor t c.branch a u.1.0) (sym h) (rest-elsif a b u.0 u.1.0 c.branch holds i u.1.1.0 rest)) u.1.1.1.1

on-else : (a b e : At) (c : Conditional) (below : List Conditional) → Else a b → c.has_else ≡ false → Chain (elsed c ∷ below) b e → Chain (c ∷ below) a e
on-else a b e c below i h u =
    on-rest a u.1.0 e c below (subst (λ t. RestFor t c.branch a u.1.0) (sym h) (rest-else a b u.0 u.1.0 c.branch i u.1.1.0 u.1.1.1.0)) u.1.1.1.1

on-endif : (a b e : At) (c : Conditional) (below : List Conditional) → Endif a b → Chain below b e → Chain (c ∷ below) a e
on-endif a b e c below i t = on-rest a b e c below (rest-endif a b c.has_else c.branch i) t

-- The same up to some byte, which is skipped or not.
abbrev TextTo : Bool → Branch → At → At → Type 0
TextTo t branch.Read a e = ReadsTo t a e
TextTo t branch.Sought a e = (t ≡ true) × SkipsTo a e
TextTo t branch.Past a e = (t ≡ true) × SkipsTo a e

abbrev RestTo : Bool → Bool → Branch → At → At → Type 0
RestTo t true br a e = ⊥
RestTo t false branch.Sought a e = SeeksTo t a e
RestTo t false branch.Read a e = (t ≡ true) × OthersTo a e
RestTo t false branch.Past a e = (t ≡ true) × OthersTo a e

abbrev ChainTo : Bool → List Conditional → At → At → Type 0
ChainTo t [] a e = ReadsTo t a e
ChainTo t (c ∷ below) a e =
    TextTo t c.branch a e
    ⊎ (((b : At) × (TextFor c.branch a b × RestTo t c.has_else c.branch b e))
    ⊎ ((b : At) × ((d : At) × (TextFor c.branch a b × (RestFor c.has_else c.branch b d × ChainTo t below d e)))))

reads-true : (t : Bool) (a e : At) → t ≡ true → ReadsTo true a e → ReadsTo t a e
reads-true t a e h x = subst (λ u. ReadsTo u a e) (sym h) x

seeks-true : (t : Bool) (a e : At) → t ≡ true → SeeksTo true a e → SeeksTo t a e
seeks-true t a e h x = subst (λ u. SeeksTo u a e) (sym h) x

reads-beginning : {t : Bool} {b e : At} → ReadsTo t b e → (a : At) → ((z : At) → Reads b z → Reads a z) → ReadsTo t a e
reads-beginning (read_here r) a go = read_here (go _ r)
reads-beginning (in_chosen r i x) a go = in_chosen (go _ r) i x
reads-beginning (in_sought r i x) a go = in_sought (go _ r) i x
reads-beginning (in_others r i x y) a go = in_others (go _ r) i x y
reads-beginning (in_seeks r i x y) a go = in_seeks (go _ r) i x y

skips-beginning : {b e : At} → SkipsTo b e → (a : At) → ((z : At) → Skips b z → Skips a z) → SkipsTo a e
skips-beginning (skip_here r) a go = skip_here (go _ r)
skips-beginning (skip_in r i x) a go = skip_in (go _ r) i x
skips-beginning (skip_others r i x y) a go = skip_others (go _ r) i x y

reads-into : (t : Bool) (a e : At) (st : List Conditional) → skips (stacked st) ≡ false → ReadsTo t a e → ChainTo t st a e
reads-into t a e [] f x = x
reads-into t a e (c ∷ below) f x = by c.branch (sym (skips-last (stacked below) c) ∙ f)
  where
    by : (br : Branch) → is_skipped br ≡ false
        → TextTo t br a e ⊎ (((b : At) × (TextFor br a b × RestTo t c.has_else br b e)) ⊎ ((b : At) × ((d : At) × (TextFor br a b × (RestFor c.has_else br b d × ChainTo t below d e)))))
    by branch.Read g = inl x
    by branch.Sought g = cc
    by branch.Past g = cc

skips-into : (t : Bool) (a e : At) (st : List Conditional) → skips (stacked st) ≡ true → t ≡ true → SkipsTo a e → ChainTo t st a e
skips-into t a e [] f h x = cc
skips-into t a e (c ∷ below) f h x = by c.branch (sym (skips-last (stacked below) c) ∙ f)
  where
    by : (br : Branch) → is_skipped br ≡ true
        → TextTo t br a e ⊎ (((b : At) × (TextFor br a b × RestTo t c.has_else br b e)) ⊎ ((b : At) × ((d : At) × (TextFor br a b × (RestFor c.has_else br b d × ChainTo t below d e)))))
    by branch.Read g = cc
    by branch.Sought g = inl (h, x)
    by branch.Past g = inl (h, x)

on-read-to : (t : Bool) (a b e : At) (st : List Conditional) → skips (stacked st) ≡ false → ((z : At) → Reads b z → Reads a z) → ChainTo t st b e → ChainTo t st a e
on-read-to t a b e [] f go x = reads-beginning x a go
on-read-to t a b e (c ∷ below) f go x = by c.branch (sym (skips-last (stacked below) c) ∙ f) x
  where
    by : (br : Branch) → is_skipped br ≡ false
        → TextTo t br b e ⊎ (((y : At) × (TextFor br b y × RestTo t c.has_else br y e)) ⊎ ((y : At) × ((d : At) × (TextFor br b y × (RestFor c.has_else br y d × ChainTo t below d e)))))
        → TextTo t br a e ⊎ (((y : At) × (TextFor br a y × RestTo t c.has_else br y e)) ⊎ ((y : At) × ((d : At) × (TextFor br a y × (RestFor c.has_else br y d × ChainTo t below d e)))))
    by branch.Read g (inl u) = inl (reads-beginning u a go)
    by branch.Read g (inr (inl u)) = inr (inl (u.0, (go u.0 u.1.0, u.1.1)))
    by branch.Read g (inr (inr u)) = inr (inr (u.0, (u.1.0, (go u.0 u.1.1.0, u.1.1.1))))
    by branch.Sought g u = cc
    by branch.Past g u = cc

on-skips-to : (t : Bool) (a b e : At) (st : List Conditional) → skips (stacked st) ≡ true → ((z : At) → Skips b z → Skips a z) → ChainTo t st b e → ChainTo t st a e
on-skips-to t a b e [] f go x = cc
on-skips-to t a b e (c ∷ below) f go x = by c.branch (sym (skips-last (stacked below) c) ∙ f) x
  where
    by : (br : Branch) → is_skipped br ≡ true
        → TextTo t br b e ⊎ (((y : At) × (TextFor br b y × RestTo t c.has_else br y e)) ⊎ ((y : At) × ((d : At) × (TextFor br b y × (RestFor c.has_else br y d × ChainTo t below d e)))))
        → TextTo t br a e ⊎ (((y : At) × (TextFor br a y × RestTo t c.has_else br y e)) ⊎ ((y : At) × ((d : At) × (TextFor br a y × (RestFor c.has_else br y d × ChainTo t below d e)))))
    by branch.Read g u = cc
    by branch.Sought g (inl u) = inl (u.0, skips-beginning u.1 a go)
    by branch.Sought g (inr (inl u)) = inr (inl (u.0, (go u.0 u.1.0, u.1.1)))
    by branch.Sought g (inr (inr u)) = inr (inr (u.0, (u.1.0, (go u.0 u.1.1.0, u.1.1.1))))
    by branch.Past g (inl u) = inl (u.0, skips-beginning u.1 a go)
    by branch.Past g (inr (inl u)) = inr (inl (u.0, (go u.0 u.1.0, u.1.1)))
    by branch.Past g (inr (inr u)) = inr (inr (u.0, (u.1.0, (go u.0 u.1.1.0, u.1.1.1))))

on-if-to : (t holds : Bool) (a b e : At) (st : List Conditional) → If holds a b → (u : Bool) → skips (stacked st) ≡ u → ChainTo t (begun a (opening u holds) ∷ st) b e → ChainTo t st a e
on-if-to t true a b e st i false f (inl x) = reads-into t a e st f (in_chosen read_end i x)
on-if-to t true a b e st i false f (inr (inl x)) = reads-into t a e st f (reads-true t a e x.1.1.0 (in_others read_end i x.1.0 x.1.1.1))
on-if-to t true a b e st i false f (inr (inr x)) = on-read-to t a x.1.0 e st f (λ z r. read_chosen i x.1.1.0 x.1.1.1.0 r) x.1.1.1.1
on-if-to t false a b e st i false f (inl x) = reads-into t a e st f (reads-true t a e x.0 (in_sought read_end i x.1))
on-if-to t false a b e st i false f (inr (inl x)) = reads-into t a e st f (in_seeks read_end i x.1.0 x.1.1)
on-if-to t false a b e st i false f (inr (inr x)) = on-read-to t a x.1.0 e st f (λ z r. read_sought i x.1.1.0 x.1.1.1.0 r) x.1.1.1.1
on-if-to t holds a b e st i true f (inl x) = skips-into t a e st f x.0 (skip_in skip_end i x.1)
on-if-to t holds a b e st i true f (inr (inl x)) = skips-into t a e st f x.1.1.0 (skip_others skip_end i x.1.0 x.1.1.1)
on-if-to t holds a b e st i true f (inr (inr x)) = on-skips-to t a x.1.0 e st f (λ z r. skip_conditional i x.1.1.0 x.1.1.1.0 r) x.1.1.1.1

elsif-in : (t : Bool) (a b e : At) (br : Branch) (holds : Bool) → Elsif holds a b → TextTo t (next_branch br holds) b e → RestTo t false br a e
elsif-in t a b e branch.Sought true i x = seek_in i x
elsif-in t a b e branch.Sought false i x = seeks-true t a e x.0 (seek_skipped i x.1)
elsif-in t a b e branch.Read holds i x = (x.0, other_in i x.1)
elsif-in t a b e branch.Past holds i x = (x.0, other_in i x.1)

elsif-past : (t : Bool) (a b y e : At) (br : Branch) (holds : Bool) → Elsif holds a b → TextFor (next_branch br holds) b y → RestTo t false (next_branch br holds) y e → RestTo t false br a e
elsif-past t a b y e branch.Sought true i r x = seeks-true t a e x.0 (seek_others i r x.1)
elsif-past t a b y e branch.Sought false i r x = seek_past i r x
elsif-past t a b y e branch.Read holds i r x = (x.0, other_past i r x.1)
elsif-past t a b y e branch.Past holds i r x = (x.0, other_past i r x.1)

else-in : (t : Bool) (a b e : At) (br : Branch) → Else a b → TextTo t (next_branch br true) b e → RestTo t false br a e
else-in t a b e branch.Sought i x = seek_in_else i x
else-in t a b e branch.Read i x = (x.0, other_in_else i x.1)
else-in t a b e branch.Past i x = (x.0, other_in_else i x.1)

on-elsif-to : (t holds : Bool) (a b e : At) (c : Conditional) (below : List Conditional) → Elsif holds a b → c.has_else ≡ false → ChainTo t (turned holds c ∷ below) b e → ChainTo t (c ∷ below) a e
on-elsif-to t holds a b e c below i h (inl x) =
    inr (inl (a, (text-ends a c.branch, subst (λ u. RestTo t u c.branch a e) (sym h) (elsif-in t a b e c.branch holds i x))))
on-elsif-to t holds a b e c below i h (inr (inl x)) =
    let rest : RestTo t false (next_branch c.branch holds) x.0 e = subst (λ u. RestTo t u (next_branch c.branch holds) x.0 e) h x.1.1 in
    inr (inl (a, (text-ends a c.branch, subst (λ u. RestTo t u c.branch a e) (sym h) (elsif-past t a b x.0 e c.branch holds i x.1.0 rest))))
on-elsif-to t holds a b e c below i h (inr (inr x)) =
    let rest : RestFor false (next_branch c.branch holds) x.0 x.1.0 = subst (λ u. RestFor u (next_branch c.branch holds) x.0 x.1.0) h x.1.1.1.0 in
    inr (inr (a, (x.1.0, (text-ends a c.branch, (subst (λ u. RestFor u c.branch a x.1.0) (sym h) (rest-elsif a b x.0 x.1.0 c.branch holds i x.1.1.0 rest), x.1.1.1.1)))))

on-else-to : (t : Bool) (a b e : At) (c : Conditional) (below : List Conditional) → Else a b → c.has_else ≡ false → ChainTo t (elsed c ∷ below) b e → ChainTo t (c ∷ below) a e
on-else-to t a b e c below i h (inl x) = inr (inl (a, (text-ends a c.branch, subst (λ u. RestTo t u c.branch a e) (sym h) (else-in t a b e c.branch i x))))
on-else-to t a b e c below i h (inr (inl x)) = absurd x.1.1
on-else-to t a b e c below i h (inr (inr x)) =
    inr (inr (a, (x.1.0, (text-ends a c.branch, (subst (λ u. RestFor u c.branch a x.1.0) (sym h) (rest-else a b x.0 x.1.0 c.branch i x.1.1.0 x.1.1.1.0), x.1.1.1.1)))))

on-endif-to : (t : Bool) (a b e : At) (c : Conditional) (below : List Conditional) → Endif a b → ChainTo t below b e → ChainTo t (c ∷ below) a e
on-endif-to t a b e c below i x = inr (inr (a, (b, (text-ends a c.branch, (rest-endif a b c.has_else c.branch i, x)))))

-- Where it stands
stands : (st : List Conditional) (a : At) → ChainTo (skips (stacked st)) st a a
stands [] a = read_here read_end
stands (c ∷ below) a = subst (λ t. ChainTo t (c ∷ below) a a) (sym (skips-last (stacked below) c)) (by c.branch)
  where
    by : (br : Branch) → TextTo (is_skipped br) br a a
        ⊎ (((b : At) × (TextFor br a b × RestTo (is_skipped br) c.has_else br b a)) ⊎ ((b : At) × ((d : At) × (TextFor br a b × (RestFor c.has_else br b d × ChainTo (is_skipped br) below d a)))))
    by branch.Read = inl (read_here read_end)
    by branch.Sought = inl (refl, skip_here skip_end)
    by branch.Past = inl (refl, skip_here skip_end)

-- The limits of all files
abbrev Fits : At → Type 0
Fits a = (length a.tokens ≤ 4194304) × (a.uses ≤ 1048576)

-- A step of the function is a piece in front of what is left.
record Turn (a : At) (st : List Conditional) (s2 : State) (len : ℕ) : Type 0 where
  macros : Macros
  setting : Setting
  tokens : List Token
  uses : ℕ
  rows : Rows
  open_now : List Conditional
  knows : Knows macros rows
  state_is : s2 ≡ state_of (again macros setting tokens uses a) rows (stacked open_now)
  long : 1 ≤ len
  fits : Fits (again macros setting tokens uses a)
  back : (e : At) → Chain open_now (past len (again macros setting tokens uses a)) e → Chain st a e
  back_to : (t : Bool) (e : At) → ChainTo t open_now (past len (again macros setting tokens uses a)) e → ChainTo t st a e

abbrev Turns : At → List Conditional → Step → Type 0
Turns a st (Ok went) = Turn a st went.0 went.1
Turns a st (Err wrong) = Unit {0}

if-turns : (a : At) (st : List Conditional) (t : Bool) (p q : Step) → (t ≡ true → Turns a st p) → (t ≡ false → Turns a st q) → Turns a st (if t then p else q)
if-turns a st true p q h k = h refl
if-turns a st false p q h k = k refl

named-turns : (a : At) (st : List Conditional) (naming : Naming) (go : ℕ → Named → Step) → ((from : ℕ) (n : Named) → naming ≡ Ok (from, n) → Turns a st (go from n))
    → Turns a st (named_then naming go)
named-turns a st (Ok found) go h = h found.0 found.1 refl
named-turns a st (Err wrong) go h = tt

piece-len : Piece → ℕ
piece-len (Blank len) = len
piece-len (Kept p len) = len
piece-len (Fault fault at) = at

piece-name : Piece → List ℕ
piece-name (Kept (part.Use name) len) = name
piece-name _ = []

blank-long : (bytes : List ℕ) (len : ℕ) → IsMore bytes → beginning bytes ≡ Blank len → 1 ≤ len
blank-long [] len i e = let h = i.bytes_are in cc
blank-long (b ∷ bs) len i e = subst (IsFine b) e (fine-beginning b bs)

-- A directive's word in text that is read
word-of : (a : At) (d : Directive) (name : List ℕ) (len : ℕ) → beginning a.bytes ≡ Kept (part.Use name) len → directive_behind (drop 1 a.bytes) name ≡ Some d → IsWord d a len
unfolding piece-len piece-name
word-of a d name len e g = by a.bytes refl e g
  where
    by : (bytes : List ℕ) → a.bytes ≡ bytes → beginning bytes ≡ Kept (part.Use name) len → directive_behind (drop 1 bytes) name ≡ Some d → IsWord d a len
    by [] x f h = cc
    by (b ∷ bs) x f h =
        let q : nat_eq b 96 ≡ true = (subst (IsFine b) f (fine-beginning b bs)).1 in
        named (begins is_name_start bs) refl (ap (λ y. beginning (y ∷ bs)) (sym (eq-literal b 96 q)) ∙ f) h q
      where
        named : (t : Bool) → begins is_name_start bs ≡ t → use_by (name_of bs) ≡ Kept (part.Use name) len → directive_behind bs name ≡ Some d → nat_eq b 96 ≡ true → IsWord d a len
        named true y k h q =
            let same : Kept (part.Use (simple_name bs).name) ((simple_name bs).len + 1) ≡ Kept (part.Use name) len =
            sym (ap (λ t. use_by (if t then Some (simple_name bs) else (if begins (λ c. nat_eq c 92) bs then escaped_name (prefix_len is_graphic (drop 1 bs)) (drop 1 bs) else None))) y) ∙ k in
            record {
              name = simple_name bs;
              quote = ap (begins (λ c. nat_eq c 96)) x ∙ q;
              word = ap (λ bytes. word_name (drop 1 bytes)) x ∙ ap (λ t. if t then Some (simple_name bs) else None) y;
              directive = ap directive_of (ap piece-name same) ∙ sym (ap (λ t. if t then directive_of name else None) y) ∙ h;
              long = sym (ap piece-len same);
            }
        named false y k h q = let none = sym (ap (λ t. if t then directive_of name else None) y) ∙ h in cc

module _ (a : At) (rows : Rows) (knows : Knows a.macros rows) (fit : Fits a) where
  abbrev s : List Conditional → State
  s st = state_of a rows (stacked st)

  -- a piece of text that is read
  reads-turn : (st : List Conditional) (macros : Macros) (setting : Setting) (tokens : List Token) (uses : ℕ) (now : Rows) (len : ℕ) → Knows macros now → 1 ≤ len
      → Fits (again macros setting tokens uses a) → skips (stacked st) ≡ false → Goes a (past len (again macros setting tokens uses a))
      → Turn a st (state_of (again macros setting tokens uses a) now (stacked st)) len
  reads-turn st macros setting tokens uses now len k h fits f g =
      record {
        macros = macros;
        setting = setting;
        tokens = tokens;
        uses = uses;
        rows = now;
        open_now = st;
        knows = k;
        state_is = refl;
        long = h;
        fits = fits;
        back = λ e t. on-read a (past len (again macros setting tokens uses a)) e st f (λ z r. read_piece g r) t;
        back_to = λ t e x. on-read-to t a (past len (again macros setting tokens uses a)) e st f (λ z r. read_piece g r) x;
      }

  skips-turn : (st : List Conditional) (len : ℕ) → 1 ≤ len → skips (stacked st) ≡ true → Passes a (past len a) → Turn a st (s st) len
  skips-turn st len h f g =
      record {
        macros = a.macros;
        setting = a.setting;
        tokens = a.tokens;
        uses = a.uses;
        rows = rows;
        open_now = st;
        knows = knows;
        state_is = refl;
        long = h;
        fits = fit;
        back = λ e t. on-skips a (past len a) e st f (λ z r. skip_piece g r) t;
        back_to = λ t e x. on-skips-to t a (past len a) e st f (λ z r. skip_piece g r) x;
      }

  abbrev one : Kind → List Token
  one k = record { kind = k; place = place_of a } ∷ []

  token-turns : (st : List Conditional) (p : Part) (k : Kind) (len : ℕ) → skips (stacked st) ≡ false → beginning a.bytes ≡ Kept p len → 1 ≤ len → token_of a.setting p ≡ Some k
      → Turns a st (made_in (s st) len (token_more k (place_of a) (s st).made))
  token-turns st p k len f e h t = by (nat_lt (length a.tokens) 4194304) refl
    where
      by : (u : Bool) → nat_lt (length a.tokens) 4194304 ≡ u → Turns a st (made_in (s st) len (if u then Ok (record (s st).made { tokens = a.tokens ++ one k }) else Err L6))
      by true g =
          let small : length a.tokens + 1 ≤ 4194304 = grind (arith, nat_tests) in
          let size = length-append a.tokens (one k) in
          reads-turn st a.macros a.setting (a.tokens ++ one k) a.uses rows len knows h (omega arith, fit.1) f (token p k len e t small)
      by false g = tt

  macro-turns : (st : List Conditional) (name : List ℕ) (len : ℕ) → skips (stacked st) ≡ false → beginning a.bytes ≡ Kept (part.Use name) len → 1 ≤ len
      → directive_behind (drop 1 a.bytes) name ≡ None → Turns a st (made_in (s st) len (used_by (expanded 64 (around_of (s st))) (macro_of name rows) (s st).made))
  unfolding expanded
  macro-turns st name len f e h d =
      subst (λ o. Turns a st (made_in (s st) len (used_by (expanded 64 (around_of (s st))) o (s st).made))) (sym (knows name)) (by (a.macros name) refl)
    where
      more-uses : Gathered
      more-uses = record { tokens = a.tokens; uses = a.uses + 1 }

      inside : (text : List ℕ) → a.macros name ≡ Some text → a.uses + 1 ≤ 1048576 → (o : Making)
          → parts_made (expanded 63 (around_of (s st))) (around_of (s st)) (parts_of text) (record { tokens = a.tokens; uses = a.uses + 1 }) ≡ o → Turns a st (made_in (s st) len o)
      inside text x small (Err fault) g = tt
      inside text x small (Ok n) g =
          let w = made-gives a.macros rows a.setting (place_of a) knows 63 text (record { tokens = a.tokens; uses = a.uses + 1 }) n g in
          let tokens_fit : length (a.tokens ++ w.tokens) ≤ 4194304 = subst (λ (m : Gathered). length m.tokens ≤ 4194304) w.made_is (w.tokens_fit fit.0) in
          let uses_fit : a.uses + 1 + w.uses ≤ 1048576 = subst (λ (m : Gathered). m.uses ≤ 1048576) w.made_is (w.uses_fit small) in
          subst (λ (m : Gathered). Turn a st (record (s st) { made = m }) len) (sym w.made_is)
          (reads-turn st a.macros a.setting (a.tokens ++ w.tokens) (a.uses + 1 + w.uses) rows len knows h (tokens_fit, uses_fit) f
          (macro name text len w.uses w.tokens e d x w.gives tokens_fit uses_fit))

      counted : (text : List ℕ) → a.macros name ≡ Some text → (u : Bool) → nat_lt a.uses 1048576 ≡ u
          → Turns a st (made_in (s st) len (and_then (if u then Ok (record { tokens = a.tokens; uses = a.uses + 1 }) else Err L6) (parts_made (expanded 63 (around_of (s st))) (around_of (s st)) (parts_of text))))
      counted text x true g =
          inside text x (grind (arith, nat_tests)) (parts_made (expanded 63 (around_of (s st))) (around_of (s st)) (parts_of text) (record { tokens = a.tokens; uses = a.uses + 1 })) refl
      counted text x false g = tt

      by : (x : Option (List ℕ)) → a.macros name ≡ x → Turns a st (made_in (s st) len (used_by (expanded 64 (around_of (s st))) (option_map parts_of x) (s st).made))
      by None x = tt
      by (Some text) x = counted text x (nat_lt a.uses 1048576) refl

  -- the directives of text that is read
  define-turns : (st : List Conditional) (at : ℕ) → IsWord directive.Define a at → skips (stacked st) ≡ false → Turns a st (directed directive.Define at (drop at a.bytes) (s st))
  define-turns st at w f =
      if-turns a st (list_any is_line_end (take (gap_len (drop at a.bytes)) (drop at a.bytes))) (refused L2) _ (λ _. tt)
      (λ on_line. by on_line (name_of (drop (gap_len (drop at a.bytes)) (drop at a.bytes))) refl)
    where
      by : list_any is_line_end (take (gap_len (drop at a.bytes)) (drop at a.bytes)) ≡ false → (o : Option Named) → name_of (drop (gap_len (drop at a.bytes)) (drop at a.bytes)) ≡ o
          → Turns a st (define_by o (at + gap_len (drop at a.bytes)) (drop (gap_len (drop at a.bytes)) (drop at a.bytes)) (s st))
      by on_line None e = tt
      by on_line (Some n) e =
          let rest = drop n.len (drop (gap_len (drop at a.bytes)) (drop at a.bytes)) in
          let len = at + gap_len (drop at a.bytes) + n.len + macro_len rest in
          if-turns a st (is_some (directive_of n.name)) (refused L2) _ (λ _. tt)
          (λ is_free. if-turns a st (begins (λ b. nat_eq b 40) rest) (refused L3) _ (λ _. tt)
          (λ is_plain. if-turns a st (is_long n.name) (Err (L6, at + gap_len (drop at a.bytes))) _ (λ _. tt)
          (λ is_short. reads-turn st (with_text n.name (Some (macro_text rest)) a.macros) a.setting a.tokens a.uses (with_macro n.name (Some (parts_of (macro_text rest))) rows) len
          (knows-with n.name (Some (macro_text rest)) a.macros rows knows) (let l = w.long in omega arith) fit f
          (define n.name (macro_text rest) len
          (record {
            at = at;
            word = w;
            named = n;
            on_line = on_line;
            found = e;
            is_free = is_free;
            is_plain = is_plain;
            is_short = is_short;
            name_is = refl;
            text_is = refl;
            long = refl;
          })))))

  names-of : (d : Directive) (at from : ℕ) (n : Named) → IsWord d a at → name_behind at (drop at a.bytes) ≡ Ok (from, n) → Names d a n.name (from + n.len)
  names-of d at from n w e = record { at = at; from = from; word = w; named = n; found = e; name_is = refl; long = refl }

  undef-turns : (st : List Conditional) (at : ℕ) → IsWord directive.Undef a at → skips (stacked st) ≡ false → Turns a st (directed directive.Undef at (drop at a.bytes) (s st))
  undef-turns st at w f =
      named-turns a st (name_behind at (drop at a.bytes)) _
      (λ from n e. let names = names-of directive.Undef at from n w e in
      reads-turn st (with_text n.name None a.macros) a.setting a.tokens a.uses (with_macro n.name None rows) (from + n.len) (knows-with n.name None a.macros rows knows)
      (names-long directive.Undef a n.name (from + n.len) names) fit f (undef n.name (from + n.len) names))

  scale-turns : (st : List Conditional) (at : ℕ) → IsWord directive.Timescale a at → skips (stacked st) ≡ false → Turns a st (directed directive.Timescale at (drop at a.bytes) (s st))
  scale-turns st at w f = by (time_behind (drop at a.bytes)) refl
    where
      second : (unit : Found) → time_behind (drop at a.bytes) ≡ Some unit → (o : Option Found) → slash_behind (drop unit.len (drop at a.bytes)) ≡ o → Turns a st (scaled at unit o (s st))
      second unit e None g = tt
      second unit e (Some precision) g =
          if-turns a st (nat_le precision.value unit.value) _ (refused L2)
          (λ fine. reads-turn st a.macros (record a.setting { unit = unit.value; precision = precision.value }) a.tokens a.uses rows (at + unit.len + precision.len) knows
          (let l = w.long in omega arith) fit f
          (sets directive.Timescale at (at + unit.len + precision.len) (record a.setting { unit = unit.value; precision = precision.value }) w
          (record { unit = unit; precision = precision; first = e; second = g; is_fine = grind (arith, nat_tests); set = refl; long = refl })))
          (λ _. tt)

      by : (o : Option Found) → time_behind (drop at a.bytes) ≡ o → Turns a st (timescale_by at o (drop at a.bytes) (s st))
      by None e = tt
      by (Some unit) e = second unit e (slash_behind (drop unit.len (drop at a.bytes))) refl

  net-turns : (st : List Conditional) (at : ℕ) → IsWord directive.DefaultNettype a at → skips (stacked st) ≡ false → Turns a st (directed directive.DefaultNettype at (drop at a.bytes) (s st))
  net-turns st at w f = by (net_of (net_word (drop (gap_len (drop at a.bytes)) (drop at a.bytes)))) refl
    where
      size : ℕ
      size = at + gap_len (drop at a.bytes) + prefix_len is_name_byte (drop (gap_len (drop at a.bytes)) (drop at a.bytes))

      by : (o : Option DefaultNet) → net_of (net_word (drop (gap_len (drop at a.bytes)) (drop at a.bytes))) ≡ o
          → Turns a st (default_net_by o (at + gap_len (drop at a.bytes) + prefix_len is_name_byte (drop (gap_len (drop at a.bytes)) (drop at a.bytes))) (s st))
      by None e = tt
      by (Some net) e =
          let len = at + gap_len (drop at a.bytes) + prefix_len is_name_byte (drop (gap_len (drop at a.bytes)) (drop at a.bytes)) in
          reads-turn st a.macros (record a.setting { default_net = net }) a.tokens a.uses rows len knows (let l = w.long in omega arith) fit f
          (sets directive.DefaultNettype at len (record a.setting { default_net = net }) w (record { net = net; found = e; set = refl; long = refl }))

  reset-turns : (st : List Conditional) (at : ℕ) → IsWord directive.Resetall a at → skips (stacked st) ≡ false → Turns a st (directed directive.Resetall at (drop at a.bytes) (s st))
  reset-turns st at w f =
      reads-turn st a.macros first_setting a.tokens a.uses rows at knows (let l = w.long in omega arith) fit f (sets directive.Resetall at at first_setting w (refl, refl))

  -- a conditional opens
  opens-turn : (st : List Conditional) (wanted : Bool) (name : List ℕ) (len : ℕ) → 1 ≤ len → If (condition wanted (is_some (a.macros name))) a (past len a)
      → Turn a st (opened_in wanted name (s st)) len
  opens-turn st wanted name len h i =
      record {
        macros = a.macros;
        setting = a.setting;
        tokens = a.tokens;
        uses = a.uses;
        rows = rows;
        open_now = begun a (opening (skips (stacked st)) (condition wanted (is_some (a.macros name)))) ∷ st;
        knows = knows;
        state_is = ap (λ x. state_of a rows (stacked st ++ begun a (opening (skips (stacked st)) (condition wanted x)) ∷ [])) (defined-same a rows name knows);
        long = h;
        fits = fit;
        back = λ e t. on-if (condition wanted (is_some (a.macros name))) a (past len a) e st i (skips (stacked st)) refl t;
        back_to = λ t e x. on-if-to t (condition wanted (is_some (a.macros name))) a (past len a) e st i (skips (stacked st)) refl x;
      }

  if-directive : (st : List Conditional) (at : ℕ) → IsWord directive.Ifdef a at → Turns a st (directed directive.Ifdef at (drop at a.bytes) (s st))
  if-directive st at w =
      named-turns a st (name_behind at (drop at a.bytes)) _
      (λ from n e. let names = names-of directive.Ifdef at from n w e in
      opens-turn st true n.name (from + n.len) (names-long directive.Ifdef a n.name (from + n.len) names) (ifdef n.name (from + n.len) names))

  ifn-directive : (st : List Conditional) (at : ℕ) → IsWord directive.Ifndef a at → Turns a st (directed directive.Ifndef at (drop at a.bytes) (s st))
  ifn-directive st at w =
      named-turns a st (name_behind at (drop at a.bytes)) _
      (λ from n e. let names = names-of directive.Ifndef at from n w e in
      opens-turn st false n.name (from + n.len) (names-long directive.Ifndef a n.name (from + n.len) names) (ifndef n.name (from + n.len) names))

  -- the rest of one
  elsif-directive : (st : List Conditional) (at : ℕ) → IsWord directive.Elsif a at → Turns a st (directed directive.Elsif at (drop at a.bytes) (s st))
  elsif-directive [] at w = tt
  elsif-directive (c ∷ below) at w =
      subst (λ o. Turns a (c ∷ below) (branching o go)) (sym (innermost-last (stacked below) c))
      (if-turns a (c ∷ below) c.has_else (refused L2) (go c) (λ _. tt)
      (λ h. named-turns a (c ∷ below) (name_behind at (drop at a.bytes)) _
      (λ from n e. let names = names-of directive.Elsif at from n w e in
      record {
        macros = a.macros;
        setting = a.setting;
        tokens = a.tokens;
        uses = a.uses;
        rows = rows;
        open_now = turned (is_some (a.macros n.name)) c ∷ below;
        knows = knows;
        state_is =
            ap (λ x. state_of a rows x) (with-last (stacked below) c (turned (is_some (macro_of n.name rows)) c))
            ∙ ap (λ x. state_of a rows (stacked below ++ turned x c ∷ [])) (defined-same a rows n.name knows);
        long = names-long directive.Elsif a n.name (from + n.len) names;
        fits = fit;
        back = λ last t. on-elsif (is_some (a.macros n.name)) a (past (from + n.len) a) last c below (elsif n.name (from + n.len) names) h t;
        back_to = λ t last x. on-elsif-to t (is_some (a.macros n.name)) a (past (from + n.len) a) last c below (elsif n.name (from + n.len) names) h x;
      })))
    where
      go : Conditional → Step
      go d = named_then (name_behind at (drop at a.bytes)) (λ from n. Ok (elsif_in d n.name (s (c ∷ below)), from + n.len))

  else-directive : (st : List Conditional) (at : ℕ) → IsWord directive.Else a at → Turns a st (directed directive.Else at (drop at a.bytes) (s st))
  else-directive [] at w = tt
  else-directive (c ∷ below) at w =
      subst (λ o. Turns a (c ∷ below) (branching o (λ d. Ok (else_in d (s (c ∷ below)), at)))) (sym (innermost-last (stacked below) c))
      (if-turns a (c ∷ below) c.has_else (refused L2) (Ok (else_in c (s (c ∷ below)), at)) (λ _. tt)
      (λ h. record {
        macros = a.macros;
        setting = a.setting;
        tokens = a.tokens;
        uses = a.uses;
        rows = rows;
        open_now = elsed c ∷ below;
        knows = knows;
        state_is = ap (λ x. state_of a rows x) (with-last (stacked below) c (elsed c));
        long = let l = w.long in omega arith;
        fits = fit;
        back = λ last t. on-else a (past at a) last c below (else_ at w) h t;
        back_to = λ t last x. on-else-to t a (past at a) last c below (else_ at w) h x;
      }))

  endif-directive : (st : List Conditional) (at : ℕ) → IsWord directive.Endif a at → Turns a st (directed directive.Endif at (drop at a.bytes) (s st))
  endif-directive [] at w = tt
  endif-directive (c ∷ below) at w =
      subst (λ o. Turns a (c ∷ below) (endif_by o at (s (c ∷ below)))) (sym (innermost-last (stacked below) c))
      (record {
        macros = a.macros;
        setting = a.setting;
        tokens = a.tokens;
        uses = a.uses;
        rows = rows;
        open_now = below;
        knows = knows;
        state_is = ap (λ x. state_of a rows x) (without-last (stacked below) c);
        long = let l = w.long in omega arith;
        fits = fit;
        back = λ last t. on-endif a (past at a) last c below (endif at w) t;
        back_to = λ t last x. on-endif-to t a (past at a) last c below (endif at w) x;
      })

  directed-turns : (st : List Conditional) (d : Directive) (at : ℕ) → IsWord d a at → skips (stacked st) ≡ false → Turns a st (directed d at (drop at a.bytes) (s st))
  directed-turns st directive.Define at w f = define-turns st at w f
  directed-turns st directive.Undef at w f = undef-turns st at w f
  directed-turns st directive.Ifdef at w f = if-directive st at w
  directed-turns st directive.Ifndef at w f = ifn-directive st at w
  directed-turns st directive.Elsif at w f = elsif-directive st at w
  directed-turns st directive.Else at w f = else-directive st at w
  directed-turns st directive.Endif at w f = endif-directive st at w
  directed-turns st directive.Timescale at w f = scale-turns st at w f
  directed-turns st directive.DefaultNettype at w f = net-turns st at w f
  directed-turns st directive.Resetall at w f = reset-turns st at w f
  directed-turns st directive.Other at w f = tt

  -- text that is read
  name-turns : (st : List Conditional) (name : List ℕ) (len : ℕ) → skips (stacked st) ≡ false → beginning a.bytes ≡ Kept (part.Use name) len → 1 ≤ len
      → (o : Option Directive) → directive_behind (drop 1 a.bytes) name ≡ o → Turns a st (name_read o name len (drop len a.bytes) (s st))
  name-turns st name len f e h None d = macro-turns st name len f e h d
  name-turns st name len f e h (Some d) g = directed-turns st d len (word-of a d name len e g) f

  part-turns : (st : List Conditional) (p : Part) (len : ℕ) → skips (stacked st) ≡ false → beginning a.bytes ≡ Kept p len → 1 ≤ len → Turns a st (part_read p len a.bytes (s st))
  part-turns st (part.Token k) len f e h = token-turns st (part.Token k) k len f e h refl
  part-turns st part.Module len f e h = token-turns st part.Module (kind.Module a.setting) len f e h refl
  part-turns st (part.Use name) len f e h = name-turns st name len f e h (directive_behind (drop 1 a.bytes) name) refl
  part-turns st (part.Wrong fault) len f e h = tt

  piece-turns : (st : List Conditional) → IsMore a.bytes → skips (stacked st) ≡ false → (p : Piece) → beginning a.bytes ≡ p → Turns a st (piece_read p a.bytes (s st))
  piece-turns st i f (Blank len) e = let h = blank-long a.bytes len i e in reads-turn st a.macros a.setting a.tokens a.uses rows len knows h fit f (blank len h e)
  piece-turns st i f (Kept p len) e = part-turns st p len f e (kept-more a.bytes p len e).1
  piece-turns st i f (Fault fault at) e = tt

  -- skipped text
  seen-turns : (st : List Conditional) (n : Named) → skips (stacked st) ≡ true → begins (λ b. nat_eq b 96) a.bytes ≡ true → word_name (drop 1 a.bytes) ≡ Some n
      → (o : Option Directive) → directive_of n.name ≡ o → Turns a st (name_skipped o (n.len + 1) (drop (n.len + 1) a.bytes) (s st))
  seen-turns st n f q w None d = skips-turn st (n.len + 1) (omega arith) f (word n q w (ap is_conditional d))
  seen-turns st n f q w (Some directive.Define) d = skips-turn st (n.len + 1) (omega arith) f (word n q w (ap is_conditional d))
  seen-turns st n f q w (Some directive.Undef) d = skips-turn st (n.len + 1) (omega arith) f (word n q w (ap is_conditional d))
  seen-turns st n f q w (Some directive.Timescale) d = skips-turn st (n.len + 1) (omega arith) f (word n q w (ap is_conditional d))
  seen-turns st n f q w (Some directive.DefaultNettype) d = skips-turn st (n.len + 1) (omega arith) f (word n q w (ap is_conditional d))
  seen-turns st n f q w (Some directive.Resetall) d = skips-turn st (n.len + 1) (omega arith) f (word n q w (ap is_conditional d))
  seen-turns st n f q w (Some directive.Other) d = skips-turn st (n.len + 1) (omega arith) f (word n q w (ap is_conditional d))
  seen-turns st n f q w (Some directive.Ifdef) d = if-directive st (n.len + 1) (record { name = n; quote = q; word = w; directive = d; long = refl })
  seen-turns st n f q w (Some directive.Ifndef) d = ifn-directive st (n.len + 1) (record { name = n; quote = q; word = w; directive = d; long = refl })
  seen-turns st n f q w (Some directive.Elsif) d = elsif-directive st (n.len + 1) (record { name = n; quote = q; word = w; directive = d; long = refl })
  seen-turns st n f q w (Some directive.Else) d = else-directive st (n.len + 1) (record { name = n; quote = q; word = w; directive = d; long = refl })
  seen-turns st n f q w (Some directive.Endif) d = endif-directive st (n.len + 1) (record { name = n; quote = q; word = w; directive = d; long = refl })

  quote-turns : (st : List Conditional) → skips (stacked st) ≡ true → begins (λ b. nat_eq b 96) a.bytes ≡ true → (o : Option Named) → word_name (drop 1 a.bytes) ≡ o
      → Turns a st (use_skipped o a.bytes (s st))
  quote-turns st f q None w = skips-turn st 1 (omega arith) f (quote q w)
  quote-turns st f q (Some n) w = seen-turns st n f q w (directive_of n.name) refl

  skipped-turns : (st : List Conditional) → IsMore a.bytes → skips (stacked st) ≡ true → (o : Option ℕ) → comment_len a.bytes ≡ o → Turns a st (comment_skipped o a.bytes (s st))
  skipped-turns st i f (Some len) e = skips-turn st len (comment-more a.bytes len e).1 f (comment len e)
  skipped-turns st i f None e =
      if-turns a st (begins_with 47 42 a.bytes) (Err (L5, 0)) _ (λ _. tt)
      (λ g. if-turns a st (begins (λ b. nat_eq b 96) a.bytes) (use_skipped (word_name (drop 1 a.bytes)) a.bytes (s st)) (Ok (s st, 1))
      (λ q. quote-turns st f q (word_name (drop 1 a.bytes)) refl)
      (λ q. skips-turn st 1 (omega arith) f (byte i.first i.rest i.bytes_are e g (sym (ap (begins (λ b. nat_eq b 96)) i.bytes_are) ∙ q))))

  step-turns : (st : List Conditional) → IsMore a.bytes → Turns a st (step a.bytes (s st))
  step-turns st i = by (skips (stacked st)) refl
    where
      by : (t : Bool) → skips (stacked st) ≡ t → Turns a st (if t then skipped a.bytes (s st) else piece_read (beginning a.bytes) a.bytes (s st))
      by true f = skipped-turns st i f (comment_len a.bytes) refl
      by false f = piece-turns st i f (beginning a.bytes) refl

-- How many bytes and files are left.
abbrev left-of : At → ℕ
left-of a = length a.bytes + left-in a.files

abbrev IsGiven : Lexed → List Token → Type 0
IsGiven l tokens = (end_of l ≡ Ok tt) × IfReading l (λ first s. s.made.tokens ≡ tokens)

record Ends (a : At) (st : List Conditional) (tokens : List Token) : Type 0 where
  last : At
  chain : Chain st a last
  ends : last.bytes ≡ []
  is_last : last.files ≡ []
  tokens_are : last.tokens ≡ tokens

refused-stays : (fault : DesignFault) (place : Place) (fs : List File) → files_after (refused_at fault place) fs ≡ refused_at fault place
refused-stays fault place [] = refl
refused-stays fault place (f ∷ fs) = refused-stays fault place fs

not-closed : (cs : List Conditional) (c : Conditional) → closed_by (slice_get (cs ++ c ∷ []) 0) ≡ Ok tt → ⊥
not-closed [] c e = cc
not-closed (x ∷ cs) c e = cc

at-end : (o : Option Place) (a : At) (rows : Rows) (st : List Conditional) (tokens : List Token) → a.bytes ≡ [] → a.files ≡ [] → IsGiven (outcome o a rows (stacked st)) tokens → Ends a st tokens
at-end o a rows st tokens e f g =
    by st (subst (λ l. IsGiven l tokens)
    (ap (λ bytes. files_after (lexed_in o (read bytes (state_of a rows (stacked st)))) a.files) e ∙ ap (λ files. files_after (reading o (state_of a rows (stacked st))) files) f) g)
  where
    by : (st : List Conditional) → IsGiven (reading o (state_of a rows (stacked st))) tokens → Ends a st tokens
    by [] h = record { last = a; chain = read_end; ends = e; is_last = f; tokens_are = h.1 }
    by (c ∷ below) h = absurd (not-closed (stacked below) c h.0)

-- What is left behind a step, by what is left behind the next one
abbrev Left : ℕ → List Token → Type 0
Left most tokens = (a : At) (rows : Rows) (st : List Conditional) (o : Option Place) → left-of a ≤ most → Fits a → Knows a.macros rows → IsGiven (outcome o a rows (stacked st)) tokens → Ends a st tokens

at-file : (most : ℕ) (tokens : List Token) → Left most tokens → (a : At) (rows : Rows) (st : List Conditional) (o : Option Place) (f : File) (fs : List File) → a.bytes ≡ [] → a.files ≡ f ∷ fs
    → left-of a ≤ suc most → Fits a → Knows a.macros rows → IsGiven (outcome o a rows (stacked st)) tokens → Ends a st tokens
at-file most tokens rest a rows st o f fs e g h fit k i =
    let l = (file-leads o a rows (stacked st) f fs e g k).leads in
    let size : left-of a ≡ 1 + length f.bytes + left-in fs = ap (λ bytes. length bytes + left-in a.files) e ∙ ap (λ files. length {A = ℕ} [] + left-in files) g ∙ omega arith in
    let r = rest (at_start f fs a) l.macros st l.first (omega arith) fit l.knows (subst (λ x. IsGiven x tokens) l.same i) in
    record { last = r.last; chain = by (skips (stacked st)) refl r.last r.chain; ends = r.ends; is_last = r.is_last; tokens_are = r.tokens_are }
  where
    by : (t : Bool) → skips (stacked st) ≡ t → (last : At) → Chain st (at_start f fs a) last → Chain st a last
    by true x last t = on-skips a (at_start f fs a) last st x (λ z r. skip_piece (skipped_file f fs e g) r) t
    by false x last t = on-read a (at_start f fs a) last st x (λ z r. read_piece (file f fs e g) r) t

at-byte : (most : ℕ) (tokens : List Token) → Left most tokens → (a : At) (rows : Rows) (st : List Conditional) (o : Option Place) (b : ℕ) (bs : List ℕ) → a.bytes ≡ b ∷ bs
    → left-of a ≤ suc most → Fits a → Knows a.macros rows → IsGiven (outcome o a rows (stacked st)) tokens → Ends a st tokens
at-byte most tokens rest a rows st o b bs e h fit k i =
    by (step a.bytes (state_of a rows (stacked st))) refl (step-turns a rows k fit st (record { first = b; rest = bs; bytes_are = e }))
  where
    by : (r : Step) → step a.bytes (state_of a rows (stacked st)) ≡ r → Turns a st r → Ends a st tokens
    by (Ok went) x t =
        let next = again t.macros t.setting t.tokens t.uses a in
        let same = run-step o a b bs rows t.rows (stacked st) (stacked t.open_now) t.macros t.setting t.tokens t.uses went.1 e t.long (x ∙ ap (λ y. Ok (y, went.1)) t.state_is) in
        let cut : length (drop went.1 a.bytes) ≡ length a.bytes - went.1 = length-drop went.1 a.bytes in
        let size : length a.bytes ≡ length bs + 1 = ap length e ∙ omega arith in
        let long = t.long in
        let r = rest (past went.1 next) t.rows t.open_now o (omega arith) t.fits t.knows (subst (λ y. IsGiven y tokens) same i) in
        record { last = r.last; chain = t.back r.last r.chain; ends = r.ends; is_last = r.is_last; tokens_are = r.tokens_are }
    by (Err wrong) x t =
        let stops : outcome o a rows (stacked st) ≡ refused_at wrong.0 (moved (take wrong.1 (b ∷ bs)) (place_of a)) =
        ap (λ bytes. files_after (lexed_in o (read bytes (state_of a rows (stacked st)))) a.files) e
        ∙ ap (λ y. files_after (lexed_in o (step_then y (b ∷ bs) (place_of a) (λ skip went. read_after skip bs went))) a.files)
        (ap (λ bytes. step bytes (state_of a rows (stacked st))) (sym e) ∙ x)
        ∙ refused-stays wrong.0 (moved (take wrong.1 (b ∷ bs)) (place_of a)) a.files in
        let no_end = subst (λ y. end_of y ≡ Ok tt) stops i.0 in cc

has-chain : (most : ℕ) (tokens : List Token) → Left most tokens
has-chain zero tokens a rows st o h fit k i = by a.bytes refl a.files refl
  where
    by : (bytes : List ℕ) → a.bytes ≡ bytes → (files : List File) → a.files ≡ files → Ends a st tokens
    by [] e [] f = at-end o a rows st tokens e f i
    by [] e (x ∷ xs) f = let size : left-in a.files ≡ 1 + length x.bytes + left-in xs = ap left-in f in absurd (omega arith)
    by (b ∷ bs) e files f = let size : length a.bytes ≡ length bs + 1 = ap length e ∙ omega arith in absurd (omega arith)
has-chain (suc most) tokens a rows st o h fit k i = by a.bytes refl a.files refl (has-chain most tokens)
  where
    by : (bytes : List ℕ) → a.bytes ≡ bytes → (files : List File) → a.files ≡ files → Left most tokens → Ends a st tokens
    by [] e [] f rest = at-end o a rows st tokens e f i
    by [] e (x ∷ xs) f rest = at-file most tokens rest a rows st o x xs e f h fit k i
    by (b ∷ bs) e files f rest = at-byte most tokens rest a rows st o b bs e h fit k i

pub spelled_has_text : SpelledHasText
spelled_has_text files tokens h =
    let r = has-chain (left-of (before files)) tokens (before files) [] [] None (omega arith) (omega arith, omega arith) knows-none h in
    record { last = r.last; text = r.chain; ends = r.ends; is_last = r.is_last; tokens_are = r.tokens_are }

pub text_or_refused : TokensOrRefused HasText
text_or_refused files = by (files_read files) refl (known-files nothing_read files tt)
  where
    closed : (first : Option Place) (t : State) → files_read files ≡ reading first t → (o : Option Conditional) → slice_get t.conditionals 0 ≡ o
        → ((tokens : List Token) × HasText files tokens) ⊎ ((fault : DesignFault) × ((place : Place) × Refuses files fault place))
    closed first t e None f = inl (t.made.tokens, spelled_has_text files t.made.tokens (subst (λ l. IsGiven l t.made.tokens) (sym e) (ap closed_by f, refl)))
    closed first t e (Some c) f = inr (L2, (c.place, ap end_of e ∙ ap closed_by f))

    by : (l : Lexed) → files_read files ≡ l → IsKnown l → ((tokens : List Token) × HasText files tokens) ⊎ ((fault : DesignFault) × ((place : Place) × Refuses files fault place))
    by (reading first t) e h = closed first t e (slice_get t.conditionals 0) refl
    by (refused_at fault place) e h = inr (fault, (place, ap end_of e))
    by exhausted e h = absurd h

-- A fault, and up to where there is text.
record StopsAt (a : At) (rows : Rows) (st : List Conditional) (fault : DesignFault) (place : Place) : Type 0 where
  last : At
  is_skipped : Bool
  beginning : ChainTo is_skipped st a last
  rows_now : Rows
  stack : List Conditional
  reach : Reach (config-of a rows (stacked st)) (config-of last rows_now stack)
  is_end : next (config-of last rows_now stack) ≡ None
  why : IsStuck is_skipped last place ⊎ IsLeftOpen last fault

abbrev Said : Type 0
Said = Result (Unit {0}) LexFault

abbrev said-fault : Said → DesignFault
said-fault (Ok done) = L2
said-fault (Err (Refused fault place)) = fault
said-fault (Err NoMemory) = L2

abbrev said-place : Place → Said → Place
said-place other (Ok done) = other
said-place other (Err (Refused fault place)) = place
said-place other (Err NoMemory) = other

open-fault : (o : Option Conditional) (fault : DesignFault) (place : Place) → closed_by o ≡ Err (Refused fault place) → fault ≡ L2
open-fault None fault place e = cc
open-fault (Some c) fault place e = sym (ap said-fault e)

stop-at-end : (o : Option Place) (a : At) (rows : Rows) (st : List Conditional) (fault : DesignFault) (place : Place) → a.bytes ≡ [] → a.files ≡ []
    → end_of (outcome o a rows (stacked st)) ≡ Err (Refused fault place) → StopsAt a rows st fault place
stop-at-end o a rows st fault place e f g =
    let h = sym (ap end_of (ap (λ bytes. files_after (lexed_in o (read bytes (state_of a rows (stacked st)))) a.files) e ∙ ap (λ files. files_after (reading o (state_of a rows (stacked st))) files) f)) ∙ g in
    record {
      last = a;
      is_skipped = skips (stacked st);
      beginning = stands st a;
      rows_now = rows;
      stack = stacked st;
      reach = here;
      is_end = ap (λ bytes. next-of bytes a.files (state_of a rows (stacked st))) e ∙ ap (λ files. next-of [] files (state_of a rows (stacked st))) f;
      why = inr (e, f, open-fault (slice_get (stacked st) 0) fault place h);
    }

abbrev StopsLeft : ℕ → DesignFault → Place → Type 0
StopsLeft most fault place = (a : At) (rows : Rows) (st : List Conditional) (o : Option Place) → left-of a ≤ most → Fits a → Knows a.macros rows
    → end_of (outcome o a rows (stacked st)) ≡ Err (Refused fault place) → StopsAt a rows st fault place

stop-at-file : (most : ℕ) (fault : DesignFault) (place : Place) → StopsLeft most fault place → (a : At) (rows : Rows) (st : List Conditional) (o : Option Place) (f : File) (fs : List File) → a.bytes ≡ [] → a.files ≡ f ∷ fs
    → left-of a ≤ suc most → Fits a → Knows a.macros rows → end_of (outcome o a rows (stacked st)) ≡ Err (Refused fault place) → StopsAt a rows st fault place
stop-at-file most fault place rest a rows st o f fs e g h fit k i =
    let l = (file-leads o a rows (stacked st) f fs e g k).leads in
    let size : left-of a ≡ 1 + length f.bytes + left-in fs = ap (λ bytes. length bytes + left-in a.files) e ∙ ap (λ files. length {A = ℕ} [] + left-in files) g ∙ omega arith in
    let r = rest (at_start f fs a) l.macros st l.first (omega arith) fit l.knows (sym (ap end_of l.same) ∙ i) in
    record { last = r.last; is_skipped = r.is_skipped; beginning = by (skips (stacked st)) refl r.is_skipped r.last r.beginning; rows_now = r.rows_now; stack = r.stack; reach = reach-join {z = config-of r.last r.rows_now r.stack} l.reach r.reach; is_end = r.is_end; why = r.why }
  where
    by : (t : Bool) → skips (stacked st) ≡ t → (u : Bool) (last : At) → ChainTo u st (at_start f fs a) last → ChainTo u st a last
    by true x u last t = on-skips-to u a (at_start f fs a) last st x (λ z r. skip_piece (skipped_file f fs e g) r) t
    by false x u last t = on-read-to u a (at_start f fs a) last st x (λ z r. read_piece (file f fs e g) r) t

stop-at-byte : (most : ℕ) (fault : DesignFault) (place : Place) → StopsLeft most fault place → (a : At) (rows : Rows) (st : List Conditional) (o : Option Place) (b : ℕ) (bs : List ℕ) → a.bytes ≡ b ∷ bs
    → left-of a ≤ suc most → Fits a → Knows a.macros rows → end_of (outcome o a rows (stacked st)) ≡ Err (Refused fault place) → StopsAt a rows st fault place
stop-at-byte most fault place rest a rows st o b bs e h fit k i =
    by (step a.bytes (state_of a rows (stacked st))) refl (step-turns a rows k fit st (record { first = b; rest = bs; bytes_are = e }))
  where
    by : (r : Step) → step a.bytes (state_of a rows (stacked st)) ≡ r → Turns a st r → StopsAt a rows st fault place
    by (Ok went) x t =
        let next = again t.macros t.setting t.tokens t.uses a in
        let same = run-step o a b bs rows t.rows (stacked st) (stacked t.open_now) t.macros t.setting t.tokens t.uses went.1 e t.long (x ∙ ap (λ y. Ok (y, went.1)) t.state_is) in
        let cut : length (drop went.1 a.bytes) ≡ length a.bytes - went.1 = length-drop went.1 a.bytes in
        let size : length a.bytes ≡ length bs + 1 = ap length e ∙ omega arith in
        let long = t.long in
        let r = rest (past went.1 next) t.rows t.open_now o (omega arith) t.fits t.knows (sym (ap end_of same) ∙ i) in
        record {
          last = r.last;
          is_skipped = r.is_skipped;
          beginning = t.back_to r.is_skipped r.last r.beginning;
          rows_now = r.rows_now;
          stack = r.stack;
          reach = further {z = config-of r.last r.rows_now r.stack} (run-next a b bs rows t.rows (stacked st) (stacked t.open_now) t.macros t.setting t.tokens t.uses went.1 e (x ∙ ap (λ y. Ok (y, went.1)) t.state_is)) r.reach;
          is_end = r.is_end;
          why = r.why;
        }
    by (Err wrong) x t =
        let stops : outcome o a rows (stacked st) ≡ refused_at wrong.0 (moved (take wrong.1 (b ∷ bs)) (place_of a)) =
        ap (λ bytes. files_after (lexed_in o (read bytes (state_of a rows (stacked st)))) a.files) e
        ∙ ap (λ y. files_after (lexed_in o (step_then y (b ∷ bs) (place_of a) (λ skip went. read_after skip bs went))) a.files)
        (ap (λ bytes. step bytes (state_of a rows (stacked st))) (sym e) ∙ x)
        ∙ refused-stays wrong.0 (moved (take wrong.1 (b ∷ bs)) (place_of a)) a.files in
        let some : IsMore a.bytes = record { first = b; rest = bs; bytes_are = e } in
        record {
          last = a;
          is_skipped = skips (stacked st);
          beginning = stands st a;
          rows_now = rows;
          stack = stacked st;
          reach = here;
          is_end =
              ap (λ bytes. next-of bytes a.files (state_of a rows (stacked st))) e
              ∙ ap (λ r. next-step r (b ∷ bs) a.files (place_of a)) (ap (λ bytes. step bytes (state_of a rows (stacked st))) (sym e) ∙ x);
          why = inl (record {
            at = wrong.1;
            place_is =
                ap (said-place place) (sym i ∙ ap end_of stops)
                ∙ ap (λ bytes. moved (take wrong.1 bytes) (place_of a)) (sym e) ∙ moved-place a.file (take wrong.1 a.bytes) a.passed;
            read = λ f c g. let w = (goes-leads g o rows (stacked st) k f).steps some in let no = sym w.1 ∙ x in cc;
            skipped = λ f c g. let w = (passes-leads g o rows (stacked st) k f).steps some in let no = sym w.1 ∙ x in cc;
            opens = λ holds c g. let w = (if-leads g o rows (stacked st) (skips (stacked st)) k refl).steps some in let no = sym w.1 ∙ x in cc;
          });
        }

stop-chain : (most : ℕ) (fault : DesignFault) (place : Place) → StopsLeft most fault place
stop-chain zero fault place a rows st o h fit k i = by a.bytes refl a.files refl
  where
    by : (bytes : List ℕ) → a.bytes ≡ bytes → (files : List File) → a.files ≡ files → StopsAt a rows st fault place
    by [] e [] f = stop-at-end o a rows st fault place e f i
    by [] e (x ∷ xs) f = let size : left-in a.files ≡ 1 + length x.bytes + left-in xs = ap left-in f in absurd (omega arith)
    by (b ∷ bs) e files f = let size : length a.bytes ≡ length bs + 1 = ap length e ∙ omega arith in absurd (omega arith)
stop-chain (suc most) fault place a rows st o h fit k i = by a.bytes refl a.files refl (stop-chain most fault place)
  where
    by : (bytes : List ℕ) → a.bytes ≡ bytes → (files : List File) → a.files ≡ files → StopsLeft most fault place → StopsAt a rows st fault place
    by [] e [] f rest = stop-at-end o a rows st fault place e f i
    by [] e (x ∷ xs) f rest = stop-at-file most fault place rest a rows st o x xs e f h fit k i
    by (b ∷ bs) e files f rest = stop-at-byte most fault place rest a rows st o b bs e h fit k i

pub fault_stops : FaultStops
fault_stops files fault place h =
    let r = stop-chain (left-of (before files)) fault place (before files) [] [] None (omega arith) (omega arith, omega arith) knows-none h in
    record {
      last = r.last;
      is_skipped = r.is_skipped;
      beginning = r.beginning;
      is_furthest = λ t e w.
          let to = reads-to w None [] [] knows-none refl in
          reach-less (reach-end r.reach r.is_end to.leads.reach);
      why = r.why;
    }
