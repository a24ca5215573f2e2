-- That the productions meet the conditions under which reading them means what it should.
use Rattle.std.proofs.Common.{◌≡◌, ℕ, Bool, true, false, ◌&&◌, ◌||◌, cond, is_some, Some, None, List, refl, ap, ◌∙◌}
use Rattle.std.specs.Str.{bytes_eq}
use Rattle.std.proofs.lemmas.Slice.Eq.{bytes_eq-Decides}
use Rattle.vh_base.specs.declared.faults.AppFault.{AppFault}
use Rattle.vh_app_lines.specs.declared.routine.Routine.{Routine}
use Rattle.vh_app_lines.specs.declared.routine.Routine.TheVariants as routine
use Rattle.vh_parse_grammar.specs.Part.{Part, done, tok, seq, bind, act, alt, rep, iter, nested, unless, barred}
use Rattle.vh_parse_grammar.specs.Conditions.{eats, Advances}
use Rattle.vh_parse_grammar.specs.Firsts.{first_at}
use Rattle.vh_parse_grammar.specs.Choices.{Heeds}
use Rattle.vh_app_script.specs.declared.token.Keyword.{Keyword}
use Rattle.vh_app_script.specs.declared.token.Keyword.TheVariants as keyword
use Rattle.vh_app_script.specs.declared.token.Symbol.TheVariants as symbols
use Rattle.vh_app_script.specs.declared.words.Opening.{Opening}
use Rattle.vh_app_script.specs.declared.words.Opening.TheVariants as opens
use Rattle.vh_app_script.specs.Token.{Terminal, word, number, text, symbol, wrong, keyword_text, is_symbol}
use Rattle.vh_app_script.specs.Tree.{Test}
use Rattle.vh_app_script.specs.Env.{Env, startup_env, procedure_env}
use Rattle.vh_app_script.specs.Words.{opening_in, order_in}
use Rattle.vh_app_script.specs.Grammar as g
use Rattle.vh_app_script.specs.Grammar.{Name, block, tree_of, G, Run, Procs, grammar, get_value_row, put_value_row, body, register_row, register_systf_row, arguments, order_end, order, sign, test_row, set_end, nested_block, otherwise, branches, if_end, while_end, target_end, ask_end, return_end, command_end, command, one_more, any_block, heading, declaration, startup_order, startup, procedure, rest_of, declared, app}

-- The tokens with which the production that nests begins.
abbrev pub begins : Name → Terminal → Bool
begins = first_at grammar 1

by_only : (b : Bool) → b ≡ (is_some (cond b (Some (tt {0})) None) || false)
by_only true = refl
by_only false = refl

by_some : (b : Bool) → b ≡ (b || false)
by_some true = refl
by_some false = refl

by_some_twice : (b : Bool) → b ≡ ((b || false) || false)
by_some_twice true = refl
by_some_twice false = refl

and_false : (b : Bool) → (b && false) ≡ false
and_false true = refl
and_false false = refl

-- A token that is spelled so isn't spelled otherwise.
apart : (own one other : List ℕ) → bytes_eq one other ≡ false → (bytes_eq own one && bytes_eq own other) ≡ false
apart own one other h = decide (bytes_eq own one) refl
  where
    decide : (b : Bool) → bytes_eq own one ≡ b → (b && bytes_eq own other) ≡ false
    decide true e = ap (λ o. bytes_eq o other) ((bytes_eq-Decides own one).0 e) ∙ h
    decide false e = refl

words_apart : (one other : Keyword) (t : Terminal) → bytes_eq (keyword_text one) (keyword_text other) ≡ false → (g.is_word one t && g.is_word other t) ≡ false
words_apart one other (word aimed bytes) h = apart bytes (keyword_text one) (keyword_text other) h
words_apart one other (number n) h = refl
words_apart one other (text bytes) h = refl
words_apart one other (symbol m) h = refl
words_apart one other wrong h = refl

-- Each production takes a token.
pub eating : (p : Name) → eats (grammar p) ≡ true
unfolding any_block
eating (block env room) = refl

module _ {T P : Type 0} {V : P → Type 0} where
  -- Each turn of a repetition in the part takes a token, and nothing is left out of it (own).
  abbrev pub Plain : {A : Type 0} → Part T V A → Type 0
  Plain (done a) = Unit {0}
  Plain (tok meaning) = Unit {0}
  Plain (seq p q) = Plain p × Plain q
  Plain (bind {A} p q) = Plain p × ((a : A) → Plain (q a))
  Plain (act f p) = Plain p
  Plain (alt class p q) = Plain p × Plain q
  Plain (rep class p) = (eats p ≡ true) × Plain p
  Plain (iter {S} class part s) = (u : S) → (eats (part u) ≡ true) × Plain (part u)
  Plain (nested p) = Unit {0}
  Plain (unless class p) = ⊥
  Plain (barred class p) = ⊥

  advances : {A : Type 0} (p : Part T V A) → Plain p → Advances p
  advances (done a) h = tt
  advances (tok meaning) h = tt
  advances (seq p q) h = (advances p h.0, advances q h.1)
  advances (bind p q) h = (advances p h.0, λ a. advances (q a) (h.1 a))
  advances (act f p) h = advances p h
  advances (alt class p q) h = (advances p h.0, advances q h.1)
  advances (rep class p) h = (h.0, advances p h.1)
  advances (iter class part s) h = λ u. ((h u).0, advances (part u) (h u).1)
  advances (nested p) h = tt
  advances (unless class p) h = absurd h
  advances (barred class p) h = absurd h

-- The productions are plain.
arguments_plain : (env : Env) (r : Routine) → Plain (arguments env r)
unfolding get_value_row put_value_row register_row body register_systf_row
arguments_plain env routine.ByName = (tt, tt)
arguments_plain env routine.ByIndex = (tt, tt)
arguments_plain env routine.Handle = (tt, tt)
arguments_plain env routine.Iterate = (tt, tt)
arguments_plain env routine.Scan = tt
arguments_plain env routine.Free = tt
arguments_plain env routine.Compare = (tt, tt)
arguments_plain env routine.Get = (tt, tt)
arguments_plain env routine.GetStr = (tt, tt)
arguments_plain env routine.GetValue = (tt, tt)
arguments_plain env routine.PutValue = (tt, (tt, (tt, (tt, (tt, (tt, tt))))))
arguments_plain env routine.Cancel = tt
arguments_plain env routine.GetTime = tt
arguments_plain env routine.Register = (tt, (tt, (tt, ((tt, tt), tt))))
arguments_plain env routine.Remove = tt
arguments_plain env routine.CbInfo = tt
arguments_plain env routine.RegisterSystf = (tt, (tt, (tt, ((tt, tt), ((tt, tt), tt)))))
arguments_plain env routine.ChkError = tt
arguments_plain env routine.Control = tt
arguments_plain env routine.Print = tt
arguments_plain env routine.SetData = tt
arguments_plain env routine.Pass = tt
arguments_plain env routine.Return = tt

order_end_plain : (env : Env) (o : Opening) → Plain (order_end env o)
order_end_plain env (opens.Ask r) = arguments_plain env r
order_end_plain env (opens.Target n) = tt
order_end_plain env opens.Set = tt
order_end_plain env opens.Return = tt
order_end_plain env opens.If = tt
order_end_plain env opens.While = tt
order_end_plain env opens.Nothing = tt

order_plain : (env : Env) → Plain (order env)
unfolding order
order_plain env = (tt, order_end_plain env)

test_plain : (env : Env) → Plain (test_row env)
unfolding test_row sign
test_plain env = (tt, ((tt, tt), tt))

nested_plain : (env : Env) (room : ℕ) → Plain (nested_block env room)
unfolding nested_block
nested_plain env room = (tt, tt)

otherwise_plain : (env : Env) (room : ℕ) → Plain (otherwise env room)
unfolding otherwise
otherwise_plain env room = ((tt, nested_plain env room), tt)

branches_plain : (env : Env) (t : Test) (room : ℕ) → Plain (branches env t room)
unfolding branches
branches_plain env t room = (nested_plain env room, λ holds. otherwise_plain env holds.room)

command_end_plain : (env : Env) (room : ℕ) (o : Opening) → Plain (command_end env room o)
unfolding target_end set_end return_end if_end while_end ask_end
command_end_plain env room (opens.Target n) = ((tt, order_plain env), tt)
command_end_plain env room opens.Set = ((tt, (tt, (tt, ((tt, tt), tt)))), tt)
command_end_plain env room opens.Return = (tt, tt)
command_end_plain env room opens.If = ((tt, (test_plain env, tt)), λ t. branches_plain env t _)
command_end_plain env room opens.While = ((tt, (test_plain env, tt)), nested_plain env _)
command_end_plain env room (opens.Ask r) = (arguments_plain env r, tt)
command_end_plain env room opens.Nothing = tt

pub one_more_plain : (env : Env) (run : Run) → (eats (one_more env run) ≡ true) × Plain (one_more env run)
unfolding one_more command
one_more_plain env run = (refl, (tt, command_end_plain env run.room))

pub block_plain : (p : Name) → Plain (grammar p)
unfolding any_block
block_plain (block env room) = (tt, (one_more_plain env, tt))

pub advancing : (p : Name) → Advances (grammar p)
advancing p = advances (grammar p) (block_plain p)

pub declaration_plain : (rules : AppFault) (names : List (List ℕ)) → (eats (declaration rules names) ≡ true) × Plain (declaration rules names)
unfolding declaration
declaration_plain rules names = (refl, (tt, ((tt, λ u v. (refl, (tt, tt))), tt)))

pub startup_order_plain : (rules : AppFault) → Plain (startup_order rules)
unfolding startup_order
startup_order_plain rules = (order_plain (startup_env rules), tt)

pub startup_order_eats : (rules : AppFault) → eats (startup_order rules) ≡ true
unfolding startup_order order
startup_order_eats rules = refl

startup_plain : (rules : AppFault) → Plain (startup rules)
unfolding startup
startup_plain rules = ((tt, (tt, ((startup_order_eats rules, startup_order_plain rules), tt))), tt)

pub procedure_plain : (env : Env) (procs : Procs) → (eats (procedure env procs) ≡ true) × Plain (procedure env procs)
unfolding procedure
procedure_plain env procs = (refl, (tt, (tt, nested_plain env procs.room)))

pub app_plain : (rules : AppFault) (earlier : List (List ℕ)) → Plain (app rules earlier)
unfolding app heading declared rest_of
app_plain rules earlier =
    ((tt, (tt, tt)), λ bytes. (declaration_plain rules, λ names. (startup_plain rules, procedure_plain (procedure_env rules names))))

pub start_advancing : (rules : AppFault) (earlier : List (List ℕ)) → Advances (app rules earlier)
start_advancing rules earlier = advances (app rules earlier) (app_plain rules earlier)

-- No production begins with a nested one.
pub settled : (p : Name) (t : Terminal) → first_at grammar 2 p t ≡ first_at grammar 1 p t
unfolding any_block
settled (block env room) t = refl

-- Each choice is made right at each token.
arguments_heed : (env : Env) (r : Routine) (t : Terminal) → Heeds begins (arguments env r) t
unfolding get_value_row put_value_row register_row body register_systf_row
arguments_heed env routine.ByName t = (refl, tt, tt)
arguments_heed env routine.ByIndex t = (refl, tt, tt)
arguments_heed env routine.Handle t = (refl, tt, tt)
arguments_heed env routine.Iterate t = (refl, tt, tt)
arguments_heed env routine.Scan t = tt
arguments_heed env routine.Free t = tt
arguments_heed env routine.Compare t = (refl, tt, tt)
arguments_heed env routine.Get t = (refl, tt, tt)
arguments_heed env routine.GetStr t = (refl, tt, tt)
arguments_heed env routine.GetValue t = (refl, tt, tt)
arguments_heed env routine.PutValue t =
    (refl, tt, (refl, tt, (refl, tt, (refl, tt, (refl, tt, (only_alone (g.is_word keyword.Event t), refl, tt, tt))))))
  where
    only_alone : (b : Bool) → b ≡ is_some (cond b (Some (tt {0})) None)
    only_alone true = refl
    only_alone false = refl
arguments_heed env routine.Cancel t = tt
arguments_heed env routine.GetTime t = tt
arguments_heed env routine.Register t = (refl, tt, (refl, tt, (refl, tt, (refl, (refl, tt, tt), tt))))
arguments_heed env routine.Remove t = tt
arguments_heed env routine.CbInfo t = tt
arguments_heed env routine.RegisterSystf t =
    (refl, tt, (refl, tt, (refl, tt, (refl, (refl, tt, tt), (by_only (g.is_word keyword.Compiletf t), refl, (refl, tt, tt), tt)))))
arguments_heed env routine.ChkError t = tt
arguments_heed env routine.Control t = tt
arguments_heed env routine.Print t = tt
arguments_heed env routine.SetData t = tt
arguments_heed env routine.Pass t = tt
arguments_heed env routine.Return t = tt

order_end_heeds : (env : Env) (o : Opening) (t : Terminal) → Heeds begins (order_end env o) t
order_end_heeds env (opens.Ask r) t = arguments_heed env r t
order_end_heeds env (opens.Target n) t = tt
order_end_heeds env opens.Set t = tt
order_end_heeds env opens.Return t = tt
order_end_heeds env opens.If t = tt
order_end_heeds env opens.While t = tt
order_end_heeds env opens.Nothing t = tt

order_heeds : (env : Env) (t : Terminal) → Heeds begins (order env) t
unfolding order
order_heeds env t = (refl, tt, λ o. order_end_heeds env o t)

sign_heeds : (t : Terminal) → Heeds begins sign t
unfolding sign
sign_heeds (word aimed bytes) = (refl, refl, tt, tt)
sign_heeds (number n) = (refl, refl, tt, tt)
sign_heeds (text bytes) = (refl, refl, tt, tt)
sign_heeds (symbol symbols.Equals) = (refl, refl, tt, tt)
sign_heeds (symbol symbols.Differs) = (refl, refl, tt, tt)
sign_heeds (symbol m) = (refl, refl, tt, tt)
sign_heeds wrong = (refl, refl, tt, tt)

test_heeds : (env : Env) (t : Terminal) → Heeds begins (test_row env) t
unfolding test_row sign
test_heeds env t = (refl, tt, (refl, sign_heeds t, tt))

nested_heeds : (env : Env) (room : ℕ) (t : Terminal) → Heeds begins (nested_block env room) t
unfolding nested_block any_block
nested_heeds env room t = (by_only (is_symbol symbols.OpenBrace t), refl, tt, tt)

otherwise_heeds : (env : Env) (room : ℕ) (t : Terminal) → Heeds begins (otherwise env room) t
unfolding otherwise
otherwise_heeds env room t = (by_only (g.is_word keyword.Else t), refl, (refl, tt, nested_heeds env room t), tt)

branches_heed : (env : Env) (own : Test) (room : ℕ) (t : Terminal) → Heeds begins (branches env own room) t
unfolding branches nested_block
branches_heed env own room t = (refl, nested_heeds env room t, λ holds. otherwise_heeds env holds.room t)

ask_end_heeds : (env : Env) (r : Routine) (t : Terminal) → Heeds begins (ask_end env r) t
unfolding ask_end get_value_row put_value_row register_row body register_systf_row
ask_end_heeds env routine.GetTime t = (and_false _, tt, tt)
ask_end_heeds env routine.ChkError t = (and_false _, tt, tt)
ask_end_heeds env r t = (refl, arguments_heed env r t, tt)

command_end_heeds : (env : Env) (room : ℕ) (o : Opening) (t : Terminal) → Heeds begins (command_end env room o) t
unfolding target_end set_end return_end if_end while_end order test_row
command_end_heeds env room (opens.Target n) t = (refl, (refl, tt, order_heeds env t), tt)
command_end_heeds env room opens.Set t =
    (refl, (refl, tt, (refl, tt, (refl, tt, (by_only (is_symbol symbols.Plus t), refl, (refl, tt, tt), tt)))), tt)
command_end_heeds env room opens.Return t = (and_false _, tt, tt)
command_end_heeds env room opens.If t =
    (refl, (refl, tt, (refl, test_heeds env t, tt)), λ own. branches_heed env own _ t)
command_end_heeds env room opens.While t = (refl, (refl, tt, (refl, test_heeds env t, tt)), nested_heeds env _ t)
command_end_heeds env room (opens.Ask r) t = ask_end_heeds env r t
command_end_heeds env room opens.Nothing t = tt

one_more_heeds : (env : Env) (run : Run) (t : Terminal) → (g.begins_command env run t ≡ (is_some (opening_in env run.room t) || false)) × Heeds begins (one_more env run) t
unfolding one_more command
one_more_heeds env run t = (by_some _, (refl, tt, λ o. command_end_heeds env run.room o t))

commands_close : (env : Env) (room : ℕ) (t : Terminal) → ((is_some (cond (is_symbol symbols.CloseBrace t) (Some (tt {0})) None)) && (is_some (opening_in env room t) || false)) ≡ false
commands_close env room (word aimed bytes) = refl
commands_close env room (number n) = refl
commands_close env room (text bytes) = refl
commands_close env room (symbol m) = and_false _
commands_close env room wrong = refl

block_heeds : (env : Env) (room : ℕ) (t : Terminal) → Heeds begins (any_block env room) t
unfolding any_block one_more command
block_heeds env room t = (refl, tt, (commands_close env room t, (λ run. one_more_heeds env run t), tt))

pub heeding : (p : Name) (t : Terminal) → Heeds begins (grammar p) t
heeding (block env room) t = block_heeds env room t

orders_close : (rules : AppFault) (t : Terminal) → ((is_some (cond (is_symbol symbols.CloseBrace t) (Some (tt {0})) None)) && ((is_some (order_in rules t) || false) || false)) ≡ false
orders_close rules (word aimed bytes) = refl
orders_close rules (number n) = refl
orders_close rules (text bytes) = refl
orders_close rules (symbol m) = and_false _
orders_close rules wrong = refl

startup_heeds : (rules : AppFault) (t : Terminal) → Heeds begins (startup rules) t
unfolding startup startup_order order
startup_heeds rules t =
    (by_only (g.is_word keyword.Startup t), refl, (refl, tt, (refl, tt, (orders_close rules t, (by_some_twice _, (refl, order_heeds (startup_env rules) t, tt)), tt))), tt)

procedures_heed : (env : Env) (procs : Procs) (t : Terminal) → (g.is_word keyword.Proc t ≡ (is_some (cond (g.is_word keyword.Proc t) (Some (tt {0})) None) || false)) × Heeds begins (procedure env procs) t
unfolding procedure nested_block
procedures_heed env procs t = (by_only _, (refl, tt, (refl, tt, nested_heeds env procs.room t)))

declarations_heed : (rules : AppFault) (names : List (List ℕ)) (t : Terminal) → (g.is_word keyword.Var t ≡ (is_some (cond (g.is_word keyword.Var t) (Some (tt {0})) None) || false)) × Heeds begins (declaration rules names) t
unfolding declaration
declarations_heed rules names t =
    (by_only _, (refl, tt, (refl, (refl, tt, λ u v. (by_only (is_symbol symbols.Comma t), (refl, tt, tt))), tt)))

only_is : Bool → Bool
only_is b = is_some (cond b (Some (tt {0})) None)

two_apart : (p s : Bool) → (p && s) ≡ false → ((only_is p || false) && ((only_is s || false) || false)) ≡ false
unfolding only_is
two_apart true true h = h
two_apart true false h = refl
two_apart false s h = refl

three_apart : (s p v : Bool) → (s && v) ≡ false → (p && v) ≡ false → (((((only_is s || false) || false)) || (only_is p || false)) && (only_is v || false)) ≡ false
unfolding only_is
three_apart true p true h i = h
three_apart true p false h i = refl
three_apart false true true h i = i
three_apart false true false h i = refl
three_apart false false v h i = refl

rest_heeds : (rules : AppFault) (bytes : List ℕ) (variables : List (List ℕ)) (t : Terminal) → Heeds begins (rest_of rules bytes variables) t
unfolding only_is rest_of startup procedure
rest_heeds rules bytes variables t =
    (two_apart _ _ (words_apart keyword.Proc keyword.Startup t refl), startup_heeds rules t, λ procs. procedures_heed (procedure_env rules variables) procs t)

pub start_heeding : (rules : AppFault) (earlier : List (List ℕ)) (t : Terminal) → Heeds begins (app rules earlier) t
unfolding only_is app heading declared declaration rest_of startup procedure
start_heeding rules earlier t = (
  refl,
  (refl, tt, (refl, tt, tt)),
  λ bytes.
      (three_apart _ _ _ (words_apart keyword.Startup keyword.Var t refl) (words_apart keyword.Proc keyword.Var t refl), (λ names. declarations_heed rules names t), λ names. rest_heeds rules bytes names t),
)
