-- The directives: the state after each, and how many bytes it has (IEEE 1364-2005, clause 19).
use Rattle.std.specs.Prelude.{ℕ, zero, suc, ◌+◌, ◌-◌, Bool, true, false, not, List, [], ◌∷◌, ◌++◌, Option, Some, None, Result, Ok, Err, if◌then◌else◌, take, drop, codes, bytes_eq, nat_le, is_some, ◌==◌}
use Rattle.std.specs.List.{find, list_any, prefix_len}
use Rattle.std.specs.Option.{option_map, option_and_then}
use Rattle.vh_base.specs.declared.faults.DesignFault.{DesignFault}
use Rattle.vh_base.specs.declared.faults.DesignFault.TheVariants.{L2, L3, L6}
use Rattle.vh_lex.specs.declared.setting.DefaultNet.{DefaultNet}
use Rattle.vh_lex.specs.declared.setting.DefaultNet.TheVariants.{Wire, Nothing}
use Rattle.vh_lex.specs.declared.conditional.Conditional.{Conditional}
use Rattle.vh_lex.specs.declared.conditional.Branch.{Branch}
use Rattle.vh_lex.specs.declared.conditional.Branch.TheVariants as branch
use Rattle.vh_lex.specs.declared.directive.Directive.{Directive}
use Rattle.vh_lex.specs.declared.directive.Directive.TheVariants as directive
use Rattle.vh_lex.specs.Bytes.{begins, is_line_end, is_name_byte}
use Rattle.vh_base.specs.Classes.{is_space, is_digit, is_name_start}
use Rattle.vh_lex.specs.Beginning.{Named, name_of, is_long, comment_len}
use Rattle.vh_lex.specs.Gathered.{macro_of, with_macro}
use Rattle.vh_lex.specs.Conditionals.{innermost, with_innermost, without_innermost, skips}
use Rattle.vh_lex.specs.State.{State, first_setting}
use Rattle.vh_lex.specs.MacroTexts.{macro_text, macro_len, parts_of}

-- The state after what bytes begin with, and how many bytes that is; or a fault, and how many bytes stand before it.
abbrev pub Step : Type 0
Step = Result (State × ℕ) (DesignFault × ℕ)

-- A fault at the backquote
abbrev pub refused : DesignFault → Step
refused fault = Err (fault, 0)

-- A spelling and its directive, a row for each; the last nine are left out (clause 19)
unfoldable pub directive_rows : List (List ℕ × Directive)
directive_rows =
    (codes "define", directive.Define) ∷
    (codes "undef", directive.Undef) ∷
    (codes "ifdef", directive.Ifdef) ∷
    (codes "ifndef", directive.Ifndef) ∷
    (codes "elsif", directive.Elsif) ∷
    (codes "else", directive.Else) ∷
    (codes "endif", directive.Endif) ∷
    (codes "timescale", directive.Timescale) ∷
    (codes "default_nettype", directive.DefaultNettype) ∷
    (codes "resetall", directive.Resetall) ∷
    (codes "begin_keywords", directive.Other) ∷
    (codes "celldefine", directive.Other) ∷
    (codes "end_keywords", directive.Other) ∷
    (codes "endcelldefine", directive.Other) ∷
    (codes "include", directive.Other) ∷
    (codes "line", directive.Other) ∷
    (codes "nounconnected_drive", directive.Other) ∷
    (codes "pragma", directive.Other) ∷
    (codes "unconnected_drive", directive.Other) ∷
    []

-- The directive that a name behind a backquote is, if it is one
abbrev pub directive_of : List ℕ → Option Directive
directive_of name = option_map (λ row. row.1) (find (λ row. bytes_eq row.0 name) directive_rows)

-- The directive that a name is with which these bytes behind a backquote begin; an escaped one is none (own; clause 19)
abbrev pub directive_behind : List ℕ → List ℕ → Option Directive
directive_behind bytes name = if begins is_name_start bytes then directive_of name else None

-- A blank or a comment that has an end begins there, of so many bytes behind its first
abbrev pub blank_by : Option ℕ → ℕ → Option ℕ
blank_by None byte = if is_space byte then Some 0 else None
blank_by (Some len) byte = Some (len - 1)

abbrev pub blank_at : List ℕ → Option ℕ
blank_at [] = None
blank_at (byte ∷ bytes) = blank_by (comment_len (byte ∷ bytes)) byte

-- How many bytes of white space and comments there are, after the first so many
abbrev pub gap_then : Option ℕ → (ℕ → ℕ) → ℕ
gap_then None rest = 0
gap_then (Some skip) rest = 1 + rest skip

abbrev pub gap_after : ℕ → List ℕ → ℕ
gap_after skip [] = 0
gap_after (suc skip) (byte ∷ bytes) = 1 + gap_after skip bytes
gap_after zero (byte ∷ bytes) = gap_then (blank_at (byte ∷ bytes)) (λ skip. gap_after skip bytes)

-- How many bytes of white space and comments, with line ends, may stand before a part of a directive (own)
abbrev pub gap_len : List ℕ → ℕ
gap_len bytes = gap_after 0 bytes

-- The name that a directive takes, and how many bytes stand before it; or a fault.
abbrev pub Naming : Type 0
Naming = Result (ℕ × Named) (DesignFault × ℕ)

-- The name behind so many bytes: without one the directive is L2, and one above 1,024 bytes is L6 where it begins
abbrev pub name_by : Option Named → ℕ → Naming
name_by None at = Err (L2, 0)
name_by (Some n) at = if is_long n.name then Err (L6, at) else Ok (at, n)

-- The same behind white space and comments, the bytes standing `at` bytes behind the backquote
abbrev pub name_behind : ℕ → List ℕ → Naming
name_behind at bytes = name_by (name_of (drop (gap_len bytes) bytes)) (at + gap_len bytes)

-- What is done with the name
abbrev pub named_then : Naming → (ℕ → Named → Step) → Step
named_then (Ok found) go = go found.0 found.1
named_then (Err wrong) go = Err wrong

-- `define with the name on its line (19.3.1): L2 for the name of a directive, L3 for a macro with arguments, L6 for a long name
abbrev pub define_text : ℕ → List ℕ → List ℕ → State → Step
define_text at name bytes s =
    Ok (record s { macros = with_macro name (Some (parts_of (macro_text bytes))) s.macros }, at + macro_len bytes)

abbrev pub define_name : ℕ → Named → List ℕ → State → Step
define_name at n bytes s =
    if is_some (directive_of n.name) then refused L2
    else (if begins (λ b. b == 40) (drop n.len bytes) then refused L3
    else (if is_long n.name then Err (L6, at) else define_text (at + n.len) n.name (drop n.len bytes) s))

abbrev pub define_by : Option Named → ℕ → List ℕ → State → Step
define_by None at bytes s = refused L2
define_by (Some n) at bytes s = define_name at n bytes s

abbrev pub define_behind : ℕ → ℕ → List ℕ → State → Step
define_behind gap at bytes s =
    if list_any is_line_end (take gap bytes) then refused L2 else define_by (name_of (drop gap bytes)) (at + gap) (drop gap bytes) s

abbrev pub define : ℕ → List ℕ → State → Step
define at bytes s = define_behind (gap_len bytes) at bytes s

-- `undef (19.3.2)
abbrev pub undef : ℕ → List ℕ → State → Step
undef at bytes s =
    named_then (name_behind at bytes) (λ from n. Ok (record s { macros = with_macro n.name None s.macros }, from + n.len))

-- A branch is read where its condition holds (19.4)
abbrev pub chosen : Bool → Branch
chosen true = branch.Read
chosen false = branch.Sought

-- `ifdef and `ifndef: in skipped text no branch is read (19.4)
abbrev pub opening : Bool → Bool → Branch
opening true holds = branch.Past
opening false holds = chosen holds

-- `ifdef asks whether a macro is defined, and `ifndef whether it is not (19.4)
abbrev pub condition : Bool → Bool → Bool
condition true is_defined = is_defined
condition false is_defined = not is_defined

abbrev pub opened : Bool → List ℕ → State → State
opened wanted name s =
    record s {
      conditionals = s.conditionals ++ record {
        place = s.place;
        branch = opening (skips s.conditionals) (condition wanted (is_some (macro_of name s.macros)));
        has_else = false;
      } ∷ [];
    }

abbrev pub ifdef : Bool → ℕ → List ℕ → State → Step
ifdef wanted at bytes s = named_then (name_behind at bytes) (λ from n. Ok (opened wanted n.name s, from + n.len))

-- The branch behind one, where its condition holds or not (19.4)
abbrev pub next_branch : Branch → Bool → Branch
next_branch branch.Sought holds = chosen holds
next_branch branch.Read holds = branch.Past
next_branch branch.Past holds = branch.Past

-- The conditional that may have a further branch: the innermost one, before its `else
abbrev pub branching : Option Conditional → (Conditional → Step) → Step
branching None go = refused L2
branching (Some c) go = if c.has_else then refused L2 else go c

-- `elsif (19.4)
abbrev pub elsif_in : Conditional → List ℕ → State → State
elsif_in c name s =
    record s { conditionals = with_innermost (record c { branch = next_branch c.branch (is_some (macro_of name s.macros)) }) s.conditionals }

abbrev pub elsif : ℕ → List ℕ → State → Step
elsif at bytes s =
    branching (innermost s.conditionals) (λ c. named_then (name_behind at bytes) (λ from n. Ok (elsif_in c n.name s, from + n.len)))

-- `else (19.4)
abbrev pub else_in : Conditional → State → State
else_in c s =
    record s { conditionals = with_innermost (record c { branch = next_branch c.branch true; has_else = true }) s.conditionals }

abbrev pub else_ : ℕ → State → Step
else_ at s = branching (innermost s.conditionals) (λ c. Ok (else_in c s, at))

-- `endif (19.4)
abbrev pub endif_by : Option Conditional → ℕ → State → Step
endif_by None at s = refused L2
endif_by (Some c) at s = Ok (record s { conditionals = without_innermost s.conditionals }, at)

abbrev pub endif : ℕ → State → Step
endif at s = endif_by (innermost s.conditionals) at s

-- A value that stands there, and how many bytes it has with the white space and comments before it
pub record Found : Type 0 where
  pub value : ℕ
  pub len : ℕ

abbrev pub found : ℕ → Option ℕ → Option Found
found len value = option_map (λ v. record { value = v; len = len }) value

abbrev pub further : ℕ → Option Found → Option Found
further len None = None
further len (Some f) = Some (record f { len = len + f.len })

-- 1, 10 or 100, as a power of ten (19.8)
abbrev pub amount_of : List ℕ → Option ℕ
amount_of word =
    if bytes_eq (codes "1") word then Some 0
    else (if bytes_eq (codes "10") word then Some 1 else (if bytes_eq (codes "100") word then Some 2 else None))

abbrev pub amount_at : List ℕ → Option Found
amount_at bytes = found (prefix_len is_digit bytes) (amount_of (take (prefix_len is_digit bytes) bytes))

-- S, ms, us, ns, ps or fs, as a power of ten of 1 fs (19.8)
abbrev pub unit_of : List ℕ → Option ℕ
unit_of word =
    if bytes_eq (codes "s") word then Some 15
    else (if bytes_eq (codes "ms") word then Some 12
    else (if bytes_eq (codes "us") word then Some 9
    else (if bytes_eq (codes "ns") word then Some 6
    else (if bytes_eq (codes "ps") word then Some 3 else (if bytes_eq (codes "fs") word then Some 0 else None)))))

abbrev pub unit_at : List ℕ → Option Found
unit_at bytes = found (prefix_len is_name_byte bytes) (unit_of (take (prefix_len is_name_byte bytes) bytes))

-- An amount and its unit, with white space and comments before each (19.8)
abbrev pub plus : Found → Option Found → Option Found
plus first None = None
plus first (Some second) = Some (record { value = first.value + second.value; len = first.len + second.len })

abbrev pub amount_behind : List ℕ → Option Found
amount_behind bytes = further (gap_len bytes) (amount_at (drop (gap_len bytes) bytes))

abbrev pub unit_behind : List ℕ → Option Found
unit_behind bytes = further (gap_len bytes) (unit_at (drop (gap_len bytes) bytes))

abbrev pub time_behind : List ℕ → Option Found
time_behind bytes = option_and_then (λ amount. plus amount (unit_behind (drop amount.len bytes))) (amount_behind bytes)

-- The slash between the two times, and the time behind it (19.8)
abbrev pub slash_by : Bool → ℕ → List ℕ → Option Found
slash_by false len bytes = None
slash_by true len bytes = further len (time_behind bytes)

abbrev pub slash_behind : List ℕ → Option Found
slash_behind bytes =
    slash_by (begins (λ b. b == 47) (drop (gap_len bytes) bytes)) (gap_len bytes + 1) (drop (gap_len bytes + 1) bytes)

-- `timescale: the precision is not above the unit (19.8)
abbrev pub scaled : ℕ → Found → Option Found → State → Step
scaled at unit None s = refused L2
scaled at unit (Some precision) s =
    if nat_le precision.value unit.value
    then Ok (record s { setting = record s.setting { unit = unit.value; precision = precision.value } }, at + unit.len + precision.len)
    else refused L2

abbrev pub timescale_by : ℕ → Option Found → List ℕ → State → Step
timescale_by at None bytes s = refused L2
timescale_by at (Some unit) bytes s = scaled at unit (slash_behind (drop unit.len bytes)) s

abbrev pub timescale : ℕ → List ℕ → State → Step
timescale at bytes s = timescale_by at (time_behind bytes) bytes s

-- `default_nettype with wire or none (19.2)
abbrev pub net_of : List ℕ → Option DefaultNet
net_of word =
    if bytes_eq (codes "wire") word then Some Wire else (if bytes_eq (codes "none") word then Some Nothing else None)

abbrev pub default_net_by : Option DefaultNet → ℕ → State → Step
default_net_by None at s = refused L2
default_net_by (Some net) at s = Ok (record s { setting = record s.setting { default_net = net } }, at)

abbrev pub net_word : List ℕ → List ℕ
net_word bytes = take (prefix_len is_name_byte bytes) bytes

abbrev pub default_nettype : ℕ → List ℕ → State → Step
default_nettype at bytes s =
    default_net_by (net_of (net_word (drop (gap_len bytes) bytes)))
    (at + gap_len bytes + prefix_len is_name_byte (drop (gap_len bytes) bytes)) s

-- `resetall, which keeps macros (19.6)
abbrev pub resetall : ℕ → State → Step
resetall at s = Ok (record s { setting = first_setting }, at)

-- A directive in text that is read, behind whose name, `at` bytes behind the backquote, these bytes stand
abbrev pub directed : Directive → ℕ → List ℕ → State → Step
directed directive.Define at bytes s = define at bytes s
directed directive.Undef at bytes s = undef at bytes s
directed directive.Ifdef at bytes s = ifdef true at bytes s
directed directive.Ifndef at bytes s = ifdef false at bytes s
directed directive.Elsif at bytes s = elsif at bytes s
directed directive.Else at bytes s = else_ at s
directed directive.Endif at bytes s = endif at s
directed directive.Timescale at bytes s = timescale at bytes s
directed directive.DefaultNettype at bytes s = default_nettype at bytes s
directed directive.Resetall at bytes s = resetall at s
directed directive.Other at bytes s = refused L2

-- A directive in skipped text, where only those of conditionals are seen (own; 19.4)
abbrev pub seen_directive : Directive → ℕ → List ℕ → State → Step
seen_directive directive.Ifdef at bytes s = ifdef true at bytes s
seen_directive directive.Ifndef at bytes s = ifdef false at bytes s
seen_directive directive.Elsif at bytes s = elsif at bytes s
seen_directive directive.Else at bytes s = else_ at s
seen_directive directive.Endif at bytes s = endif at s
seen_directive directive.Define at bytes s = Ok (s, at)
seen_directive directive.Undef at bytes s = Ok (s, at)
seen_directive directive.Timescale at bytes s = Ok (s, at)
seen_directive directive.DefaultNettype at bytes s = Ok (s, at)
seen_directive directive.Resetall at bytes s = Ok (s, at)
seen_directive directive.Other at bytes s = Ok (s, at)
