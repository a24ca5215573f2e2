-- The reserved words and their keywords (IEEE 1364-2005, 3.7.2 and Annex B).
use Rattle.std.specs.Prelude.{ℕ, List, [], ◌∷◌, Option, codes, bytes_eq}
use Rattle.std.specs.List.{find}
use Rattle.std.specs.Option.{option_map}
use Rattle.vh_lex.specs.declared.keyword.Keyword.{Keyword}
use Rattle.vh_lex.specs.declared.keyword.Keyword.TheVariants as keyword

-- The word `module`, which stands alone, since it carries the settings where it stands
abbrev pub module_word : List ℕ
module_word = codes "module"

-- A spelling and its keyword, a row for each other reserved word (Annex B)
unfoldable pub keyword_rows : List (List ℕ × Keyword)
keyword_rows =
    (codes "always", keyword.Always) ∷
    (codes "and", keyword.And) ∷
    (codes "assign", keyword.Assign) ∷
    (codes "automatic", keyword.Automatic) ∷
    (codes "begin", keyword.Begin) ∷
    (codes "buf", keyword.Buf) ∷
    (codes "bufif0", keyword.Bufif0) ∷
    (codes "bufif1", keyword.Bufif1) ∷
    (codes "case", keyword.Case) ∷
    (codes "casex", keyword.Casex) ∷
    (codes "casez", keyword.Casez) ∷
    (codes "cell", keyword.Cell) ∷
    (codes "cmos", keyword.Cmos) ∷
    (codes "config", keyword.Config) ∷
    (codes "deassign", keyword.Deassign) ∷
    (codes "default", keyword.Default) ∷
    (codes "defparam", keyword.Defparam) ∷
    (codes "design", keyword.Design) ∷
    (codes "disable", keyword.Disable) ∷
    (codes "edge", keyword.Edge) ∷
    (codes "else", keyword.Else) ∷
    (codes "end", keyword.End) ∷
    (codes "endcase", keyword.Endcase) ∷
    (codes "endconfig", keyword.Endconfig) ∷
    (codes "endfunction", keyword.Endfunction) ∷
    (codes "endgenerate", keyword.Endgenerate) ∷
    (codes "endmodule", keyword.Endmodule) ∷
    (codes "endprimitive", keyword.Endprimitive) ∷
    (codes "endspecify", keyword.Endspecify) ∷
    (codes "endtable", keyword.Endtable) ∷
    (codes "endtask", keyword.Endtask) ∷
    (codes "event", keyword.Event) ∷
    (codes "for", keyword.For) ∷
    (codes "force", keyword.Force) ∷
    (codes "forever", keyword.Forever) ∷
    (codes "fork", keyword.Fork) ∷
    (codes "function", keyword.Function) ∷
    (codes "generate", keyword.Generate) ∷
    (codes "genvar", keyword.Genvar) ∷
    (codes "highz0", keyword.Highz0) ∷
    (codes "highz1", keyword.Highz1) ∷
    (codes "if", keyword.If) ∷
    (codes "ifnone", keyword.Ifnone) ∷
    (codes "incdir", keyword.Incdir) ∷
    (codes "include", keyword.Include) ∷
    (codes "initial", keyword.Initial) ∷
    (codes "inout", keyword.Inout) ∷
    (codes "input", keyword.Input) ∷
    (codes "instance", keyword.Instance) ∷
    (codes "integer", keyword.Integer) ∷
    (codes "join", keyword.Join) ∷
    (codes "large", keyword.Large) ∷
    (codes "liblist", keyword.Liblist) ∷
    (codes "library", keyword.Library) ∷
    (codes "localparam", keyword.Localparam) ∷
    (codes "macromodule", keyword.Macromodule) ∷
    (codes "medium", keyword.Medium) ∷
    (codes "nand", keyword.Nand) ∷
    (codes "negedge", keyword.Negedge) ∷
    (codes "nmos", keyword.Nmos) ∷
    (codes "nor", keyword.Nor) ∷
    (codes "noshowcancelled", keyword.Noshowcancelled) ∷
    (codes "not", keyword.Not) ∷
    (codes "notif0", keyword.Notif0) ∷
    (codes "notif1", keyword.Notif1) ∷
    (codes "or", keyword.Or) ∷
    (codes "output", keyword.Output) ∷
    (codes "parameter", keyword.Parameter) ∷
    (codes "pmos", keyword.Pmos) ∷
    (codes "posedge", keyword.Posedge) ∷
    (codes "primitive", keyword.Primitive) ∷
    (codes "pull0", keyword.Pull0) ∷
    (codes "pull1", keyword.Pull1) ∷
    (codes "pulldown", keyword.Pulldown) ∷
    (codes "pullup", keyword.Pullup) ∷
    (codes "pulsestyle_ondetect", keyword.PulsestyleOndetect) ∷
    (codes "pulsestyle_onevent", keyword.PulsestyleOnevent) ∷
    (codes "rcmos", keyword.Rcmos) ∷
    (codes "real", keyword.Real) ∷
    (codes "realtime", keyword.Realtime) ∷
    (codes "reg", keyword.Reg) ∷
    (codes "release", keyword.Release) ∷
    (codes "repeat", keyword.Repeat) ∷
    (codes "rnmos", keyword.Rnmos) ∷
    (codes "rpmos", keyword.Rpmos) ∷
    (codes "rtran", keyword.Rtran) ∷
    (codes "rtranif0", keyword.Rtranif0) ∷
    (codes "rtranif1", keyword.Rtranif1) ∷
    (codes "scalared", keyword.Scalared) ∷
    (codes "showcancelled", keyword.Showcancelled) ∷
    (codes "signed", keyword.Signed) ∷
    (codes "small", keyword.Small) ∷
    (codes "specify", keyword.Specify) ∷
    (codes "specparam", keyword.Specparam) ∷
    (codes "strong0", keyword.Strong0) ∷
    (codes "strong1", keyword.Strong1) ∷
    (codes "supply0", keyword.Supply0) ∷
    (codes "supply1", keyword.Supply1) ∷
    (codes "table", keyword.Table) ∷
    (codes "task", keyword.Task) ∷
    (codes "time", keyword.Time) ∷
    (codes "tran", keyword.Tran) ∷
    (codes "tranif0", keyword.Tranif0) ∷
    (codes "tranif1", keyword.Tranif1) ∷
    (codes "tri", keyword.Tri) ∷
    (codes "tri0", keyword.Tri0) ∷
    (codes "tri1", keyword.Tri1) ∷
    (codes "triand", keyword.Triand) ∷
    (codes "trior", keyword.Trior) ∷
    (codes "trireg", keyword.Trireg) ∷
    (codes "unsigned", keyword.Unsigned) ∷
    (codes "use", keyword.Use) ∷
    (codes "uwire", keyword.Uwire) ∷
    (codes "vectored", keyword.Vectored) ∷
    (codes "wait", keyword.Wait) ∷
    (codes "wand", keyword.Wand) ∷
    (codes "weak0", keyword.Weak0) ∷
    (codes "weak1", keyword.Weak1) ∷
    (codes "while", keyword.While) ∷
    (codes "wire", keyword.Wire) ∷
    (codes "wor", keyword.Wor) ∷
    (codes "xnor", keyword.Xnor) ∷
    (codes "xor", keyword.Xor) ∷
    []

-- The keyword that bytes spell, if they do (3.7.2)
abbrev pub keyword_of : List ℕ → Option Keyword
keyword_of bytes = option_map (λ row. row.1) (find (λ row. bytes_eq row.0 bytes) keyword_rows)
