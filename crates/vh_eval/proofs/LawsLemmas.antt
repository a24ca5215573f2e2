-- Lemmas on `specs/Laws.antt`: the value of a kind is the same by any two ways to value the expressions before it.
use Rattle.std.proofs.Common.{◌≡◌, ◌∙◌, ◌<◌, ◌&&◌, ℕ, List, [], ◌∷◌, length, Bool, true, false, if◌then◌else◌, max, nat_lt, Option, None, Some, refl, sym, ap, arith}
use Rattle.std.proofs.lemmas.Bool.{ltb-true}
use Rattle.std.proofs.lemmas.Option.{slice_get_within}
use Rattle.vh_logic.specs.declared.digits.Digit.{Digit}
use Rattle.vh_logic.specs.Vector.{Vector}
use Rattle.vh_logic.specs.Number.{integer_of}
use Rattle.vh_logic.specs.Parts.{resized, concatenation}
use Rattle.vh_logic.specs.Reduce.{truth_of}
use Rattle.vh_design_nodes.specs.declared.expr.Arithmetic.{Arithmetic}
use Rattle.vh_design_nodes.specs.declared.expr.Access.TheVariants as access
use Rattle.vh_design_nodes.specs.declared.expr.Comparison.{Comparison}
use Rattle.vh_design_nodes.specs.declared.expr.ExprKind.{ExprKind}
use Rattle.vh_design_nodes.specs.declared.expr.ExprKind.TheVariants as kind
use Rattle.vh_design_nodes.specs.declared.expr.ExprNode.{ExprNode}
use Rattle.vh_design_nodes.specs.declared.expr.Link.{Link}
use Rattle.vh_design_nodes.specs.declared.expr.Logic.{Logic}
use Rattle.vh_design_nodes.specs.declared.expr.Select.{Select}
use Rattle.vh_design_nodes.specs.declared.expr.Select.TheVariants as select
use Rattle.vh_design_nodes.specs.declared.expr.Selected.{Selected}
use Rattle.vh_design_nodes.specs.declared.expr.Shift.{Shift}
use Rattle.vh_design_nodes.specs.Fits.{all_before, fits_word, fits_select, fits_selected, fits_kind, has_kind}
use Rattle.vh_design_nodes.specs.Kinds.{is_memory}
use Rattle.vh_design_nodes.specs.Widths.{width_of, signed_of, operands, is_reduction}
use Rattle.vh_design_nodes.proofs.FitsLemmas.{and_left, and_right}
use Rattle.vh_design.specs.Shape.{Shape}
use Rattle.vh_design.proofs.ValidityLemmas.{node_kind}
use Rattle.vh_store.specs.Contents.{Contents}
use Rattle.vh_eval.specs.Laws.{HasValueOfParts}
use Rattle.vh_eval.specs.Operators.{of_digit, reduction, signed_of as sign_changed, arithmetic_of, shift_of, comparison_of, logic_of, choice_of, times}
use Rattle.vh_eval.specs.Selects.{selected, address_of}
use Rattle.vh_eval.specs.Value.{Valuation, value_below, value_of, node_value, kind_value, alone, word_or_x, chosen_at, select_value, selected_value, arithmetic_chain, shift_chain, compared, comparison_chain, compared_all, logic_chain, joined}
use Rattle.vh_eval.proofs.ValueLemmas.{value_step}

-- Two ways to value agree on what stands before an expression.
abbrev Agree : Valuation → Valuation → ℕ → Type 0
Agree p q e = (x w : ℕ) (g : Bool) → x < e → p x w g ≡ q x w g

alone_same : (p q : Valuation) (ns : List ExprNode) (e x : ℕ) → Agree p q e → x < e → alone p ns x ≡ alone q ns x
alone_same p q ns e x agree before = agree x (width_of ns x) (signed_of ns x) before

head_before : (e x : ℕ) (rest : Bool) → (nat_lt x e && rest) ≡ true → x < e
head_before e x rest h = ltb-true x e (and_left (nat_lt x e) rest h)

arithmetic_same : (p q : Valuation) (e w : ℕ) (g : Bool) (v : Vector) (ls : List (Link Arithmetic)) → Agree p q e
    → all_before e (operands ls) ≡ true → arithmetic_chain p w g v ls ≡ arithmetic_chain q w g v ls
arithmetic_same p q e w g v [] agree h = refl
arithmetic_same p q e w g v (l ∷ ls) agree h =
    ap (λ (x : Vector). arithmetic_chain p w g (arithmetic_of l.op v x) ls) (agree l.part w g (head_before e l.part (all_before e (operands ls)) h))
    ∙ arithmetic_same p q e w g (arithmetic_of l.op v (q l.part w g)) ls agree (and_right (nat_lt l.part e) (all_before e (operands ls)) h)

shift_same : (p q : Valuation) (ns : List ExprNode) (e : ℕ) (v : Vector) (ls : List (Link Shift)) → Agree p q e
    → all_before e (operands ls) ≡ true → shift_chain p ns v ls ≡ shift_chain q ns v ls
shift_same p q ns e v [] agree h = refl
shift_same p q ns e v (l ∷ ls) agree h =
    ap (λ (x : Vector). shift_chain p ns (shift_of l.op v x) ls) (alone_same p q ns e l.part agree (head_before e l.part (all_before e (operands ls)) h))
    ∙ shift_same p q ns e (shift_of l.op v (alone q ns l.part)) ls agree (and_right (nat_lt l.part e) (all_before e (operands ls)) h)

comparison_same : (p q : Valuation) (ns : List ExprNode) (e : ℕ) (d : Digit) (ls : List (Link Comparison)) → Agree p q e
    → all_before e (operands ls) ≡ true → comparison_chain p ns d ls ≡ comparison_chain q ns d ls
comparison_same p q ns e d [] agree h = refl
comparison_same p q ns e d (l ∷ ls) agree h =
    ap (λ (x : Vector). comparison_chain p ns (comparison_of l.op (resized (of_digit d) (width_of ns l.part) false) x) ls)
    (agree l.part (width_of ns l.part) false (head_before e l.part (all_before e (operands ls)) h))
    ∙ comparison_same p q ns e (comparison_of l.op (resized (of_digit d) (width_of ns l.part) false) (q l.part (width_of ns l.part) false)) ls agree
    (and_right (nat_lt l.part e) (all_before e (operands ls)) h)

compared_same : (p q : Valuation) (ns : List ExprNode) (e a b : ℕ) (op : Comparison) → Agree p q e → a < e → b < e
    → compared p ns a op b ≡ compared q ns a op b
compared_same p q ns e a b op agree before after =
    let w : ℕ = max (width_of ns a) (width_of ns b) in
    let g : Bool = signed_of ns a && signed_of ns b in
    ap (λ (x : Vector). comparison_of op x (p b w g)) (agree a w g before)
    ∙ ap (λ (x : Vector). comparison_of op (q a w g) x) (agree b w g after)

comparisons_same : (p q : Valuation) (ns : List ExprNode) (e first : ℕ) (ls : List (Link Comparison)) → Agree p q e
    → (nat_lt first e && all_before e (operands ls)) ≡ true → compared_all p ns first ls ≡ compared_all q ns first ls
comparisons_same p q ns e first [] agree h = ap truth_of (alone_same p q ns e first agree (head_before e first true h))
comparisons_same p q ns e first (l ∷ ls) agree h =
    let rest = and_right (nat_lt first e) (all_before e (operands (l ∷ ls))) h in
    ap (λ (d : Digit). comparison_chain p ns d ls)
    (compared_same p q ns e first l.part l.op agree (head_before e first (all_before e (operands (l ∷ ls))) h)
    (head_before e l.part (all_before e (operands ls)) rest))
    ∙ comparison_same p q ns e (compared q ns first l.op l.part) ls agree (and_right (nat_lt l.part e) (all_before e (operands ls)) rest)

logic_same : (p q : Valuation) (ns : List ExprNode) (e : ℕ) (d : Digit) (ls : List (Link Logic)) → Agree p q e
    → all_before e (operands ls) ≡ true → logic_chain p ns d ls ≡ logic_chain q ns d ls
logic_same p q ns e d [] agree h = refl
logic_same p q ns e d (l ∷ ls) agree h =
    ap (λ (x : Vector). logic_chain p ns (logic_of l.op d (truth_of x)) ls) (alone_same p q ns e l.part agree (head_before e l.part (all_before e (operands ls)) h))
    ∙ logic_same p q ns e (logic_of l.op d (truth_of (alone q ns l.part))) ls agree (and_right (nat_lt l.part e) (all_before e (operands ls)) h)

joined_same : (p q : Valuation) (ns : List ExprNode) (e : ℕ) (v : Vector) (es : List ℕ) → Agree p q e
    → all_before e es ≡ true → joined p ns v es ≡ joined q ns v es
joined_same p q ns e v [] agree h = refl
joined_same p q ns e v (x ∷ xs) agree h =
    ap (λ (y : Vector). joined p ns (concatenation v y) xs) (alone_same p q ns e x agree (head_before e x (all_before e xs) h))
    ∙ joined_same p q ns e (concatenation v (alone q ns x)) xs agree (and_right (nat_lt x e) (all_before e xs) h)

chosen_at_same : (p q : Valuation) (d : Shape) (s : Contents) (e o : ℕ) (word : Option ℕ) → Agree p q e
    → fits_word d.objects e access.Read o word ≡ true → chosen_at p d s o word ≡ chosen_at q d s o word
chosen_at_same p q d s e o None agree h = refl
chosen_at_same p q d s e o (Some at) agree h =
    ap (λ (v : Vector). word_or_x (address_of (integer_of v)) d.objects s o)
    (alone_same p q d.exprs e at agree (ltb-true at e (and_right (has_kind is_memory d.objects o) (nat_lt at e) h)))

select_same : (p q : Valuation) (ns : List ExprNode) (e : ℕ) (v : Vector) (x : Select) → Agree p q e
    → fits_select e x ≡ true → select_value p ns v x ≡ select_value q ns v x
select_same p q ns e v select.Whole agree h = refl
select_same p q ns e v (select.Bit range index) agree h =
    ap (λ (i : Vector). selected v.digits range true (integer_of i) 1)
    (alone_same p q ns e index agree (ltb-true index e h))
select_same p q ns e v (select.Slice range lowest width) agree h = refl
select_same p q ns e v (select.Indexed up range base width) agree h =
    ap (λ (i : Vector). selected v.digits range up (integer_of i) width)
    (alone_same p q ns e base agree (ltb-true base e h))

selected_same : (p q : Valuation) (d : Shape) (s : Contents) (e : ℕ) (x : Selected) → Agree p q e
    → fits_selected d.objects e access.Read x ≡ true → selected_value p d s x ≡ selected_value q d s x
selected_same p q d s e x agree h =
    let word = fits_word d.objects e access.Read x.of.object x.of.word in
    ap (λ (v : Vector). select_value p d.exprs v x.select)
    (chosen_at_same p q d s e x.of.object x.of.word agree (and_left word (fits_select e x.select) h))
    ∙ select_same p q d.exprs e (chosen_at q d s x.of.object x.of.word) x.select agree
    (and_right word (fits_select e x.select) h)

kind_same : (p q : Valuation) (d : Shape) (s : Contents) (e : ℕ) (k : ExprKind) (w : ℕ) (g : Bool) → Agree p q e
    → fits_kind d.objects d.precision e k ≡ true → kind_value p d s e k w g ≡ kind_value q d s e k w g
kind_same p q d s e (kind.Literal v) w g agree h = refl
kind_same p q d s e (kind.Selected x) w g agree h =
    ap (λ (v : Vector). resized v w g) (selected_same p q d s e x agree h)
kind_same p q d s e (kind.Unary op a) w g agree h =
    ap (λ (v : Vector). if is_reduction op then resized (of_digit (reduction op v)) w g else sign_changed op (p a w g))
    (alone_same p q d.exprs e a agree (ltb-true a e h))
    ∙ ap (λ (v : Vector). if is_reduction op then resized (of_digit (reduction op (alone q d.exprs a))) w g else sign_changed op v)
    (agree a w g (ltb-true a e h))
kind_same p q d s e (kind.Arithmetic first rest) w g agree h =
    ap (λ (v : Vector). arithmetic_chain p w g v rest) (agree first w g (head_before e first (all_before e (operands rest)) h))
    ∙ arithmetic_same p q e w g (q first w g) rest agree (and_right (nat_lt first e) (all_before e (operands rest)) h)
kind_same p q d s e (kind.Shift first rest) w g agree h =
    ap (λ (v : Vector). shift_chain p d.exprs v rest) (agree first w g (head_before e first (all_before e (operands rest)) h))
    ∙ shift_same p q d.exprs e (q first w g) rest agree (and_right (nat_lt first e) (all_before e (operands rest)) h)
kind_same p q d s e (kind.Comparison first rest) w g agree h =
    ap (λ (x : Digit). resized (of_digit x) w g) (comparisons_same p q d.exprs e first rest agree h)
kind_same p q d s e (kind.Logic first rest) w g agree h =
    ap (λ (v : Vector). resized (of_digit (logic_chain p d.exprs (truth_of v) rest)) w g)
    (alone_same p q d.exprs e first agree (head_before e first (all_before e (operands rest)) h))
    ∙ ap (λ (x : Digit). resized (of_digit x) w g)
    (logic_same p q d.exprs e (truth_of (alone q d.exprs first)) rest agree (and_right (nat_lt first e) (all_before e (operands rest)) h))
kind_same p q d s e (kind.Choice condition a b) w g agree h =
    let both = and_left (nat_lt condition e && nat_lt a e) (nat_lt b e) h in
    ap (λ (v : Vector). choice_of (truth_of v) (p a w g) (p b w g))
    (alone_same p q d.exprs e condition agree (ltb-true condition e (and_left (nat_lt condition e) (nat_lt a e) both)))
    ∙ ap (λ (v : Vector). choice_of (truth_of (alone q d.exprs condition)) v (p b w g))
    (agree a w g (ltb-true a e (and_right (nat_lt condition e) (nat_lt a e) both)))
    ∙ ap (λ (v : Vector). choice_of (truth_of (alone q d.exprs condition)) (q a w g) v)
    (agree b w g (ltb-true b e (and_right (nat_lt condition e && nat_lt a e) (nat_lt b e) h)))
kind_same p q d s e (kind.Join first rest) w g agree h =
    ap (λ (v : Vector). resized (joined p d.exprs v rest) w g) (alone_same p q d.exprs e first agree (head_before e first (all_before e rest) h))
    ∙ ap (λ (v : Vector). resized v w g)
    (joined_same p q d.exprs e (alone q d.exprs first) rest agree (and_right (nat_lt first e) (all_before e rest) h))
kind_same p q d s e (kind.Repeat count a) w g agree h =
    ap (λ (v : Vector). resized (record { digits = times count v.digits; signed = false }) w g) (alone_same p q d.exprs e a agree (ltb-true a e h))
kind_same p q d s e (kind.WithSign a signed) w g agree h =
    ap (λ (v : Vector). resized (record v { signed = signed }) w g) (alone_same p q d.exprs e a agree (ltb-true a e h))
kind_same p q d s e (kind.Time unit) w g agree h = refl
kind_same p q d s e (kind.Call function result arguments) w g agree h = refl
kind_same p q d s e (kind.SysCall o) w g agree h = refl

pub has_value_of_parts : HasValueOfParts
has_value_of_parts d s e n w g valid at =
    let inside : e < length d.exprs = slice_get_within d.exprs e n at in
    let agree : Agree (value_below e d s) (value_of d s) e =
    λ x width sign before.
    value_step e d s x width sign before ∙ sym (value_step (length d.exprs) d s x width sign (omega arith)) in
    value_step (length d.exprs) d s e w g inside
    ∙ ap (λ (o : Option ExprNode). node_value (value_below e d s) d s e o w g) at
    ∙ kind_same (value_below e d s) (value_of d s) d s e n.kind w g agree (node_kind d e n (valid.nodes.exprs e n at))
