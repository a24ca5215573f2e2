-- Lemmas on `specs/Positions.antt`: a tree that counts its instructions has so many, and its code goes on at its own positions.
use Rattle.std.proofs.Common.{◌≡◌, ◌∙◌, ℕ, ◌+◌, ◌-◌, ◌<◌, ◌≤◌, ◌==◌, Bool, true, false, ◌&&◌, if◌then◌else◌, List, [], ◌∷◌, ◌++◌, length, map, Option, None, Some, refl, ap, arith, ltb}
use Rattle.std.specs.List.{list_all, enumerate_from}
use Rattle.std.proofs.lemmas.Bool.{ltb-true, lt-ltb, eqb-false}
use Rattle.std.proofs.lemmas.List.{length_push}
use Rattle.std.proofs.lemmas.List.Folds.{list_all-append}
use Rattle.vh_design_nodes.specs.Fits.{before}
use Rattle.vh_design_code.specs.declared.code.Block.{Block}
use Rattle.vh_design_code.specs.declared.code.Goes.{Goes}
use Rattle.vh_design_code.specs.declared.code.Goes.TheVariants as goes
use Rattle.vh_design_code.specs.declared.code.Instruction.{Instruction}
use Rattle.vh_design_code.specs.declared.operation.Arm.{Arm}
use Rattle.vh_design_code.specs.declared.operation.Operation.{Operation}
use Rattle.vh_design_code.specs.declared.operation.Operation.TheVariants as op
use Rattle.vh_design_code.specs.Operations.{fits_goes}
use Rattle.vh_lower_flow.specs.declared.code_kind.CodeKind.{CodeKind}
use Rattle.vh_lower_flow.specs.declared.code_kind.CodeKind.TheVariants as of
use Rattle.vh_lower_flow.specs.declared.flow.Gate.{Gate}
use Rattle.vh_lower_flow.specs.declared.flow.Gate.TheVariants as gate
use Rattle.vh_lower_flow.specs.declared.flow.Origin.{Origin}
use Rattle.vh_lower_flow.specs.Trees.{FlowTree, flow, FormTree, step, row, choice, turns, case_of, block, fork, Flows, no_flow, one_flow, CaseItems, no_item, one_item, size_of, row_size, items_size, branches_size, instructions_in}
use Rattle.vh_lower_flow.specs.Laid.{Laid, empty, position_in, with_instruction, with_block, instruction_of, start_at, gate_of, arm_to, arms_from, case_test, branches_from, end_of, with_choice, with_case, with_fork, laid, form_laid, row_laid, items_laid, branches_laid, code_from, turn_of, code_of}
use Rattle.vh_lower_flow.specs.Positions.{operation_within, instruction_within, block_within, blocks_within, is_closed, is_plain, IsMeasured, FormMeasured, AllMeasured, ItemsMeasured}

-- One instruction more.
one-more : (so : Laid) (i : Instruction) → position_in (with_instruction i so) ≡ position_in so + 1
one-more so i = length_push so.instructions i

mutual
  -- A statement has as many instructions as it says.
  pub laid-count : (f : FlowTree) (after : Goes) (inner : Option ℕ) (so : Laid) → IsMeasured f
      → position_in (laid f after inner so) ≡ position_in so + size_of f
  laid-count (flow n form) after inner so h =
      let e = form-count form n after inner so h.1 in omega (arith, h.0)

  form-count : (form : FormTree) (n : ℕ) (after : Goes) (inner : Option ℕ) (so : Laid) → FormMeasured form
      → position_in (form_laid n form after inner so) ≡ position_in so + instructions_in form
  form-count (step s) n after inner so h = one-more so _
  form-count (row fs) n after inner so h = row-count fs n after inner so h
  form-count (choice g m a b) n after inner so h =
      let first = with_choice g m (size_of a) (size_of b) after inner so in
      let one = one-more so (instruction_of (gate_of g (start_at (position_in so + 1 + size_of a) (size_of b) after)) m (start_at (position_in so + 1) (size_of a) after) inner) in
      let holds = laid-count a after inner first h.0 in
      let fails = laid-count b after inner (laid a after inner first) h.1 in
      omega arith
  form-count (turns body g m) n after inner so h =
      let inside = laid-count body (goes.To (position_in so + size_of body)) inner so h in
      let one = one-more (laid body (goes.To (position_in so + size_of body)) inner so) (instruction_of (gate_of g after) m (goes.To (position_in so)) inner) in
      omega arith
  form-count (case_of c m is default) n after inner so h =
      let first = with_case c m is (size_of default) after inner so in
      let one = one-more so (instruction_of (op.Case (case_test c (arms_from (position_in so + 1) after is))) m (start_at (position_in so + 1 + items_size is) (size_of default) after) inner) in
      let all = items-count is after inner first h.0 in
      let last = laid-count default after inner (items_laid is after inner first) h.1 in
      omega arith
  form-count (block o body) n after inner so h = laid-count body after (Some (length so.blocks)) (with_block o inner after so) h
  form-count (fork m branches) n after inner so h =
      let one = one-more so (instruction_of (op.Fork (branches_from (position_in so + 1) branches)) m after inner) in
      let all = branches-count branches (with_fork m branches after inner so) h in
      omega arith

  row-count : (fs : Flows) (n : ℕ) (after : Goes) (inner : Option ℕ) (so : Laid) → AllMeasured fs
      → position_in (row_laid n fs after inner so) ≡ position_in so + row_size fs
  row-count no_flow n after inner so h = omega arith
  row-count (one_flow f fs) n after inner so h =
      let to = start_at (position_in so + size_of f) (n - size_of f) after in
      let one = laid-count f to inner so h.0 in
      let more = row-count fs (n - size_of f) after inner (laid f to inner so) h.1 in
      omega arith

  items-count : (is : CaseItems) (after : Goes) (inner : Option ℕ) (so : Laid) → ItemsMeasured is
      → position_in (items_laid is after inner so) ≡ position_in so + items_size is
  items-count no_item after inner so h = omega arith
  items-count (one_item matched f is) after inner so h =
      let one = laid-count f after inner so h.0 in
      let more = items-count is after inner (laid f after inner so) h.1 in
      omega arith

  branches-count : (fs : Flows) (so : Laid) → AllMeasured fs → position_in (branches_laid fs so) ≡ position_in so + branches_size fs
  branches-count no_flow so h = omega arith
  branches-count (one_flow f fs) so h =
      let to = goes.To (position_in so + size_of f) in
      let one = laid-count f to None so h.0 in
      let end = one-more (laid f to None so) end_of in
      let more = branches-count fs (with_instruction end_of (laid f to None so)) h.1 in
      omega arith

-- Blocks are only added.
mutual
  pub laid-grows : (f : FlowTree) (after : Goes) (inner : Option ℕ) (so : Laid)
      → length so.blocks ≤ length (laid f after inner so).blocks
  laid-grows (flow n form) after inner so = form-grows form n after inner so

  form-grows : (form : FormTree) (n : ℕ) (after : Goes) (inner : Option ℕ) (so : Laid)
      → length so.blocks ≤ length (form_laid n form after inner so).blocks
  form-grows (step s) n after inner so = omega arith
  form-grows (row fs) n after inner so = row-grows fs n after inner so
  form-grows (choice g m a b) n after inner so =
      let first = with_choice g m (size_of a) (size_of b) after inner so in
      let holds = laid-grows a after inner first in
      let fails = laid-grows b after inner (laid a after inner first) in
      omega arith
  form-grows (turns body g m) n after inner so = laid-grows body (goes.To (position_in so + size_of body)) inner so
  form-grows (case_of c m is default) n after inner so =
      let first = with_case c m is (size_of default) after inner so in
      let all = items-grow is after inner first in
      let last = laid-grows default after inner (items_laid is after inner first) in
      omega arith
  form-grows (block o body) n after inner so =
      let one = length_push so.blocks (record { object = o; around = inner; after = after }) in
      let inside = laid-grows body after (Some (length so.blocks)) (with_block o inner after so) in
      omega arith
  form-grows (fork m branches) n after inner so = branches-grow branches (with_fork m branches after inner so)

  row-grows : (fs : Flows) (n : ℕ) (after : Goes) (inner : Option ℕ) (so : Laid)
      → length so.blocks ≤ length (row_laid n fs after inner so).blocks
  row-grows no_flow n after inner so = omega arith
  row-grows (one_flow f fs) n after inner so =
      let to = start_at (position_in so + size_of f) (n - size_of f) after in
      let one = laid-grows f to inner so in
      let more = row-grows fs (n - size_of f) after inner (laid f to inner so) in
      omega arith

  items-grow : (is : CaseItems) (after : Goes) (inner : Option ℕ) (so : Laid)
      → length so.blocks ≤ length (items_laid is after inner so).blocks
  items-grow no_item after inner so = omega arith
  items-grow (one_item matched f is) after inner so =
      let one = laid-grows f after inner so in
      let more = items-grow is after inner (laid f after inner so) in
      omega arith

  branches-grow : (fs : Flows) (so : Laid) → length so.blocks ≤ length (branches_laid fs so).blocks
  branches-grow no_flow so = omega arith
  branches-grow (one_flow f fs) so =
      let to = goes.To (position_in so + size_of f) in
      let one = laid-grows f to None so in
      let more = branches-grow fs (with_instruction end_of (laid f to None so)) in
      omega arith

-- Of two things both.
both : {a b : Bool} → a ≡ true → b ≡ true → (a && b) ≡ true
both p q = rw (p, q) refl

-- What holds of all of a list and of one more.
all-push : {A : Type 0} (p : A → Bool) (xs : List A) (x : A) → list_all p xs ≡ true → p x ≡ true
    → list_all p (xs ++ x ∷ []) ≡ true
all-push p xs x h k = list_all-append p xs (x ∷ []) ∙ both h (both k refl)

all-both : {A : Type 0} (p : A → Bool) (xs ys : List A) → list_all p xs ≡ true → list_all p ys ≡ true
    → list_all p (xs ++ ys) ≡ true
all-both p xs ys h k = list_all-append p xs ys ∙ both h k

enumerate-push : {A : Type 0} (k n : ℕ) (xs : List A) (x : A) → k + length xs ≡ n
    → enumerate_from k (xs ++ x ∷ []) ≡ enumerate_from k xs ++ (n, x) ∷ []
enumerate-push k n [] x is = ap (λ m. (m, x) ∷ []) (omega arith)
enumerate-push k n (y ∷ xs) x is = ap (λ l. (k, y) ∷ l) (enumerate-push (k + 1) n xs x (omega arith))

-- Numbers.
before-more : (m n : ℕ) (o : Option ℕ) → m ≤ n → before m o ≡ true → before n o ≡ true
before-more m n None le h = refl
before-more m n (Some k) le h = lt-ltb k n (omega (arith, ltb-true k m h))

-- A code so far that goes on at so many positions alone, in so many blocks.
record IsWithin (n b : ℕ) (so : Laid) : Type 0 where
  instructions : list_all (instruction_within n b) so.instructions ≡ true
  blocks : blocks_within n so.blocks ≡ true

-- An instruction more, and a block more.
with-more : (n b : ℕ) (so : Laid) (i : Instruction) → instruction_within n b i ≡ true → IsWithin n b so
    → IsWithin n b (with_instruction i so)
with-more n b so i h w = record {
  instructions = all-push (instruction_within n b) so.instructions i w.instructions h;
  blocks = w.blocks;
}

instruction-within : (n b : ℕ) (operation : Operation) (m : Origin) (next : Goes) (inner : Option ℕ)
    → operation_within n operation ≡ true → fits_goes n next ≡ true → before b inner ≡ true
    → instruction_within n b (instruction_of operation m next inner) ≡ true
instruction-within n b operation m next inner h k l = both (both h k) l

with-block : (n b : ℕ) (so : Laid) (o : ℕ) (around : Option ℕ) (after : Goes) → before (length so.blocks) around ≡ true
    → fits_goes n after ≡ true → IsWithin n b so → IsWithin n b (with_block o around after so)
with-block n b so o around after h k w =
    let x : Block = record { object = o; around = around; after = after } in
    record {
      instructions = w.instructions;
      blocks =
          ap (list_all (λ p. block_within n p.0 p.1)) (enumerate-push 0 (length so.blocks) so.blocks x (omega arith))
          ∙ all-push (λ p. block_within n p.0 p.1) (enumerate_from 0 so.blocks) (length so.blocks, x) w.blocks (both h k);
    }

-- Positions.
to-within : (n position : ℕ) → position < n → fits_goes n (goes.To position) ≡ true
to-within n position h = lt-ltb position n h

start-within : (n position size : ℕ) (after : Goes) → position + size ≤ n → fits_goes n after ≡ true
    → fits_goes n (start_at position size after) ≡ true
start-within n position size after h k = by (size == 0) refl
  where
    by : (b : Bool) → (size == 0) ≡ b → fits_goes n (if b then after else goes.To position) ≡ true
    by true e = k
    by false e = to-within n position (omega (arith, eqb-false size 0 e))

gate-within : (n : ℕ) (g : Gate) (otherwise : Goes) → fits_goes n otherwise ≡ true
    → operation_within n (gate_of g otherwise) ≡ true
gate-within n (gate.Test condition) otherwise h = h
gate-within n (gate.Repeat count) otherwise h = h
gate-within n gate.Again otherwise h = h
gate-within n gate.Turn otherwise h = refl

arms-to : (n : ℕ) (to : Goes) (matched : List ℕ) → fits_goes n to ≡ true
    → list_all (λ (a : Arm). fits_goes n a.to) (map (arm_to to) matched) ≡ true
arms-to n to [] h = refl
arms-to n to (l ∷ matched) h = both h (arms-to n to matched h)

arms-within : (n position : ℕ) (after : Goes) (is : CaseItems) → position + items_size is ≤ n → fits_goes n after ≡ true
    → list_all (λ (a : Arm). fits_goes n a.to) (arms_from position after is) ≡ true
arms-within n position after no_item h k = refl
arms-within n position after (one_item matched f is) h k =
    all-both (λ (a : Arm). fits_goes n a.to) (map (arm_to (start_at position (size_of f) after)) matched) (arms_from (position + size_of f) after is)
    (arms-to n (start_at position (size_of f) after) matched (start-within n position (size_of f) after (omega arith) k))
    (arms-within n (position + size_of f) after is (omega arith) k)

branches-within : (n position : ℕ) (fs : Flows) → position + branches_size fs ≤ n
    → list_all (λ b. ltb b n) (branches_from position fs) ≡ true
branches-within n position no_flow h = refl
branches-within n position (one_flow f fs) h =
    both (lt-ltb position n (omega arith)) (branches-within n (position + size_of f + 1) fs (omega arith))

plain-within : (n : ℕ) (o : Operation) → is_plain o ≡ true → operation_within n o ≡ true
plain-within n (op.Assign value targets) h = refl
plain-within n (op.Hold value width delay) h = refl
plain-within n (op.Store targets) h = refl
plain-within n (op.Schedule s) h = refl
plain-within n (op.Pause p) h = refl
plain-within n (op.Test condition otherwise) h = cc
plain-within n (op.Case c) h = cc
plain-within n (op.Loop t) h = cc
plain-within n (op.Fork branches) h = cc
plain-within n op.End h = refl
plain-within n (op.Enter routine inputs) h = refl
plain-within n (op.Leave e) h = refl
plain-within n (op.SysCall o) h = refl
plain-within n (op.SysFunc o) h = refl
plain-within n (op.Single s) h = refl
plain-within n (op.Drive d) h = refl
plain-within n (op.Initial o value) h = refl

-- What a statement is laid in: room for its instructions and blocks, a position behind it, and the block around it.
record IsRoom (n b positions blocks : ℕ) (after : Goes) (inner : Option ℕ) (so : Laid) : Type 0 where
  positions_in : position_in so + positions ≤ n
  blocks_in : blocks ≤ b
  behind : fits_goes n after ≡ true
  around : before (length so.blocks) inner ≡ true
  within : IsWithin n b so

mutual
  laid-within : (n b : ℕ) (f : FlowTree) (after : Goes) (inner : Option ℕ) (so : Laid) → IsMeasured f
      → IsRoom n b (size_of f) (length (laid f after inner so).blocks) after inner so
      → IsWithin n b (laid f after inner so)
  laid-within n b (flow k form) after inner so h r =
      form-within n b form k after inner so h.0 h.1 (record {
        positions_in = omega (arith, h.0, r.positions_in);
        blocks_in = r.blocks_in;
        behind = r.behind;
        around = r.around;
        within = r.within;
      })

  form-within : (n b : ℕ) (form : FormTree) (k : ℕ) (after : Goes) (inner : Option ℕ) (so : Laid) → k ≡ instructions_in form
      → FormMeasured form → IsRoom n b (instructions_in form) (length (form_laid k form after inner so).blocks) after inner so
      → IsWithin n b (form_laid k form after inner so)
  form-within n b (step s) k after inner so is h r =
      with-more n b so (instruction_of s.operation s.origin after inner)
      (instruction-within n b s.operation s.origin after inner (plain-within n s.operation h) r.behind
      (before-more (length so.blocks) b inner r.blocks_in r.around)) r.within
  form-within n b (row fs) k after inner so is h r = row-within n b fs k after inner so is h r
  form-within n b (choice g m x y) k after inner so is h r =
      let first = with_choice g m (size_of x) (size_of y) after inner so in
      let position = position_in so + 1 in
      let operation = gate_of g (start_at (position + size_of x) (size_of y) after) in
      let next = start_at position (size_of x) after in
      let one = one-more so (instruction_of operation m next inner) in
      let more = laid-count x after inner first h.0 in
      let grows = laid-grows x after inner first in
      let grows_more = laid-grows y after inner (laid x after inner first) in
      let here = with-more n b so (instruction_of operation m next inner)
      (instruction-within n b operation m next inner
      (gate-within n g (start_at (position + size_of x) (size_of y) after) (start-within n (position + size_of x) (size_of y) after (omega (arith, r.positions_in)) r.behind))
      (start-within n position (size_of x) after (omega (arith, r.positions_in)) r.behind)
      (before-more (length so.blocks) b inner (omega (arith, r.blocks_in)) r.around)) r.within in
      laid-within n b y after inner (laid x after inner first) h.1 (record {
        positions_in = omega (arith, r.positions_in);
        blocks_in = r.blocks_in;
        behind = r.behind;
        around = before-more (length so.blocks) (length (laid x after inner first).blocks) inner grows r.around;
        within = laid-within n b x after inner first h.0 (record {
          positions_in = omega (arith, r.positions_in);
          blocks_in = omega (arith, r.blocks_in);
          behind = r.behind;
          around = r.around;
          within = here;
        });
      })
  form-within n b (turns body g m) k after inner so is h r =
      let end = goes.To (position_in so + size_of body) in
      let grows = laid-grows body end inner so in
      with-more n b (laid body end inner so) (instruction_of (gate_of g after) m (goes.To (position_in so)) inner)
      (instruction-within n b (gate_of g after) m (goes.To (position_in so)) inner (gate-within n g after r.behind)
      (to-within n (position_in so) (omega (arith, r.positions_in)))
      (before-more (length so.blocks) b inner (omega (arith, r.blocks_in)) r.around))
      (laid-within n b body end inner so h (record {
        positions_in = omega (arith, r.positions_in);
        blocks_in = r.blocks_in;
        behind = to-within n (position_in so + size_of body) (omega (arith, r.positions_in));
        around = r.around;
        within = r.within;
      }))
  form-within n b (case_of c m items default) k after inner so is h r =
      let first = with_case c m items (size_of default) after inner so in
      let position = position_in so + 1 in
      let operation = op.Case (case_test c (arms_from position after items)) in
      let next = start_at (position + items_size items) (size_of default) after in
      let one = one-more so (instruction_of operation m next inner) in
      let more = items-count items after inner first h.0 in
      let grows = items-grow items after inner first in
      let grows_more = laid-grows default after inner (items_laid items after inner first) in
      let here = with-more n b so (instruction_of operation m next inner)
      (instruction-within n b operation m next inner
      (arms-within n position after items (omega (arith, r.positions_in)) r.behind)
      (start-within n (position + items_size items) (size_of default) after (omega (arith, r.positions_in)) r.behind)
      (before-more (length so.blocks) b inner (omega (arith, r.blocks_in)) r.around)) r.within in
      laid-within n b default after inner (items_laid items after inner first) h.1 (record {
        positions_in = omega (arith, r.positions_in);
        blocks_in = r.blocks_in;
        behind = r.behind;
        around = before-more (length so.blocks) (length (items_laid items after inner first).blocks) inner grows r.around;
        within = items-within n b items after inner first h.0 (record {
          positions_in = omega (arith, r.positions_in);
          blocks_in = omega (arith, r.blocks_in);
          behind = r.behind;
          around = r.around;
          within = here;
        });
      })
  form-within n b (block o body) k after inner so is h r =
      let inside = with_block o inner after so in
      let one = length_push so.blocks (record { object = o; around = inner; after = after }) in
      laid-within n b body after (Some (length so.blocks)) inside h (record {
        positions_in = r.positions_in;
        blocks_in = r.blocks_in;
        behind = r.behind;
        around = lt-ltb (length so.blocks) (length inside.blocks) (omega arith);
        within = with-block n b so o inner after r.around r.behind r.within;
      })
  form-within n b (fork m branches) k after inner so is h r =
      let position = position_in so + 1 in
      let operation = op.Fork (branches_from position branches) in
      let first = with_fork m branches after inner so in
      let one = one-more so (instruction_of operation m after inner) in
      let grows = branches-grow branches first in
      branches-laid-within n b branches first h (omega (arith, r.positions_in)) r.blocks_in
      (with-more n b so (instruction_of operation m after inner)
      (instruction-within n b operation m after inner (branches-within n position branches (omega (arith, r.positions_in))) r.behind
      (before-more (length so.blocks) b inner (omega (arith, r.blocks_in)) r.around)) r.within)

  row-within : (n b : ℕ) (fs : Flows) (k : ℕ) (after : Goes) (inner : Option ℕ) (so : Laid) → k ≡ row_size fs
      → AllMeasured fs → IsRoom n b (row_size fs) (length (row_laid k fs after inner so).blocks) after inner so
      → IsWithin n b (row_laid k fs after inner so)
  row-within n b no_flow k after inner so is h r = r.within
  row-within n b (one_flow f fs) k after inner so is h r =
      let rest = k - size_of f in
      let left : rest ≡ row_size fs = omega arith in
      let to = start_at (position_in so + size_of f) rest after in
      let more = laid-count f to inner so h.0 in
      let grows = laid-grows f to inner so in
      let grows_more = row-grows fs rest after inner (laid f to inner so) in
      row-within n b fs rest after inner (laid f to inner so) left h.1 (record {
        positions_in = omega (arith, r.positions_in);
        blocks_in = r.blocks_in;
        behind = r.behind;
        around = before-more (length so.blocks) (length (laid f to inner so).blocks) inner grows r.around;
        within = laid-within n b f to inner so h.0 (record {
          positions_in = omega (arith, r.positions_in);
          blocks_in = omega (arith, r.blocks_in);
          behind = start-within n (position_in so + size_of f) rest after (omega (arith, r.positions_in)) r.behind;
          around = r.around;
          within = r.within;
        });
      })

  items-within : (n b : ℕ) (is : CaseItems) (after : Goes) (inner : Option ℕ) (so : Laid) → ItemsMeasured is
      → IsRoom n b (items_size is) (length (items_laid is after inner so).blocks) after inner so
      → IsWithin n b (items_laid is after inner so)
  items-within n b no_item after inner so h r = r.within
  items-within n b (one_item matched f is) after inner so h r =
      let more = laid-count f after inner so h.0 in
      let grows = laid-grows f after inner so in
      let grows_more = items-grow is after inner (laid f after inner so) in
      items-within n b is after inner (laid f after inner so) h.1 (record {
        positions_in = omega (arith, r.positions_in);
        blocks_in = r.blocks_in;
        behind = r.behind;
        around = before-more (length so.blocks) (length (laid f after inner so).blocks) inner grows r.around;
        within = laid-within n b f after inner so h.0 (record {
          positions_in = omega (arith, r.positions_in);
          blocks_in = omega (arith, r.blocks_in);
          behind = r.behind;
          around = r.around;
          within = r.within;
        });
      })

  branches-laid-within : (n b : ℕ) (fs : Flows) (so : Laid) → AllMeasured fs → position_in so + branches_size fs ≤ n
      → length (branches_laid fs so).blocks ≤ b → IsWithin n b so → IsWithin n b (branches_laid fs so)
  branches-laid-within n b no_flow so h room blocks w = w
  branches-laid-within n b (one_flow f fs) so h room blocks w =
      let to = goes.To (position_in so + size_of f) in
      let inside = laid f to None so in
      let more = laid-count f to None so h.0 in
      let one = one-more inside end_of in
      let grows = laid-grows f to None so in
      let grows_more = branches-grow fs (with_instruction end_of inside) in
      branches-laid-within n b fs (with_instruction end_of inside) h.1 (omega arith) blocks
      (with-more n b inside end_of refl
      (laid-within n b f to None so h.0 (record {
        positions_in = omega arith;
        blocks_in = omega arith;
        behind = to-within n (position_in so + size_of f) (omega arith);
        around = refl;
        within = w;
      })))

closed-by : (start : Goes) (so : Laid) → fits_goes (position_in so) start ≡ true
    → IsWithin (position_in so) (length so.blocks) so → is_closed (code_from start so) ≡ true
closed-by start so h w = both (both h w.instructions) w.blocks

none-within : (n b : ℕ) → IsWithin n b empty
none-within n b = record { instructions = refl; blocks = refl }

-- A statement laid by itself, which goes on there.
alone-within : (n b : ℕ) (f : FlowTree) (after : Goes) → IsMeasured f → size_of f ≤ n → fits_goes n after ≡ true
    → length (laid f after None empty).blocks ≤ b → IsWithin n b (laid f after None empty)
alone-within n b f after h room behind blocks =
    laid-within n b f after None empty h (record {
      positions_in = omega arith;
      blocks_in = blocks;
      behind = behind;
      around = refl;
      within = none-within n b;
    })

body-closed : (f : FlowTree) (after : Goes) → IsMeasured f → ((n : ℕ) → size_of f ≤ n → fits_goes n after ≡ true)
    → is_closed (code_from (start_at 0 (size_of f) goes.Back) (laid f after None empty)) ≡ true
body-closed f after h behind =
    let so = laid f after None empty in
    let e = laid-count f after None empty h in
    closed-by (start_at 0 (size_of f) goes.Back) so (start-within (position_in so) 0 (size_of f) goes.Back (omega arith) refl)
    (alone-within (position_in so) (length so.blocks) f after h (omega arith) (behind (position_in so) (omega arith)) (omega arith))

-- The code of a tree that counts its instructions goes on at its own positions alone.
pub code-closed : (kind : CodeKind) (f : FlowTree) → IsMeasured f → is_closed (code_of kind f) ≡ true
code-closed of.Initial f h =
    let end = goes.To (size_of f) in
    let inside = laid f end None empty in
    let so = with_instruction end_of inside in
    let e = laid-count f end None empty h in
    let one = one-more inside end_of in
    closed-by (goes.To 0) so (to-within (position_in so) 0 (omega arith))
    (with-more (position_in so) (length so.blocks) inside end_of refl
    (alone-within (position_in so) (length so.blocks) f end h (omega arith) (to-within (position_in so) (size_of f) (omega arith)) (omega arith)))
code-closed of.Always f h =
    let begun = with_instruction (turn_of (size_of f)) empty in
    let so = laid f (goes.To 0) None begun in
    let e = laid-count f (goes.To 0) None begun h in
    closed-by (goes.To 0) so (to-within (position_in so) 0 (omega arith))
    (laid-within (position_in so) (length so.blocks) f (goes.To 0) None begun h (record {
      positions_in = omega arith;
      blocks_in = omega arith;
      behind = to-within (position_in so) 0 (omega arith);
      around = refl;
      within = with-more (position_in so) (length so.blocks) empty (turn_of (size_of f))
          (both (both refl (start-within (position_in so) 1 (size_of f) (goes.To 0) (omega arith) (to-within (position_in so) 0 (omega arith)))) refl)
          (none-within (position_in so) (length so.blocks));
    }))
code-closed of.Body f h = body-closed f goes.Back h (λ n le. refl)
code-closed of.Value f h = body-closed f goes.Back h (λ n le. refl)
code-closed of.Assign f h =
    body-closed f (start_at 0 (size_of f) goes.Back) h (λ n le. start-within n 0 (size_of f) goes.Back (omega arith) refl)
