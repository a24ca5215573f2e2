-- Worked rows, computed by the definitions alone.
use Rattle.std.proofs.Common.{◌≡◌, ℕ, List, [], ◌∷◌, ◌++◌, length, Some, None, refl}
use Rattle.std.specs.Prelude.{codes}
use Rattle.std.specs.Fmt.{digits}
use Rattle.vh_base.specs.declared.first.First.{First}
use Rattle.vh_base.specs.declared.first.FirstCode.{FirstCode}
use Rattle.vh_base.specs.declared.first.FirstCode.TheVariants as code
use Rattle.vh_base.specs.declared.first.FirstBit.TheVariants as bit
use Rattle.vh_base.specs.declared.words.Reason.{Reason}
use Rattle.vh_base.specs.declared.words.Reason.TheVariants as reason
use Rattle.vh_app.specs.Layout.{script_laid}
use Rattle.vh_app.specs.Script.{ScriptData}
use Rattle.vh_app_script.specs.Tree as tree
use Rattle.vh_kernel_laws.proofs.Openings.{opening}
use Rattle.vh_kernel_choice.specs.declared.chooser.Chooser.TheVariants.{Fifo}
use Rattle.vh_kernel.specs.Run.{moves_of, text_of}
use Rattle.vh_proc_assign.specs.Assigned.{with_pieces, made_in_turn}
use Rattle.vh_proc_assign.specs.Pieces.{digits_of as target_digits, pieces_of}
use Rattle.vh_display.specs.Calls.{arguments_text}
use Rattle.vh_display.specs.Formats.{front}
use Rattle.vh_eval.specs.Value.{value_below}
use Rattle.vh_design_first.specs.Designs.{instructions_of, codes_of}
use Rattle.vh_logic.specs.Number.{number_of}
use Rattle.vh_logic.specs.Planes.{digits_of as plane_digits}
use Rattle.vh_logic.specs.Vector.{map_digits, zip_digits, all_positions}
use Rattle.vh_design_names.specs.Names.{scopes_below, dotted}
use Rattle.vh_sense.specs.Reads.{reads_below}
use Rattle.vh_proc_simulation.specs.Entries.{all_woken, all_entered}
use Rattle.vh_proc_simulation.specs.Follows.{all_followed}
use Rattle.vh_text.specs.Texts.{groups_text}
use Rattle.vh_proc_thread.specs.Blocks.{block_below}
use Rattle.vh_proc_thread.specs.Control.{gone}

-- A design called top.
design : List (List ℕ) → List (List FirstCode) → First
design regs blocks = record { name = codes "top"; regs = regs; blocks = blocks }

-- Module top; reg a; initial begin a = 1; #3 $display("hi"); $finish; end endmodule
says_hi : text_of (moves_of Fifo 100 (opening (design (codes "a" ∷ [])
    ((code.Assign 0 bit.One ∷ code.Wait 3 ∷ code.Show (codes "hi") ∷ code.Finish ∷ []) ∷ [])) []))
    ≡ codes "3 out \"hi\\n\"\n3 end finish\n"
unfolding design digits with_pieces made_in_turn target_digits pieces_of arguments_text front value_below instructions_of codes_of number_of plane_digits map_digits zip_digits all_positions scopes_below dotted all_woken all_entered all_followed reads_below groups_text block_below gone
says_hi = refl

-- Module top; initial #2 $display("b"); initial #1 $display("a"); endmodule
by_time : text_of (moves_of Fifo 100 (opening (design []
    ((code.Wait 2 ∷ code.Show (codes "b") ∷ []) ∷ (code.Wait 1 ∷ code.Show (codes "a") ∷ []) ∷ [])) []))
    ≡ codes "1 out \"a\\n\"\n2 out \"b\\n\"\n2 end none\n"
unfolding design digits with_pieces made_in_turn target_digits pieces_of arguments_text front value_below instructions_of codes_of number_of plane_digits map_digits zip_digits all_positions scopes_below dotted all_woken all_entered all_followed reads_below groups_text block_below gone
by_time = refl

-- Module top; initial begin end endmodule
nothing_to_do : text_of (moves_of Fifo 100 (opening (design [] ([] ∷ [])) [])) ≡ codes "0 end none\n"
unfolding design digits with_pieces made_in_turn target_digits pieces_of arguments_text front value_below instructions_of codes_of number_of plane_digits map_digits zip_digits all_positions scopes_below dotted all_woken all_entered all_followed reads_below groups_text block_below gone
nothing_to_do = refl

-- It has four labels: pick, the process's end, finish, end.
four_labels : length (moves_of Fifo 100 (opening (design [] ([] ∷ [])) [])) ≡ 4
unfolding design digits with_pieces made_in_turn target_digits pieces_of arguments_text front value_below instructions_of codes_of number_of plane_digits map_digits zip_digits all_positions scopes_below dotted all_woken all_entered all_followed reads_below groups_text block_below gone
four_labels = refl

-- Module top; initial begin #1; #1; $finish; end endmodule
ten_labels : length (moves_of Fifo 100 (opening (design [] ((code.Wait 1 ∷ code.Wait 1 ∷ code.Finish ∷ []) ∷ [])) [])) ≡ 10
unfolding design digits with_pieces made_in_turn target_digits pieces_of arguments_text front value_below instructions_of codes_of number_of plane_digits map_digits zip_digits all_positions scopes_below dotted all_woken all_entered all_followed reads_below groups_text block_below gone
ten_labels = refl

finishes_at_two : text_of (moves_of Fifo 100 (opening (design [] ((code.Wait 1 ∷ code.Wait 1 ∷ code.Finish ∷ []) ∷ [])) []))
    ≡ codes "2 end finish\n"
unfolding design digits with_pieces made_in_turn target_digits pieces_of arguments_text front value_below instructions_of codes_of number_of plane_digits map_digits zip_digits all_positions scopes_below dotted all_woken all_entered all_followed reads_below groups_text block_below gone
finishes_at_two = refl

-- A script called a.
script : List (List ℕ) → List tree.Order → List tree.Procedure → ScriptData
script variables startup procedures =
    script_laid (record { name = codes "a"; variables = variables; startup = startup; procedures = procedures })

procedure : List ℕ → List tree.Command → tree.Procedure
procedure name commands = record { name = name; commands = commands }

-- An order alone, and one whose answer goes to a variable.
order : tree.Order → tree.Command
order o = tree.ask None o

set : ℕ → tree.Order → tree.Command
set variable o = tree.ask (Some variable) o

-- Orders.
registers : Reason → tree.Atom → List ℕ → ℕ → tree.Order
registers reason object name n = tree.register reason object (tree.number 0) (tree.proc name) (tree.number n)

finds : List ℕ → tree.Order
finds path = tree.by_name (tree.text path) tree.null

prints : List ℕ → tree.Order
prints text = tree.print (tree.text text)

-- App a; startup { register cbEndOfSimulation null 0 proc bye 7; } proc bye { print "bye"; }
says_bye : ScriptData
says_bye = script [] (registers reason.CbEndOfSimulation tree.null (codes "bye") 7 ∷ [])
    (procedure (codes "bye") (order (prints (codes "bye")) ∷ []) ∷ [])

-- Module top; initial begin end endmodule
bye : text_of (moves_of Fifo 100 (opening (design [] ([] ∷ [])) (says_bye ∷ [])))
    ≡ codes "0 startup a\n"
    ++ codes "0 do s1 register cbEndOfSimulation null 0 proc a.bye 7 => h0\n"
    ++ codes "0 occ 1 cbEndOfSimulation -\n"
    ++ codes "0 fire 1 c1\n"
    ++ codes "0 do c1 print \"bye\" => ok\n"
    ++ codes "0 done 1\n"
    ++ codes "0 end none\n"
unfolding design digits with_pieces made_in_turn target_digits pieces_of arguments_text front value_below instructions_of codes_of number_of plane_digits map_digits zip_digits all_positions scopes_below dotted all_woken all_entered all_followed reads_below groups_text block_below gone says_bye script procedure order registers prints
bye = refl

-- The first lines, where a startup registers a procedure for the end of compilation.
head : List ℕ
head =
    codes "0 startup a\n"
    ++ codes "0 do s1 register cbEndOfCompile null 0 proc a.init 0 => h0\n"
    ++ codes "0 occ 1 cbEndOfCompile -\n"
    ++ codes "0 fire 1 c1\n"

-- Module top; reg r; initial begin #1 r = 0; #1 r = 1; end endmodule
changes_twice : First
changes_twice = design (codes "r" ∷ []) ((code.Wait 1 ∷ code.Assign 0 bit.Zero ∷ code.Wait 1 ∷ code.Assign 0 bit.One ∷ []) ∷ [])

-- App a; var r, one, two; startup { register cbEndOfCompile null 0 proc init 0; }
-- proc init { r = by_name "top.r" null; one = register cbValueChange r 0 proc p1 1; two = register cbValueChange r 0 proc p2 2; }
-- proc p1 { remove me; print "rest"; } proc p2 { print "p2"; }
removes_itself : ScriptData
removes_itself = script (codes "r" ∷ codes "one" ∷ codes "two" ∷ [])
    (registers reason.CbEndOfCompile tree.null (codes "init") 0 ∷ []) (
    procedure (codes "init") (
    set 0 (finds (codes "top.r"))
    ∷ set 1 (registers reason.CbValueChange (tree.variable 0) (codes "p1") 1)
    ∷ set 2 (registers reason.CbValueChange (tree.variable 0) (codes "p2") 2)
    ∷ []
    )
    ∷ procedure (codes "p1") (order (tree.remove tree.me) ∷ order (prints (codes "rest")) ∷ [])
    ∷ procedure (codes "p2") (order (prints (codes "p2")) ∷ [])
    ∷ []
    )

goes_on_without : text_of (moves_of Fifo 100 (opening changes_twice (removes_itself ∷ [])))
    ≡ head
    ++ codes "0 do c1 by_name \"top.r\" null => h1\n"
    ++ codes "0 do c1 register cbValueChange h1 0 proc a.p1 1 => h2\n"
    ++ codes "0 do c1 register cbValueChange h1 0 proc a.p2 2 => h3\n"
    ++ codes "0 done 1\n"
    ++ codes "1 occ 2 cbValueChange top.r\n"
    ++ codes "1 fire 2 c2\n"
    ++ codes "1 do c2 remove h2 => 1\n"
    ++ codes "1 do c2 print \"rest\" => ok\n"
    ++ codes "1 fire 2 c3\n"
    ++ codes "1 do c3 print \"p2\" => ok\n"
    ++ codes "1 done 2\n"
    ++ codes "2 occ 3 cbValueChange top.r\n"
    ++ codes "2 fire 3 c3\n"
    ++ codes "2 do c3 print \"p2\" => ok\n"
    ++ codes "2 done 3\n"
    ++ codes "2 end none\n"
unfolding design digits with_pieces made_in_turn target_digits pieces_of arguments_text front value_below instructions_of codes_of number_of plane_digits map_digits zip_digits all_positions scopes_below dotted all_woken all_entered all_followed reads_below groups_text block_below gone script procedure order set registers finds prints head changes_twice removes_itself
goes_on_without = refl

-- App a; var r, one, two, three, x; startup { register cbEndOfCompile null 0 proc init 0; }
-- proc init {
--   r = by_name "top.r" null;
--   one = register cbValueChange r 0 proc p1 1; two = register cbValueChange r 0 proc p2 2; three = register cbValueChange r 0 proc p3 3;
-- }
-- proc p1 { remove two; x = register cbValueChange r 0 proc p4 4; }
-- proc p2 { print "p2"; } proc p3 { print "p3"; } proc p4 { print "p4"; }
removes_another : ScriptData
removes_another = script (codes "r" ∷ codes "one" ∷ codes "two" ∷ codes "three" ∷ codes "x" ∷ [])
    (registers reason.CbEndOfCompile tree.null (codes "init") 0 ∷ []) (
    procedure (codes "init") (
    set 0 (finds (codes "top.r"))
    ∷ set 1 (registers reason.CbValueChange (tree.variable 0) (codes "p1") 1)
    ∷ set 2 (registers reason.CbValueChange (tree.variable 0) (codes "p2") 2)
    ∷ set 3 (registers reason.CbValueChange (tree.variable 0) (codes "p3") 3)
    ∷ []
    )
    ∷ procedure (codes "p1") (
    order (tree.remove (tree.variable 2))
    ∷ set 4 (registers reason.CbValueChange (tree.variable 0) (codes "p4") 4)
    ∷ []
    )
    ∷ procedure (codes "p2") (order (prints (codes "p2")) ∷ [])
    ∷ procedure (codes "p3") (order (prints (codes "p3")) ∷ [])
    ∷ procedure (codes "p4") (order (prints (codes "p4")) ∷ [])
    ∷ []
    )

fires_what_is_left : text_of (moves_of Fifo 100 (opening changes_twice (removes_another ∷ [])))
    ≡ head
    ++ codes "0 do c1 by_name \"top.r\" null => h1\n"
    ++ codes "0 do c1 register cbValueChange h1 0 proc a.p1 1 => h2\n"
    ++ codes "0 do c1 register cbValueChange h1 0 proc a.p2 2 => h3\n"
    ++ codes "0 do c1 register cbValueChange h1 0 proc a.p3 3 => h4\n"
    ++ codes "0 done 1\n"
    ++ codes "1 occ 2 cbValueChange top.r\n"
    ++ codes "1 fire 2 c2\n"
    ++ codes "1 do c2 remove h3 => 1\n"
    ++ codes "1 do c2 register cbValueChange h1 0 proc a.p4 4 => h5\n"
    ++ codes "1 fire 2 c4\n"
    ++ codes "1 do c4 print \"p3\" => ok\n"
    ++ codes "1 done 2\n"
    ++ codes "2 occ 3 cbValueChange top.r\n"
    ++ codes "2 fire 3 c2\n"
    ++ codes "2 do c2 remove h3 => E1\n"
    ++ codes "2 do c2 register cbValueChange h1 0 proc a.p4 4 => h6\n"
    ++ codes "2 fire 3 c4\n"
    ++ codes "2 do c4 print \"p3\" => ok\n"
    ++ codes "2 fire 3 c5\n"
    ++ codes "2 do c5 print \"p4\" => ok\n"
    ++ codes "2 done 3\n"
    ++ codes "2 end none\n"
unfolding design digits with_pieces made_in_turn target_digits pieces_of arguments_text front value_below instructions_of codes_of number_of plane_digits map_digits zip_digits all_positions scopes_below dotted all_woken all_entered all_followed reads_below groups_text block_below gone script procedure order set registers finds prints head changes_twice removes_another
fires_what_is_left = refl
