use Rattle.std.proofs.Common.{◌∙◌, List, ℕ, None, ap, map, sym}
use Rattle.vh_ast.specs.Views.{module_tree}
use Rattle.vh_elab_modules.specs.Modules.{holdings, twice_from}
use Rattle.vh_elab_modules.specs.Numbers.{numbered}
use Rattle.vh_elab_modules.specs.Views.{holdings_seen}
use Rattle.vh_elab_modules.proofs.ModulesLemmas.{cycle-same, later-found, later-none}
use Rattle.vh_elab_modules.proofs.top.later_fault.Goals as goal

pub returns-in-Some : goal.returns-in-Some
returns-in-Some c =
    let ms = map module_tree c.args.modules.now in
    let is = c.requires.numbered ∙ ap (λ (ns : List (List ℕ)). map (numbered ns) (holdings ms)) c.requires.named in
    sym (later-found ms c.in_ok-fault.field-0 c.in-Some.fault
    (cycle-same ms (holdings_seen c.args.graph.now) c.in_ok-fault.field-0 is c.in_ok-fault.ensures) c.in-Some.is)

pub returns : goal.returns
returns c =
    let ms = map module_tree c.args.modules.now in
    let is = c.requires.numbered ∙ ap (λ (ns : List (List ℕ)). map (numbered ns) (holdings ms)) c.requires.named in
    let none = later-none ms c.in_ok-fault.field-0
    (cycle-same ms (holdings_seen c.args.graph.now) c.in_ok-fault.field-0 is c.in_ok-fault.ensures) c.in_default.is in
    c.twice_fault.ensures ∙ ap (λ (ns : List (List ℕ)). twice_from ns 0 ms None) c.requires.named ∙ sym none
