-- What is no construct comes to nothing.
use Rattle.std.proofs.Common.{◌≡◌, ◌∙◌, ℕ, Bool, true, false, ◌||◌, List, [], ◌∷◌, None, ap, sym, refl}
use Rattle.std.specs.Prelude.{if◌then◌else◌}
use Rattle.std.specs.List.{list_any}
use Rattle.vh_ast.specs.Items.{ItemTree, item, plain_item, generate_word, endgenerate_word, for_item, if_item, items, ModuleTree}
use Rattle.vh_elab_sites.specs.Blocks.{BlockText}
use Rattle.vh_elab_declare.specs.Constants.{Home}
use Rattle.vh_elab_unroll.specs.Constructs.{Unrolling, come_to, module_known, nothing_unrolled, unrolled, free_text, is_construct, is_full, item_unrolled, items_unrolled, most_zeros, number_behind}

pub plain-unrolled : (h : Home) (m : ModuleTree) (scope : ℕ) (t : BlockText) (i : ItemTree) (u : Unrolling)
    → is_construct i ≡ false → item_unrolled h m scope t i u ≡ u
plain-unrolled h m scope t (item place (plain_item form)) u none = refl
plain-unrolled h m scope t (item place generate_word) u none = refl
plain-unrolled h m scope t (item place endgenerate_word) u none = refl
plain-unrolled h m scope t (item place (for_item start test step body)) u none = absurd (cc)
plain-unrolled h m scope t (item place (if_item test first other)) u none = absurd (cc)

neither-one : (a b : Bool) → (a || b) ≡ false → (a ≡ false) × (b ≡ false)
neither-one true b none = absurd (cc)
neither-one false b none = (refl, none)

kept : (b : Bool) (u x : Unrolling) → x ≡ u → (if b then u else x) ≡ u
kept true u x same = refl
kept false u x same = same

pub nothing-unrolled : (h : Home) (m : ModuleTree) (scope n : ℕ) (all : List ItemTree) (u : Unrolling)
    → list_any is_construct all ≡ false → items_unrolled h m scope n (items all) u ≡ u
nothing-unrolled h m scope n [] u none = refl
nothing-unrolled h m scope n (i ∷ all) u none =
    let two = neither-one (is_construct i) (list_any is_construct all) none in
    kept (is_full u) u _
    (ap (items_unrolled h m scope (number_behind n i) (items all))
    (plain-unrolled h m scope (free_text most_zeros u.known.names scope 0 n) i u two.0)
    ∙ nothing-unrolled h m scope (number_behind n i) all u two.1)

-- A module without one comes to nothing.
pub nothing-comes : (h : Home) (m : ModuleTree) → list_any is_construct m.items ≡ false
    → record { choices = []; fault = None; passed = false } ≡ unrolled h m
nothing-comes h m none = ap come_to (sym (nothing-unrolled h m 0 1 m.items (nothing_unrolled (module_known h m)) none))
