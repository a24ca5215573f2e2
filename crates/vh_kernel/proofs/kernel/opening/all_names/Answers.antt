use Rattle.std.proofs.Common.{◌≡◌, ◌∙◌, ◌++◌, ◌∷◌, [], ℕ, List, Option, Some, slice_get, unwrap_or, sym, ap}
use Rattle.std.specs.Option.{option_map}
use Rattle.vh_design_names.specs.Names.{full_name}
use Rattle.vh_design_nodes.specs.declared.object.Kind.{Kind}
use Rattle.vh_design_nodes.specs.declared.object.Kind.TheVariants as of
use Rattle.vh_design_nodes.specs.declared.object.ObjectInfo.{ObjectInfo}
use Rattle.vh_orders.specs.declared.names.Named.{Named}
use Rattle.vh_design_nodes.specs.Fits.{lowest_of}
use Rattle.vh_orders.specs.Names.{named_at, kind_at, lowest_at, words_at}
use Rattle.vh_kernel.proofs.Opening.{map-more}
use Rattle.vh_kernel.proofs.kernel.opening.all_names.Goals as goal

named : (x y : List ℕ) (k l : Kind) (a b v w : ℕ) → x ≡ y → k ≡ l → a ≡ b → v ≡ w
    → (let n : Named = record { name = x; kind = k; lowest = a; words = v } in n)
    ≡ (let n : Named = record { name = y; kind = l; lowest = b; words = w } in n)
named x y k l a b v w one two three four = λ i. record { name = one i; kind = two i; lowest = three i; words = four i }

pub loop-o-preserved : goal.loop-o-preserved
loop-o-preserved c =
    let os = c.args.d.now.objects in let o = c.loop-o.o in
    let name = c.in_ok-full_name.ensures ∙ ap (full_name os) c.new-object.ensures in
    let found : slice_get os o ≡ Some c.object-info.result.now = ap (slice_get os) (sym c.new-object.ensures) ∙ c.object-info.ensures.value in
    let kind : c.object-info.result.now.kind ≡ kind_at os o =
    sym (ap (λ (i : Option ObjectInfo). unwrap_or (option_map (λ x. x.kind) i) of.Operation) found) in
    let lowest : c.lowest_of.result ≡ lowest_at os o =
    c.lowest_of.ensures ∙ sym (ap (λ (i : Option ObjectInfo). unwrap_or (option_map (λ x. lowest_of x.detail) i) 0) found) in
    let words : c.object-info.result.now.words ≡ words_at os o =
    sym (ap (λ (i : Option ObjectInfo). unwrap_or (option_map (λ x. x.words) i) 0) found) in
    c.in_ok-push.ensures.items
    ∙ ap (λ (n : Named). c.loop-o.names.items ++ n ∷ []) (named _ _ _ _ _ _ _ _ name kind lowest words)
    ∙ ap (λ (ns : List Named). ns ++ named_at os o ∷ []) c.loop-o.invariant
    ∙ sym (map-more (named_at os) o)
