use Rattle.std.proofs.Common.{◌≡◌, ◌++◌, ◌∷◌, [], false, ◌∙◌, ap, sym, refl}
use Rattle.vh_design_systf.specs.Seen.{entries_seen}
use Rattle.vh_design_systf.specs.Table.{is_built_in, has_name}
use Rattle.vh_design_systf.proofs.TableLemmas.{one_more, kept_more, seen_more, with_new}
use Rattle.vh_design_systf.proofs.table.SystfTable.add.Goals as goal

pub invariant_of-self-2 : goal.invariant_of-self-2
invariant_of-self-2 c =
    let rows = c.self.inside.rows.entries in
    let name = c.in_ok-name.name in
    let copied = c.in_ok-copied.copied in
    let fresh : has_name name.items (entries_seen rows) ≡ false =
    ap (λ n. has_name n (entries_seen rows)) c.in_ok-name.ensures.items
    ∙ ap (has_name c.bytes-name.result.now) c.self.view_is
    ∙ sym c.has.ensures ∙ c.if-has.false in
    let are = one_more _ (λ x y. refl) rows c.insert.new.self.entries name copied c.self.invariant fresh
    c.in_ok-insert.ensures.entries in
    let named : name.items ≡ copied.name =
    c.in_ok-name.ensures.items ∙ c.bytes-name.ensures.text ∙ ap (λ e. e.name) (sym c.in_ok-copied.ensures) in
    kept_more rows c.insert.new.self.entries name copied c.self.invariant named
    (rw c.self.view_is c.requires) are

pub returns-clause-added : goal.returns-clause-added
returns-clause-added c =
    let rows = c.self.inside.rows.entries in
    let name = c.in_ok-name.name in
    let copied = c.in_ok-copied.copied in
    let entry = c.args.entry.now in
    let fresh : has_name name.items (entries_seen rows) ≡ false =
    ap (λ n. has_name n (entries_seen rows)) c.in_ok-name.ensures.items
    ∙ ap (has_name c.bytes-name.result.now) c.self.view_is
    ∙ sym c.has.ensures ∙ c.if-has.false in
    let are = one_more _ (λ x y. refl) rows c.insert.new.self.entries name copied c.self.invariant fresh
    c.in_ok-insert.ensures.entries in
    let ours : is_built_in entry.name ≡ false =
    ap is_built_in (sym c.bytes-name.ensures.text) ∙ sym c.is_built_in.ensures ∙ c.if-is_built_in.false in
    let new : has_name entry.name c.args.self.now ≡ false =
    ap (λ n. has_name n c.args.self.now) (sym c.bytes-name.ensures.text) ∙ sym c.has.ensures ∙ c.if-has.false in
    ap entries_seen are ∙ seen_more rows name copied
    ∙ ap (λ table. table ++ copied ∷ []) c.self.view_is
    ∙ ap (λ e. c.args.self.now ++ e ∷ []) c.in_ok-copied.ensures
    ∙ sym (with_new c.args.self.now entry ours new)
