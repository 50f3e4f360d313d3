use Rattle.std.proofs.Common.{◌≡◌, ◌∙◌, ap, sym, false, true, ◌||◌, not, rules}
use Rattle.std.specs.List.{list_any}
use Rattle.type_hierarchy.specs.Names.{same_text}
use Rattle.type_tables.proofs.NamingLemmas.{means_entry, means_itself}
use Rattle.type_tables.proofs.naming.Naming.scope_of.Goals as goal

pub returns-then-is_among : goal.returns-then-is_among
returns-then-is_among c = λ s ok.
    let n = c.args.self.now in
    let name = c.args.name.now in
    let from = c.args.from_image in
    let seen : not from ≡ false = search rules in
    let no : same_text name n.image ≡ false = ap (same_text name) (sym c.as_bytes.ensures) ∙ sym c.eq.ensures ∙ c.if-eq.false in
    let yes : list_any (same_text name) n.given ≡ true = ap (list_any (same_text name)) (sym c.as_slice.ensures) ∙ sym c.is_among.ensures ∙ c.if-is_among.true in
    c.entry_or-then-is_among.ensures s ok
    ∙ means_entry s n ok from c.args.itself name (sym c.is_core_name.ensures ∙ c.if-is_core_name.false) no (λ i. seen i || yes i)

pub returns-else-is_among : goal.returns-else-is_among
returns-else-is_among c = λ s ok.
    let n = c.args.self.now in
    let name = c.args.name.now in
    let from = c.args.from_image in
    let seen : not from ≡ false = search rules in
    let no : same_text name n.image ≡ false = ap (same_text name) (sym c.as_bytes.ensures) ∙ sym c.eq.ensures ∙ c.if-eq.false in
    let out : list_any (same_text name) n.given ≡ false = ap (list_any (same_text name)) (sym c.as_slice.ensures) ∙ sym c.is_among.ensures ∙ c.if-is_among.false in
    means_itself s n ok from c.args.itself name (sym c.is_core_name.ensures ∙ c.if-is_core_name.false) no (λ i. seen i || out i)
