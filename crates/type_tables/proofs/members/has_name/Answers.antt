use Rattle.std.proofs.Common.{◌≡◌, ◌∙◌, ap, sym, ℕ, true, get_or}
use Rattle.std.proofs.lemmas.List.Folds.{list_any_at}
use Rattle.type_tables.specs.Members.{assembly_of}
use Rattle.type_hierarchy.specs.Scopes.{sources, name_of}
use Rattle.type_hierarchy.specs.Names.{same_text}
use Rattle.type_tables.proofs.NamingLemmas.{any_map}
use Rattle.type_tables.proofs.members.has_name.Goals as goal

pub returns-then-eq : goal.returns-then-eq
returns-then-eq c =
    let s = sources c.args.image.now c.args.references.now in
    let name = c.args.name.now in
    let number = get_or c.args.numbers.now c.loop-number.number-index 0 in
    let here : same_text name (name_of (assembly_of s number)) ≡ true =
    ap (same_text name) (sym (c.as_bytes.ensures ∙ ap name_of c.assembly_of.ensures)) ∙ sym c.eq.ensures ∙ c.if-eq.true in
    sym (any_map (same_text name) (λ (n : ℕ). name_of (assembly_of s n)) c.args.numbers.now
    ∙ list_any_at (λ (n : ℕ). same_text name (name_of (assembly_of s n))) c.args.numbers.now c.loop-number.number-index 0 c.loop-number-test.true here)
