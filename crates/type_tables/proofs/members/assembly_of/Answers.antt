use Rattle.std.proofs.Common.{◌∙◌, ap, sym, ◌-◌}
use Rattle.std.specs.Prelude.{unwrap_or}
use Rattle.std.proofs.lemmas.Option.{unwrap_or-slice_get}
use Rattle.type_hierarchy.specs.Scopes.{sources}
use Rattle.type_tables.proofs.NamingLemmas.{assembly_at}
use Rattle.type_tables.proofs.members.assembly_of.Goals as goal

pub returns-in-None : goal.returns-in-None
returns-in-None c =
    let image = c.args.image.now in
    let references = c.args.references.now in
    let number = c.args.number in
    ap (λ o. unwrap_or o image) c.in-None.ensures ∙ unwrap_or-slice_get references (number - 1) image
    ∙ sym (assembly_at (sources image references) number c.if-number-eq0.false)
