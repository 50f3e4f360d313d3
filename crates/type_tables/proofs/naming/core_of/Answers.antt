use Rattle.std.proofs.Common.{◌∙◌, ap, sym}
use Rattle.assembly_tree.specs.declared.assembly.ExternAssembly.{ExternAssembly}
use Rattle.type_hierarchy.specs.Names.{is_core_name}
use Rattle.type_hierarchy.specs.Scopes.{extern_or_here}
use Rattle.type_tables.proofs.NamingLemmas.{position_map}
use Rattle.type_tables.proofs.naming.core_of.Goals as goal

pub returns-in-Some : goal.returns-in-Some
returns-in-Some c =
    ap extern_or_here (c.in-Some.ensures.first ∙ sym (position_map is_core_name (λ (e : ExternAssembly). e.name) c.args.image.now.externs))

pub returns-in-None : goal.returns-in-None
returns-in-None c =
    ap extern_or_here (c.in-None.ensures.first ∙ sym (position_map is_core_name (λ (e : ExternAssembly). e.name) c.args.image.now.externs))
