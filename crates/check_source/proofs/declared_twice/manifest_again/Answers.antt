use Rattle.std.proofs.Common.{◌++◌, ◌∙◌, ap, arith, map, sym, drop, refl}
use Rattle.ilasm_grammar.specs.declared.productions.TheConstants.{ASSEMBLY_ASSEMBLY_ATTR_STAR, DECL_MODULE}
use Rattle.source_model.specs.Forest.{each, leaf_at}
use Rattle.source_model.specs.Names.{assembly_token}
use Rattle.source_nodes.specs.Least.{least}
use Rattle.check_source.proofs.CensusLemmas.{none_behind}
use Rattle.check_source.proofs.declared_twice.manifest_again.Goals as goal

pub returns : goal.returns
returns c s r census =
    let one = none_behind ASSEMBLY_ASSEMBLY_ATTR_STAR s.tree c.count-assemblies.result
    (c.count-assemblies.ensures ∙ census ASSEMBLY_ASSEMBLY_ATTR_STAR refl) (omega (arith, c.if-assemblies-gt1.false)) in
    let two = none_behind DECL_MODULE s.tree c.count-modules.result (c.count-modules.ensures ∙ census DECL_MODULE refl) (omega (arith, c.if-modules-gt1.false)) in
    ap (λ fs. least (map (leaf_at 1) fs)) (sym two)
    ∙ ap (λ fs. least (map assembly_token fs ++ map (leaf_at 1) (drop 1 (each DECL_MODULE s.tree)))) (sym one)
