use Rattle.std.proofs.Common.{ap, sym, ◌∙◌}
use Rattle.ilasm_grammar.specs.declared.productions.TheConstants.{ASSEMBLY_ASSEMBLY_ATTR_STAR, DECL_MODULE}
use Rattle.source_nodes.specs.Least.{least, sooner}
use Rattle.check_visitor.specs.Picks.{picked_past}
use Rattle.check_visitor.specs.declared.repeats.Pick.TheVariants.{At}
use Rattle.source_syntax.proofs.LeastLemmas.{least_append}
use Rattle.check_visitor.proofs.repeats.manifest_twice.Goals as goal

pub returns : goal.returns
returns c s r =
    let names = picked_past (At 0) ASSEMBLY_ASSEMBLY_ATTR_STAR 1 s.tree in
    let modules = picked_past (At 1) DECL_MODULE 1 s.tree in
    c.sooner.ensures ∙ ap (λ o. sooner o c.first_of_parts-module.result) (c.first_of_parts-assembly.ensures s.tree r.nodes)
    ∙ ap (sooner (least names)) (c.first_of_parts-module.ensures s.tree r.nodes) ∙ sym (least_append names modules)
