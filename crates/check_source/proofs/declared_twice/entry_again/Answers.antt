use Rattle.std.proofs.Common.{◌∙◌, ap, arith, map, sym, refl}
use Rattle.ilasm_grammar.specs.declared.productions.TheConstants.{ITEM_ENTRYPOINT}
use Rattle.source_model.specs.Forest.{first_token}
use Rattle.source_nodes.specs.Least.{least}
use Rattle.check_source.proofs.CensusLemmas.{none_behind}
use Rattle.check_source.proofs.declared_twice.entry_again.Goals as goal

pub returns : goal.returns
returns c s r census =
    let one = none_behind ITEM_ENTRYPOINT s.tree c.count-entries.result (c.count-entries.ensures ∙ census ITEM_ENTRYPOINT refl) (omega (arith, c.if-entries-gt1.false)) in
    ap (λ fs. least (map first_token fs)) (sym one)
