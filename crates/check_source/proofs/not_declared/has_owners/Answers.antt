use Rattle.std.proofs.Common.{◌∙◌, arith, refl}
use Rattle.ilasm_grammar.specs.declared.productions.TheConstants.{EVENT, PROPERTY}
use Rattle.check_source.proofs.CensusLemmas.{no_owners}
use Rattle.check_source.proofs.not_declared.has_owners.Goals as goal

pub returns : goal.returns
returns c nodes census quiet =
    let properties = c.count-properties.ensures ∙ census PROPERTY refl in
    let events = c.count-events.ensures ∙ census EVENT refl in
    no_owners nodes (omega (arith, properties, c.if-properties-gt0.false)) (omega (arith, events, c.if-events-gt0.false))
