use Rattle.std.proofs.Common.{◌∙◌, sym, refl}
use Rattle.ilasm_grammar.specs.declared.productions.TheConstants.{AT_NAME}
use Rattle.check_data.proofs.FieldLemmas.{faults_of_all}
use Rattle.check_data.proofs.Unmapped.{no_data}
use Rattle.check_source.proofs.CensusLemmas.{has_none}
use Rattle.check_source.proofs.out_of_bounds.mapped_faults.Goals as goal

pub returns-then-mapped-eq0 : goal.returns-then-mapped-eq0
returns-then-mapped-eq0 c s r d =
    faults_of_all s c.no_faults.result
    (no_data s c.no_faults.result (has_none AT_NAME s.tree (sym c.if-mapped-eq0.true ∙ c.count-mapped.ensures ∙ d.census AT_NAME refl)) c.no_faults.ensures.short c.no_faults.ensures.without_size)

pub returns : goal.returns
returns c s r d = c.in_ok-faults.ensures s r d.externs d.classes d.labels
