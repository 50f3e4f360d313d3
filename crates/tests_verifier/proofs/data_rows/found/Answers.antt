use Rattle.std.proofs.Common.{◌∙◌, sym}
use Rattle.ilasm_grammar.specs.Ilasm.{ilasm}
use Rattle.tests_verifier.proofs.data_rows.found.Goals as goal

pub faults_of-requires : goal.faults_of-requires
faults_of-requires c =
    let f = c.derivations_are_forests.ensures.some ilasm 0 _ _ c.in-Ok-parse.tree c.in-Ok-parse.ensures.tree in
    (f.0, f.1 ∙ sym c.as_slice-3.ensures)
