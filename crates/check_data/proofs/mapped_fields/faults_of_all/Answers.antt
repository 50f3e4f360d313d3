use Rattle.source_model.specs.Nodes.{nothing_around}
use Rattle.check_data.proofs.FieldLemmas.{faults_of_all}
use Rattle.check_data.proofs.mapped_fields.faults_of_all.Goals as goal

pub returns : goal.returns
returns c s r m =
    faults_of_all s c.in_ok-faults.faults
    (c.in_ok-faults.ensures s nothing_around s.tree m r.nodes (c.derivations_have_bodies.ensures s r.derived).1)
