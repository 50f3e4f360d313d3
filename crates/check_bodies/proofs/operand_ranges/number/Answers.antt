use Rattle.std.proofs.Common.{ap, ◌∙◌}
use Rattle.assembly_tree.specs.WellFormedBodies.{operand_kind}
use Rattle.source_model.specs.BodyNumbers.{fits_kind}
use Rattle.source_model.specs.Instructions.{op_of}
use Rattle.source_model.specs.TypeRules.{unless}
use Rattle.source_nodes.specs.Least.{least}
use Rattle.check_bodies.proofs.OffsetLemmas.{kind_is}
use Rattle.check_bodies.proofs.operand_ranges.number.Goals as goal

pub returns : goal.returns
returns c s p r e =
    let kind = kind_is c.kind_of.result c.op_of.result (op_of s p) c.kind_of.ensures (c.op_of.ensures s p r e) in
    c.number_of_kind.ensures s r
    ∙ ap (λ k. least (unless (fits_kind k) s c.leaf_at.result)) kind
    ∙ ap (λ t. least (unless (fits_kind (operand_kind (op_of s p))) s t)) (c.leaf_at.ensures p.below e)
