use Rattle.std.proofs.Common.{◌≡◌, ◌+◌, ◌≤◌, length, ap, sym, ◌∙◌, arith}
use Rattle.assembly_tree.specs.WellFormedBodies.{operand_kind}
use Rattle.opcode_table.specs.Sizes.{opcode_size}
use Rattle.source_model.specs.Instructions.{op_of}
use Rattle.check_bodies.specs.Sizes.{size_by, targets_bytes}
use Rattle.check_bodies.proofs.OffsetLemmas.{kind_is, size_fits}
use Rattle.check_bodies.proofs.SizeLemmas.{size_of_it}
use Rattle.check_bodies.proofs.sizes.size_of.Goals as goal

pub returns : goal.returns
returns c s a f p r is e =
    let op = c.op_of-op.ensures s p r e in
    let opcode : c.opcode_size.result ≡ opcode_size (op_of s p) = c.opcode_size.ensures.size ∙ ap opcode_size op in
    let kind = kind_is c.kind_of.result c.op_of-op.result (op_of s p) c.kind_of.ensures op in
    let operand : c.size_by.result ≡ size_by (operand_kind (op_of s p)) (targets_bytes p) =
    c.size_by.ensures ∙ ap (λ k. size_by k c.in_ok-targets.targets) kind ∙ ap (size_by (operand_kind (op_of s p))) (c.in_ok-targets.ensures p is e) in
    let fits : c.past_most.result ≤ 18446744073709551615 = omega (arith, c.past_most.type_inv) in
    size_fits s p c.opcode_size.result c.size_by.result c.saturating_add.result (length c.args.below.now) c.past_most.result 18446744073709551615
    c.saturating_add.ensures opcode operand (ap length e) c.past_most.ensures fits
    ∙ ap (λ n. n + c.size_by.result) opcode ∙ ap (λ n. opcode_size (op_of s p) + n) operand ∙ sym (size_of_it s a f p)
