use Rattle.std.proofs.Common.{◌≡◌, ap, sym, ◌∙◌}
use Rattle.std.specs.Prelude.{Bool, true, false, ◌==◌, ◌&&◌, if◌then◌else◌, None, Some}
use Rattle.std.proofs.lemmas.Bool.Decides.{Decides-eqb}
use Rattle.assembly_tree.specs.WellFormedBodies.{operand_kind}
use Rattle.ilasm_grammar.specs.declared.productions.TheConstants.{INSTRUCTION_OP_BRANCH}
use Rattle.source_model.specs.Forest.{leaf_at}
use Rattle.source_model.specs.Instructions.{op_of}
use Rattle.check_bodies.specs.Sizes.{is_short}
use Rattle.check_bodies.proofs.OffsetLemmas.{kind_is}
use Rattle.check_bodies.proofs.ShortBranchLemmas.{is_other}
use Rattle.check_bodies.proofs.short_branches.short_target.Goals as goal
use Rattle.check_bodies.proofs.short_branches.short_target.Goals.{else-production-eq-INSTRUCTION_OP_BRANCH-via-then-production-eq-INSTRUCTION_OP_BRANCH+else-is_short, else-production-eq-INSTRUCTION_OP_BRANCH-via-else-production-eq-INSTRUCTION_OP_BRANCH}

pub returns-then-is_short : goal.returns-then-is_short
returns-then-is_short c s p r is e =
    let own : (p.production == INSTRUCTION_OP_BRANCH) ≡ true =
    (Decides-eqb p.production INSTRUCTION_OP_BRANCH).1 (is ∙ c.if-production-eq-INSTRUCTION_OP_BRANCH.true) in
    let kind = kind_is c.kind_of.result c.op_of.result (op_of s p) c.kind_of.ensures (c.op_of.ensures s p r e) in
    let short : is_short (operand_kind (op_of s p)) ≡ true = sym (ap is_short kind) ∙ sym c.is_short.ensures ∙ c.if-is_short.true in
    ap Some (c.leaf_at.ensures p.below e)
    ∙ sym (ap (λ (b : Bool). if b && is_short (operand_kind (op_of s p)) then Some (leaf_at 0 p.below) else None) own
    ∙ ap (λ (b : Bool). if b then Some (leaf_at 0 p.below) else None) short)

pub returns-else-production-eq-INSTRUCTION_OP_BRANCH :
    goal.returns-else-production-eq-INSTRUCTION_OP_BRANCH
returns-else-production-eq-INSTRUCTION_OP_BRANCH c s p r is e =
    elim c.else-production-eq-INSTRUCTION_OP_BRANCH.branch [
      | else-production-eq-INSTRUCTION_OP_BRANCH-via-then-production-eq-INSTRUCTION_OP_BRANCH+else-is_short w ↦
          let own : (p.production == INSTRUCTION_OP_BRANCH) ≡ true =
          (Decides-eqb p.production INSTRUCTION_OP_BRANCH).1 (is ∙ w.if-production-eq-INSTRUCTION_OP_BRANCH.true) in
          let kind = kind_is w.kind_of.result w.op_of.result (op_of s p) w.kind_of.ensures (w.op_of.ensures s p r e) in
          let long : is_short (operand_kind (op_of s p)) ≡ false = sym (ap is_short kind) ∙ sym w.is_short.ensures ∙ w.if-is_short.false in
          sym (ap (λ (b : Bool). if b && is_short (operand_kind (op_of s p)) then Some (leaf_at 0 p.below) else None) own
          ∙ ap (λ (b : Bool). if b then Some (leaf_at 0 p.below) else None) long)
      | else-production-eq-INSTRUCTION_OP_BRANCH-via-else-production-eq-INSTRUCTION_OP_BRANCH w ↦
          let other = is_other p.production c.args.production INSTRUCTION_OP_BRANCH is w.if-production-eq-INSTRUCTION_OP_BRANCH.false in
          sym (ap (λ (b : Bool). if b && is_short (operand_kind (op_of s p)) then Some (leaf_at 0 p.below) else None) other)
    ]
