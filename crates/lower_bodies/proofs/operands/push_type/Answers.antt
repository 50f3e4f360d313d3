use Rattle.std.proofs.Common.{◌≡◌, ◌++◌, ◌∷◌, [], ap, subst}
use Rattle.std.specs.Prelude.{IfOk}
use Rattle.assembly_tree.specs.declared.body.Operand.TheVariants as operand
use Rattle.source_flags.proofs.Gathered.{readable}
use Rattle.lower_bodies.specs.Operands.{instruction_with}
use Rattle.lower_bodies.proofs.operands.push_type.Goals as goal

pub returns : goal.returns
returns c s a f x e each =
    subst (λ o. IfOk c.push_owner.result (λ _. c.push_owner.new.all ≡ c.args.all.now ++ instruction_with c.args.op o ∷ []))
    (ap (λ o. operand.Of o) (c.in_ok-owner.ensures s a x f e (readable s f each)))
    c.push_owner.ensures
