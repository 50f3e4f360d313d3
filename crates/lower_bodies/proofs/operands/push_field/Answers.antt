use Rattle.std.proofs.Common.{◌≡◌, ◌++◌, ◌∷◌, [], ap, sym, subst}
use Rattle.std.specs.Prelude.{IfOk}
use Rattle.assembly_tree.specs.declared.body.Operand.TheVariants as operand
use Rattle.ilasm_grammar.specs.declared.productions.TheConstants.{FIELD_REF}
use Rattle.source_model.specs.Forest.{the}
use Rattle.source_syntax.proofs.ReferenceLemmas.{sound_part}
use Rattle.source_flags.specs.InRange.{IsInRange}
use Rattle.source_flags.proofs.Gathered.{readable}
use Rattle.lower_bodies.specs.Operands.{instruction_with}
use Rattle.lower_bodies.proofs.operands.push_field.Goals as goal

pub returns : goal.returns
returns c s a f x e each some =
    let own = sound_part (IsInRange s) FIELD_REF f each some in
    subst (λ o. IfOk c.push_field_ref.result (λ _. c.push_field_ref.new.all ≡ c.args.all.now ++ instruction_with c.args.op o ∷ []))
    (ap (λ r. operand.Field r)
    (c.in_ok-reference.ensures s a x (the FIELD_REF f) (sym (c.the.ensures f e)) (own.0.fits, own.0.types) (readable s (the FIELD_REF f) own.1)))
    c.push_field_ref.ensures
