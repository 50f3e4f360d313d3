use Rattle.std.proofs.Common.{◌≡◌, ◌++◌, ◌∷◌, [], length, ap, sym, subst, arith}
use Rattle.std.specs.Prelude.{IfOk}
use Rattle.assembly_tree.specs.declared.body.Operand.TheVariants as operand
use Rattle.ilasm_grammar.specs.declared.productions.TheConstants.{METHOD_REF}
use Rattle.source_model.specs.Forest.{preorder, the}
use Rattle.source_syntax.proofs.ReferenceLemmas.{sound_part}
use Rattle.source_syntax.proofs.SizeLemmas.{the_smaller}
use Rattle.source_flags.specs.InRange.{IsInRange}
use Rattle.source_flags.proofs.Gathered.{readable}
use Rattle.lower_bodies.specs.Operands.{instruction_with}
use Rattle.lower_bodies.proofs.operands.push_method.Goals as goal

pub method_ref-requires-clause-few : goal.method_ref-requires-clause-few
method_ref-requires-clause-few c =
    let f = c.requires.forest in
    let below : length c.the.result.now ≡ length (preorder (the METHOD_REF f.0)) = ap length (c.the.ensures f.0 f.1) in
    omega (arith, below, the_smaller METHOD_REF f.0, ap length f.1, c.requires.few)

pub returns : goal.returns
returns c s a f x e each some =
    let own = sound_part (IsInRange s) METHOD_REF f each some in
    subst (λ o. IfOk c.push_method_ref.result (λ _. c.push_method_ref.new.all ≡ c.args.all.now ++ instruction_with c.args.op o ∷ []))
    (ap (λ r. operand.Method r)
    (c.in_ok-reference.ensures s a x (the METHOD_REF f) (sym (c.the.ensures f e)) (own.0.fits, own.0.types) (readable s (the METHOD_REF f) own.1)))
    c.push_method_ref.ensures
