use Rattle.std.proofs.Common.{◌≡◌, ◌++◌, ◌∷◌, [], ap, sym, subst, ◌∙◌}
use Rattle.std.specs.Prelude.{Bool, true, false, IfOk, if◌then◌else◌}
use Rattle.assembly_tree.specs.declared.body.Operand.TheVariants as operand
use Rattle.ilasm_grammar.specs.declared.productions.TheConstants.{FIELD_REF, METHOD_REF, TOKEN_OPERAND_FIELD, TOKEN_OPERAND_METHOD}
use Rattle.source_model.specs.Forest.{has, the}
use Rattle.source_model.specs.References.{field_ref, method_ref}
use Rattle.source_model.specs.Types.{the_owner}
use Rattle.lower_bodies.specs.Operands.{instruction_with}
use Rattle.lower_bodies.proofs.References.{field_in_token, method_in_token}
use Rattle.lower_bodies.proofs.operands.push_token.Goals as goal

pub returns-then-has : goal.returns-then-has
returns-then-has c s a f x e each =
    let to_method = operand.Method (method_ref s a (the METHOD_REF f)) in
    let to_field = operand.Field (field_ref s a (the FIELD_REF f)) in
    let on : has TOKEN_OPERAND_METHOD f ≡ true = sym (c.has.ensures f e) ∙ c.if-has.true in
    subst (λ v. IfOk c.push_method.result (λ _. c.push_method.new.all ≡ c.args.all.now ++ instruction_with c.args.op v ∷ []))
    (sym (ap (λ (b : Bool). if b then to_method else if has TOKEN_OPERAND_FIELD f then to_field else operand.Of (the_owner s a f)) on))
    (c.push_method.ensures s a f x e each (method_in_token s f each on))

pub returns-then-has-2 : goal.returns-then-has-2
returns-then-has-2 c s a f x e each =
    let to_method = operand.Method (method_ref s a (the METHOD_REF f)) in
    let to_field = operand.Field (field_ref s a (the FIELD_REF f)) in
    let off : has TOKEN_OPERAND_METHOD f ≡ false = sym (c.has.ensures f e) ∙ c.if-has.false in
    let on : has TOKEN_OPERAND_FIELD f ≡ true = sym (c.has-2.ensures f e) ∙ c.if-has-2.true in
    subst (λ v. IfOk c.push_field.result (λ _. c.push_field.new.all ≡ c.args.all.now ++ instruction_with c.args.op v ∷ []))
    (sym
    (ap (λ (b : Bool). if b then to_method else if has TOKEN_OPERAND_FIELD f then to_field else operand.Of (the_owner s a f)) off
    ∙ ap (λ (b : Bool). if b then to_field else operand.Of (the_owner s a f)) on))
    (c.push_field.ensures s a f x e each (field_in_token s f each on))

pub returns : goal.returns
returns c s a f x e each =
    let to_method = operand.Method (method_ref s a (the METHOD_REF f)) in
    let to_field = operand.Field (field_ref s a (the FIELD_REF f)) in
    let off : has TOKEN_OPERAND_METHOD f ≡ false = sym (c.has.ensures f e) ∙ c.if-has.false in
    let neither : has TOKEN_OPERAND_FIELD f ≡ false = sym (c.has-2.ensures f e) ∙ c.if-has-2.false in
    subst (λ v. IfOk c.push_type.result (λ _. c.push_type.new.all ≡ c.args.all.now ++ instruction_with c.args.op v ∷ []))
    (sym
    (ap (λ (b : Bool). if b then to_method else if has TOKEN_OPERAND_FIELD f then to_field else operand.Of (the_owner s a f)) off
    ∙ ap (λ (b : Bool). if b then to_field else operand.Of (the_owner s a f)) neither))
    (c.push_type.ensures s a f x e each)
