use Rattle.std.proofs.Common.{◌≡◌, ◌++◌, ◌∷◌, [], sym, subst, ◌∙◌, arith}
use Rattle.std.specs.Prelude.{IfOk}
use Rattle.ilasm_grammar.specs.declared.productions.TheConstants.{INSTRUCTION_OP_FIELD, INSTRUCTION_OP_METHOD, INSTRUCTION_OP_TYPE}
use Rattle.source_model.specs.Forest.{none}
use Rattle.source_nodes.specs.Derived.{FitsBody}
use Rattle.lower_bodies.specs.Operands.{instruction_with}
use Rattle.lower_bodies.proofs.FormLemmas.{other_form, refers_at, refers_else}
use Rattle.lower_bodies.proofs.References.{field_held, method_held}
use Rattle.lower_bodies.proofs.operands.push_reference.Goals as goal

pub returns-in-319 : goal.returns-in-319
returns-in-319 c s a p x made e own each =
    let form = sym c.in-319.is ∙ made in
    let fits = subst (λ q. FitsBody s q p.below) (sym form) own.fits in
    subst (λ v. IfOk c.push_method.result (λ _. c.push_method.new.all ≡ c.args.all.now ++ instruction_with c.args.op v ∷ []))
    (refers_at s a none p INSTRUCTION_OP_METHOD form)
    (c.push_method.ensures s a p.below x e each (method_held s p.below fits))

pub returns-in-320 : goal.returns-in-320
returns-in-320 c s a p x made e own each =
    let form = sym c.in-320.is ∙ made in
    let fits = subst (λ q. FitsBody s q p.below) (sym form) own.fits in
    subst (λ v. IfOk c.push_field.result (λ _. c.push_field.new.all ≡ c.args.all.now ++ instruction_with c.args.op v ∷ []))
    (refers_at s a none p INSTRUCTION_OP_FIELD form)
    (c.push_field.ensures s a p.below x e each (field_held s p.below fits))

pub returns-in-321 : goal.returns-in-321
returns-in-321 c s a p x made e own each =
    let form = sym c.in-321.is ∙ made in
    subst (λ v. IfOk c.push_type.result (λ _. c.push_type.new.all ≡ c.args.all.now ++ instruction_with c.args.op v ∷ []))
    (refers_at s a none p INSTRUCTION_OP_TYPE form)
    (c.push_type.ensures s a p.below x e each)

pub returns-in_default : goal.returns-in_default
returns-in_default c s a p x made e own each =
    let no_method : c.args.production ≡ INSTRUCTION_OP_METHOD → ⊥ = λ is. omega (arith, is) in
    let no_field : c.args.production ≡ INSTRUCTION_OP_FIELD → ⊥ = λ is. omega (arith, is) in
    let no_owner : c.args.production ≡ INSTRUCTION_OP_TYPE → ⊥ = λ is. omega (arith, is) in
    subst (λ v. IfOk c.push_token.result (λ _. c.push_token.new.all ≡ c.args.all.now ++ instruction_with c.args.op v ∷ []))
    (refers_else s a none p (other_form INSTRUCTION_OP_METHOD made no_method) (other_form INSTRUCTION_OP_FIELD made no_field) (other_form INSTRUCTION_OP_TYPE made no_owner))
    (c.push_token.ensures s a p.below x e each)
