use Rattle.std.proofs.Common.{◌≡◌, [], ◌∷◌, sym, ◌∙◌}
use Rattle.std.proofs.lemmas.Result.{IfOk-weaker}
use Rattle.type_terms.specs.declared.term.Owner.{Name}
use Rattle.ilasm_grammar.specs.declared.productions.TheConstants.{TARGET_NAME, TARGET_SCOPE, TARGET_TYPE}
use Rattle.source_model.specs.Forest.{child, has}
use Rattle.source_model.specs.References.{owner_of}
use Rattle.source_syntax.proofs.ReferenceLemmas.{not_both}
use Rattle.check_members.proofs.ReferenceParts.{name_sound, named_owner, scope_sound, scoped_owner, tail_sound}
use Rattle.check_members.proofs.reference_reading.type_named.Goals as goal

pub returns-then-has : goal.returns-then-has
returns-then-has c s a f x e fits bodies untyped =
    let some = sym (c.has.ensures f e) ∙ c.if-has.true in
    let scope = scope_sound s f fits bodies some in
    IfOk-weaker c.name_with_scope.result _ (λ name. Name name ≡ owner_of s a TARGET_SCOPE TARGET_TYPE TARGET_NAME f)
    (λ name h. scoped_owner s a f name untyped some h)
    (c.name_with_scope.ensures s a x (child (TARGET_SCOPE ∷ []) f) (sym (c.child.ensures f e)) scope.0 scope.1)

pub returns : goal.returns
returns c s a f x e fits bodies untyped =
    let unscoped = sym (c.has.ensures f e) ∙ c.if-has.false in
    let no_type = not_both (has TARGET_TYPE f) untyped in
    let no_scope = not_both (has TARGET_SCOPE f) unscoped in
    IfOk-weaker c.name_with_tail.result _ (λ name. Name name ≡ owner_of s a TARGET_SCOPE TARGET_TYPE TARGET_NAME f)
    (λ name h. named_owner s a f name untyped unscoped h)
    (c.name_with_tail.ensures s a x (child (TARGET_NAME ∷ []) f) (sym (c.child-target.ensures f e)) (name_sound s f fits bodies no_scope no_type)
    (λ h. tail_sound s f fits bodies no_scope no_type h))
