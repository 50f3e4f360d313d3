use Rattle.std.proofs.Common.{[], ◌∷◌, sym, ◌∙◌}
use Rattle.ilasm_grammar.specs.declared.productions.TheConstants.{TARGET_NAME, TARGET_SCOPE, TARGET_TYPE}
use Rattle.source_model.specs.Forest.{child, has}
use Rattle.source_syntax.specs.Places.{IsSound}
use Rattle.source_syntax.proofs.ReferenceLemmas.{name_sound, named_owner, not_both, of_child, scope_sound, scoped_owner, tail_sound, typed_owner}
use Rattle.source_syntax.proofs.place.Place.method_owner.Goals as goal

pub returns-then-has : goal.returns-then-has
returns-then-has c s a x f e sound each =
    typed_owner s a f sound each c.in_ok-of.of (sym (c.has.ensures f e) ∙ c.if-has.true)
    (c.in_ok-of.ensures s a x (child (TARGET_TYPE ∷ []) f) (sym (c.child.ensures f e)) (of_child (IsSound s) (TARGET_TYPE ∷ []) f each))

pub returns-then-has-2 : goal.returns-then-has-2
returns-then-has-2 c s a x f e sound each =
    let some = sym (c.has-2.ensures f e) ∙ c.if-has-2.true in
    let scope = scope_sound s a f sound each some in
    scoped_owner s a f sound each c.in_ok-name.name (sym (c.has.ensures f e) ∙ c.if-has.false) some
    (c.in_ok-name.ensures s a x (child (TARGET_SCOPE ∷ []) f) (sym (c.child-then-has-2.ensures f e)) scope.0 scope.1)

pub returns : goal.returns
returns c s a x f e sound each =
    let untyped = sym (c.has.ensures f e) ∙ c.if-has.false in
    let unscoped = sym (c.has-2.ensures f e) ∙ c.if-has-2.false in
    let no_type = not_both (has TARGET_TYPE f) untyped in
    let no_scope = not_both (has TARGET_SCOPE f) unscoped in
    named_owner s a f sound each c.in_ok-name-2.name untyped unscoped
    (c.in_ok-name-2.ensures s a x (child (TARGET_NAME ∷ []) f) (sym (c.child-target.ensures f e)) (name_sound s a f sound each no_scope no_type)
    (λ h. tail_sound s a f sound each no_scope no_type h))
