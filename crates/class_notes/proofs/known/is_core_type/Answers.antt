use Rattle.std.proofs.Common.{inl, inr}
use Rattle.class_notes.proofs.FillingLemmas.{not_when}
use Rattle.class_notes.proofs.KnownTypes.{is_object_when, is_value_when}
use Rattle.class_notes.proofs.known.is_core_type.Goals as goal

pub returns-then-is_object-clause-ok : goal.returns-then-is_object-clause-ok
returns-then-is_object-clause-ok c =
    let w = c.args.w.now in
    let w1 = c.primitive_key.new.w in
    let w2 = c.type_key.new.w in
    let s1 = c.in_ok-object.ensures.stays in
    let s2 = c.in_ok-value.ensures.stays in
    let a = is_object_when w w1 w2 s1 s2 c.requires.core c.args.key.now c.requires.key c.pool.result.now c.id.result c.in_ok-object.object c.id-2.result c.same-is_object.result c.pool.ensures
    c.id.ensures c.id-2.ensures c.in_ok-object.ensures.ok c.same-is_object.ensures.types in
    (λ t. inl (a.0 t), λ x. c.if-is_object.true)

pub returns-else-is_object-clause-ok : goal.returns-else-is_object-clause-ok
returns-else-is_object-clause-ok c =
    let w = c.args.w.now in
    let w1 = c.primitive_key.new.w in
    let w2 = c.type_key.new.w in
    let s1 = c.in_ok-object.ensures.stays in
    let s2 = c.in_ok-value.ensures.stays in
    let a = is_object_when w w1 w2 s1 s2 c.requires.core c.args.key.now c.requires.key c.pool.result.now c.id.result c.in_ok-object.object c.id-2.result c.same-is_object.result c.pool.ensures
    c.id.ensures c.id-2.ensures c.in_ok-object.ensures.ok c.same-is_object.ensures.types in
    let b = is_value_when w w1 w2 s1 s2 c.requires.core c.args.key.now c.requires.key c.pool-2.result.now c.id-3.result c.in_ok-value.value c.id-4.result c.in_ok-name.name c.core_scope.result
    c.same-is_value.result c.pool-2.ensures c.id-3.ensures c.id-4.ensures c.core_scope.ensures c.in_ok-name.ensures c.in_ok-value.ensures.ok c.same-is_value.ensures.types in
    (λ t. inr (b.0 t), λ x. elim x [ inl y ↦ absurd (not_when a c.if-is_object.false y) | inr z ↦ b.1 z ])
