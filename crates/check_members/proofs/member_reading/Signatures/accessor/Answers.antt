use Rattle.std.proofs.Common.{◌∙◌, ap, arith, length, sym}
use Rattle.ilasm_grammar.specs.declared.productions.TheConstants.{METHOD_REF}
use Rattle.source_model.specs.Forest.{the}
use Rattle.source_syntax.proofs.SizeLemmas.{the_smaller}
use Rattle.check_members.proofs.AccessorLemmas.{broken_accessor, other_accessor, own_accessor}
use Rattle.check_members.proofs.member_reading.Signatures.accessor.Goals as goal

pub is_own_method-requires-clause-few : goal.is_own_method-requires-clause-few
is_own_method-requires-clause-few g c =
    let b = c.requires.forest in
    omega (arith, the_smaller METHOD_REF b.0, ap length (c.the-reference.ensures b.0 b.1), ap length b.1, c.requires.few)

pub returns-then-not-unbroken : goal.returns-then-not-unbroken
returns-then-not-unbroken g c s a q b v r p h here ms e fits bodies =
    let kept = c.in_ok-unbroken.ensures s a (the METHOD_REF b) v r p h (sym (c.the-reference.ensures b e)) bodies in
    broken_accessor s a q b c.in_ok-unbroken.unbroken c.if-not-unbroken.true kept

pub returns-then-own : goal.returns-then-own
returns-then-own g c s a q b v r p h here ms e fits bodies =
    let below = sym (c.the-reference.ensures b e) in
    let kept = c.in_ok-unbroken.ensures s a (the METHOD_REF b) v r p h below bodies in
    own_accessor s a q b c.in_ok-own.own c.if-own.true
    (c.in_ok-own.ensures s a (the METHOD_REF b) v r h here ms below fits bodies (sym kept ∙ c.if-not-unbroken.false))

pub returns : goal.returns
returns g c s a q b v r p h here ms e fits bodies =
    let below = sym (c.the-reference.ensures b e) in
    let kept = c.in_ok-unbroken.ensures s a (the METHOD_REF b) v r p h below bodies in
    other_accessor s a q b c.in_ok-unbroken.unbroken c.in_ok-own.own c.leaf_at.result c.if-not-unbroken.false kept c.if-own.false
    (c.in_ok-own.ensures s a (the METHOD_REF b) v r h here ms below fits bodies (sym kept ∙ c.if-not-unbroken.false)) (c.leaf_at.ensures b e)
