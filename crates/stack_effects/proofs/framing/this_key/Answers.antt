use Rattle.std.proofs.Common.{◌∙◌, sym}
use Rattle.sig_pool.specs.Terms.{term_of}
use Rattle.type_hierarchy.specs.Stack.{is_reference}
use Rattle.type_order.specs.OwnTypes.{own_class}
use Rattle.stack_effects.proofs.FrameLemmas.{this_object, this_pointer}
use Rattle.stack_effects.proofs.framing.this_key.Goals as goal

pub returns-then-is_reference-clause-ok : goal.returns-then-is_reference-clause-ok
returns-then-is_reference-clause-ok c =
    let is = sym (c.is_reference.ensures ∙ (λ i. is_reference (term_of (c.pool.ensures i) (c.id_of.ensures i)))) ∙ c.if-is_reference.true in
    this_object c.args.w.now c.own_keys.new.w.nodes _ (own_class c.args.path.now c.args.parameters) c.in_ok-own.ensures.ok.class is

pub returns-clause-ok : goal.returns-clause-ok
returns-clause-ok c =
    let other = sym (c.is_reference.ensures ∙ (λ i. is_reference (term_of (c.pool.ensures i) (c.id_of.ensures i)))) ∙ c.if-is_reference.false in
    this_pointer c.args.w.now c.own_keys.new.w.nodes _ _ (own_class c.args.path.now c.args.parameters) c.in_ok-own.ensures.ok.class other c.in_ok-own.ensures.ok.pointer
