use Rattle.std.proofs.Common.{◌++◌, ap, subst, ◌∙◌}
use Rattle.source_model.specs.Members.{fields}
use Rattle.source_nodes.specs.Pieces.{AreParts}
use Rattle.lower_members.proofs.FieldLemmas.{Left, begins, nothing_left, parts_begin}
use Rattle.lower_members.proofs.fields.fields.Goals as goal

pub loop-head-init : goal.loop-head-init
loop-head-init c = record {
  parts = c.requires.parts;
  so_far = λ s a x ps are each. record { left = ps; are = are; each = each; same = ap (λ xs. xs ++ fields s a ps) c.new-all.ensures };
}

pub push_field-requires-clause-head : goal.push_field-requires-clause-head
push_field-requires-clause-head c = (parts_begin c.args.nodes.now c.in-Some.head c.in-Some.more.now (subst (AreParts c.args.nodes.now) c.in-Some.ensures c.loop-head.invariant.parts)).0

pub push_field-requires-clause-parts : goal.push_field-requires-clause-parts
push_field-requires-clause-parts c = (parts_begin c.args.nodes.now c.in-Some.head c.in-Some.more.now (subst (AreParts c.args.nodes.now) c.in-Some.ensures c.loop-head.invariant.parts)).1

pub loop-head-preserved : goal.loop-head-preserved
loop-head-preserved c = record {
  parts = (parts_begin c.args.nodes.now c.in-Some.head c.in-Some.more.now (subst (AreParts c.args.nodes.now) c.in-Some.ensures c.loop-head.invariant.parts)).1;
  so_far = λ s a x ps are each.
      let whole = fields s a ps in
      let b = begins s a c.args.nodes.now c.in-Some.head c.in-Some.more.now c.loop-head.all whole
      (subst (λ xs. Left s a c.args.nodes.now xs c.loop-head.all whole) c.in-Some.ensures (c.loop-head.invariant.so_far s a x ps are each)) in
      record {
        left = b.more;
        are = b.are;
        each = b.each;
        same = ap (λ xs. xs ++ fields s a b.more) (c.in_ok-push_field.ensures s a x b.first b.more b.is b.are b.own b.each) ∙ b.same;
      };
}

pub returns : goal.returns
returns c s a x ps are each =
    nothing_left s a c.args.nodes.now c.loop-head.all (fields s a ps) c.loop-head.rest.now c.in_default.ensures (c.loop-head.invariant.so_far s a x ps are each)
