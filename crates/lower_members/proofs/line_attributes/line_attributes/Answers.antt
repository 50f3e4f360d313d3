use Rattle.std.proofs.Common.{◌<◌, ◌^◌, length, ap, sym, subst, ◌∙◌}
use Rattle.source_nodes.specs.Pieces.{AreParts}
use Rattle.lower_members.specs.GivenAttributes.{none_given}
use Rattle.lower_members.proofs.FieldLemmas.{parts_begin}
use Rattle.lower_members.proofs.GivenLemmas.{LinesLeft, begins, lines_end, lines_start}
use Rattle.lower_members.proofs.line_attributes.line_attributes.Goals as goal

pub loop-head-init : goal.loop-head-init
loop-head-init c = record {
  parts = c.requires.parts;
  so_far = λ s a x ps are each few.
      lines_start s a c.args.names.now c.args.nodes.now c.args.found.now c.in_ok-given.given.items ps are each (c.in_ok-given.ensures ∙ ap none_given c.len-2.ensures);
}

pub add_line-requires-clause-head : goal.add_line-requires-clause-head
add_line-requires-clause-head c = (parts_begin c.args.nodes.now c.in-Some.head c.in-Some.more.now (subst (AreParts c.args.nodes.now) c.in-Some.ensures c.loop-head.invariant.parts)).0

pub add_line-requires-clause-parts : goal.add_line-requires-clause-parts
add_line-requires-clause-parts c = (parts_begin c.args.nodes.now c.in-Some.head c.in-Some.more.now (subst (AreParts c.args.nodes.now) c.in-Some.ensures c.loop-head.invariant.parts)).1

pub loop-head-preserved : goal.loop-head-preserved
loop-head-preserved c = record {
  parts = (parts_begin c.args.nodes.now c.in-Some.head c.in-Some.more.now (subst (AreParts c.args.nodes.now) c.in-Some.ensures c.loop-head.invariant.parts)).1;
  so_far = λ s a x ps are each few.
      let l = subst (λ xs. LinesLeft s a c.args.names.now c.args.nodes.now xs c.loop-head.given.items ps) c.in-Some.ensures (c.loop-head.invariant.so_far s a x ps are each few) in
      let b = begins s a c.args.names.now c.args.nodes.now c.in-Some.head c.in-Some.more.now c.loop-head.given.items ps l in
      let small : length c.loop-head.given.items < 2 ^ 32 = subst (λ n. n < 2 ^ 32) (sym l.many) few in
      b.next c.add_line.new.given.items (c.in_ok-add_line.ensures s a x b.first b.more b.is b.are b.own b.each few small);
}

pub returns : goal.returns
returns c s a x ps are each few =
    lines_end s a c.args.names.now c.args.nodes.now c.loop-head.rest.now c.loop-head.given.items ps c.in_default.ensures (c.loop-head.invariant.so_far s a x ps are each few)
