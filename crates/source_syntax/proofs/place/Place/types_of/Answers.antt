use Rattle.std.proofs.Common.{sym, ◌∙◌}
use Rattle.source_nodes.proofs.Collecting.{below_is, after_is, behind_is, is_branch}
use Rattle.source_syntax.proofs.SignatureLemmas.{arguments_start, argument_taken, arguments_go_in, arguments_end}
use Rattle.source_syntax.proofs.place.Place.types_of.Goals as goal

pub loop-x-init : goal.loop-x-init
loop-x-init c = record {
  forest = c.requires;
  so_far = λ s a x f e each. arguments_start s a c.args.production f c.args.nodes.now c.new-types.result e each c.new-types.ensures;
}

pub first_type-requires : goal.first_type-requires
first_type-requires c =
    let b = is_branch c.args.production c.in-Some.x.node (sym c.is_of.ensures ∙ c.if-is_of.true) in
    below_is c.loop-x.left.now c.in-Some.x c.args.production b.0 c.in-Some.ensures b.1 c.loop-x.invariant.forest

pub loop-x-preserved-then-is_of : goal.loop-x-preserved-then-is_of
loop-x-preserved-then-is_of c =
    let b = is_branch c.args.production c.in-Some.x.node (sym c.is_of.ensures ∙ c.if-is_of.true) in
    record {
      forest = after_is c.loop-x.left.now c.in-Some.x c.args.production b.0 c.in-Some.ensures b.1 c.loop-x.invariant.forest;
      so_far = λ s a x f e each.
          argument_taken s a c.args.production f c.loop-x.left.now c.in-Some.x c.loop-x.types c.push.new.self b.0 c.in_ok-of.of c.in-Some.ensures b.1
          (λ g i h. c.in_ok-of.ensures s a x g i h) c.in_ok-push.ensures.ok (c.loop-x.invariant.so_far s a x f e each);
    }

pub loop-x-preserved : goal.loop-x-preserved
loop-x-preserved c = record {
  forest = behind_is c.loop-x.left.now c.in-Some.x c.in-Some.ensures c.loop-x.invariant.forest;
  so_far = λ s a x f e each.
      arguments_go_in s a c.args.production c.forests_join.ensures f c.loop-x.left.now c.in-Some.x c.loop-x.types c.in-Some.ensures (sym c.is_of.ensures ∙ c.if-is_of.false)
      (c.loop-x.invariant.so_far s a x f e each);
}

pub returns : goal.returns
returns c s a x f e each = arguments_end s a c.args.production f c.loop-x.left.now c.loop-x.types c.in_default.ensures (c.loop-x.invariant.so_far s a x f e each)
