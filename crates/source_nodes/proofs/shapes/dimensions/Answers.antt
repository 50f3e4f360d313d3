use Rattle.std.proofs.Common.{sym, ◌∙◌}
use Rattle.ilasm_grammar.specs.declared.productions.TheConstants.{BOUND_INT}
use Rattle.source_nodes.proofs.Collecting.{below_is, after_is, behind_is, is_branch}
use Rattle.source_nodes.proofs.ShapeLemmas.{dimensions_start, number_taken, unbounded_branch, unbounded_taken, dimensions_go_in, dimensions_end}
use Rattle.source_nodes.proofs.shapes.dimensions.Goals as goal

pub loop-x-init : goal.loop-x-init
loop-x-init c = record {
  forest = c.requires;
  so_far = λ f e. dimensions_start f c.args.nodes.now c.in_ok-found.found e (c.in_ok-found.ensures f e);
}

pub numbered-requires : goal.numbered-requires
numbered-requires c =
    let b = is_branch BOUND_INT c.in-Some.x.node (sym c.is_of.ensures ∙ c.if-is_of.true) in
    below_is c.loop-x.left.now c.in-Some.x BOUND_INT b.0 c.in-Some.ensures b.1 c.loop-x.invariant.forest

pub loop-x-preserved-then-is_of : goal.loop-x-preserved-then-is_of
loop-x-preserved-then-is_of c =
    let b = is_branch BOUND_INT c.in-Some.x.node (sym c.is_of.ensures ∙ c.if-is_of.true) in
    record {
      forest = after_is c.loop-x.left.now c.in-Some.x BOUND_INT b.0 c.in-Some.ensures b.1 c.loop-x.invariant.forest;
      so_far = λ f e.
          number_taken f c.loop-x.left.now c.in-Some.x c.loop-x.found c.push.new.self b.0 c.numbered.result c.in-Some.ensures b.1
          (λ g i. c.numbered.ensures g i) c.in_ok-push.ensures.ok (c.loop-x.invariant.so_far f e);
    }

pub loop-x-preserved-then-is_unbounded : goal.loop-x-preserved-then-is_unbounded
loop-x-preserved-then-is_unbounded c =
    let known = sym c.is_unbounded.ensures ∙ c.if-is_unbounded.true in
    let b = unbounded_branch c.in-Some.x.node known in
    record {
      forest = after_is c.loop-x.left.now c.in-Some.x b.0 b.1 c.in-Some.ensures b.2 c.loop-x.invariant.forest;
      so_far = λ f e.
          unbounded_taken f c.loop-x.left.now c.in-Some.x c.loop-x.found c.push-then-is_unbounded.new.self c.unbounded.result c.in-Some.ensures known
          c.unbounded.ensures c.in_ok-push-2.ensures.ok (c.loop-x.invariant.so_far f e);
    }

pub loop-x-preserved : goal.loop-x-preserved
loop-x-preserved c = record {
  forest = behind_is c.loop-x.left.now c.in-Some.x c.in-Some.ensures c.loop-x.invariant.forest;
  so_far = λ f e.
      dimensions_go_in c.forests_join.ensures f c.loop-x.left.now c.in-Some.x c.loop-x.found c.in-Some.ensures (sym c.is_of.ensures ∙ c.if-is_of.false)
      (sym c.is_unbounded.ensures ∙ c.if-is_unbounded.false) (c.loop-x.invariant.so_far f e);
}

pub returns : goal.returns
returns c f e = dimensions_end f c.loop-x.left.now c.loop-x.found c.in_default.ensures (c.loop-x.invariant.so_far f e)
