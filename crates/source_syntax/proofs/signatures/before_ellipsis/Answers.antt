use Rattle.std.proofs.Common.{sym, ◌∙◌, arith}
use Rattle.ilasm_grammar.specs.declared.productions.TheConstants.{DEF_ARG, SIG_ARG_ELLIPSIS}
use Rattle.source_nodes.proofs.Collecting.{after_is, behind_is, is_branch}
use Rattle.source_syntax.proofs.SignatureLemmas.{passed_start, passed_argument, passed_ellipsis, passed_other, passed_all}
use Rattle.source_syntax.proofs.signatures.before_ellipsis.Goals as goal

pub loop-x-init : goal.loop-x-init
loop-x-init c = record {
  within = omega arith;
  forest = c.requires;
  so_far = λ f e. passed_start f c.args.nodes.now e;
}

pub returns-then-is_of : goal.returns-then-is_of
returns-then-is_of c f e =
    let b = is_branch SIG_ARG_ELLIPSIS c.in-Some.x.node (sym c.is_of.ensures ∙ c.if-is_of.true) in
    passed_ellipsis f c.loop-x.left.now c.in-Some.x b.0 c.loop-x.before c.in-Some.ensures b.1 (c.loop-x.invariant.so_far f e)

pub loop-x-preserved-then-is_of-2 : goal.loop-x-preserved-then-is_of-2
loop-x-preserved-then-is_of-2 c =
    let b = is_branch DEF_ARG c.in-Some.x.node (sym c.is_of-in-Some.ensures ∙ c.if-is_of-2.true) in
    record {
      within = omega (arith, c.in-Some.ensures.later, c.loop-x.invariant.within);
      forest = after_is c.loop-x.left.now c.in-Some.x DEF_ARG b.0 c.in-Some.ensures b.1 c.loop-x.invariant.forest;
      so_far = λ f e. passed_argument f c.loop-x.left.now c.in-Some.x b.0 c.loop-x.before c.in-Some.ensures b.1 (c.loop-x.invariant.so_far f e);
    }

pub loop-x-preserved : goal.loop-x-preserved
loop-x-preserved c = record {
  within = omega (arith, c.in-Some.ensures.fewer, c.loop-x.invariant.within);
  forest = behind_is c.loop-x.left.now c.in-Some.x c.in-Some.ensures c.loop-x.invariant.forest;
  so_far = λ f e.
      passed_other c.forests_join.ensures f c.loop-x.left.now c.in-Some.x c.loop-x.before c.in-Some.ensures (sym c.is_of.ensures ∙ c.if-is_of.false)
      (sym c.is_of-in-Some.ensures ∙ c.if-is_of-2.false) (c.loop-x.invariant.so_far f e);
}

pub returns : goal.returns
returns c f e = passed_all f c.loop-x.left.now c.loop-x.before c.in_default.ensures (c.loop-x.invariant.so_far f e)
