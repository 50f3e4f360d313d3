use Rattle.std.proofs.Common.{sym, ◌∙◌, refl, arith}
use Rattle.ilasm_grammar.specs.declared.productions.TheConstants.{TYPE}
use Rattle.source_nodes.proofs.Collecting.{below_is, after_is, behind_is, is_branch}
use Rattle.source_syntax.proofs.TypeWalks.{suffix_branch}
use Rattle.check_names.proofs.DepthRules.{is_suffix_there}
use Rattle.check_names.proofs.DepthWalks.{deepens_end, deepens_into, deepens_past, deepens_start, no_empty, no_token, split, split_depths}
use Rattle.check_names.proofs.SuffixDepths.{wraps_end, wraps_into, wraps_past, wraps_start}
use Rattle.check_names.proofs.type_depths.+depths.Goals as goal

-- ---- all types

pub depths_in-loop-x-init : goal.depths_in-loop-x-init
depths_in-loop-x-init t c = record {
  within = omega arith;
  forest = c.requires;
  so_far = λ s a f e h. deepens_start s a f c.args.nodes.now _ e h refl refl;
}

pub depths_in-depths_of-of-requires : goal.depths_in-depths_of-of-requires
depths_in-depths_of-of-requires t c =
    let b = is_branch TYPE c.in-Some.x.node (sym c.is_of.ensures ∙ c.if-is_of.true) in
    (omega (arith, c.in-Some.ensures.lower, c.loop-x.invariant.within), below_is c.loop-x.left.now c.in-Some.x TYPE b.0 c.in-Some.ensures b.1 c.loop-x.invariant.forest)

pub depths_in-first_token-requires : goal.depths_in-first_token-requires
depths_in-first_token-requires t c =
    let b = is_branch TYPE c.in-Some.x.node (sym c.is_of.ensures ∙ c.if-is_of.true) in
    below_is c.loop-x.left.now c.in-Some.x TYPE b.0 c.in-Some.ensures b.1 c.loop-x.invariant.forest

pub depths_in-loop-x-preserved-then-is_of : goal.depths_in-loop-x-preserved-then-is_of
depths_in-loop-x-preserved-then-is_of t c =
    let b = is_branch TYPE c.in-Some.x.node (sym c.is_of.ensures ∙ c.if-is_of.true) in
    record {
      within = omega (arith, c.in-Some.ensures.later, c.loop-x.invariant.within);
      forest = after_is c.loop-x.left.now c.in-Some.x TYPE b.0 c.in-Some.ensures b.1 c.loop-x.invariant.forest;
      so_far = λ s a f e h.
          deepens_past s a _ _ c.loop-x.left.now c.in-Some.x c.loop-x.all c.depths_of-of.result c.with_type-all.result c.first_token.result b.0 c.in-Some.ensures b.1
          (λ g i fits each. c.depths_of-of.ensures s a g i fits each) (λ g i. c.first_token.ensures g i) c.with_type-all.ensures.depth c.with_type-all.ensures.broken
          (c.loop-x.invariant.so_far s a f e h);
    }

pub depths_in-loop-x-preserved : goal.depths_in-loop-x-preserved
depths_in-loop-x-preserved t c = record {
  within = omega (arith, c.in-Some.ensures.fewer, c.loop-x.invariant.within);
  forest = behind_is c.loop-x.left.now c.in-Some.x c.in-Some.ensures c.loop-x.invariant.forest;
  so_far = λ s a f e h.
      deepens_into s c.forests_join.ensures a _ _ c.loop-x.left.now c.in-Some.x c.loop-x.all c.in-Some.ensures (sym c.is_of.ensures ∙ c.if-is_of.false)
      (c.loop-x.invariant.so_far s a f e h);
}

pub depths_in-returns : goal.depths_in-returns
depths_in-returns t c s a f e h = deepens_end s a f c.loop-x.left.now c.loop-x.all c.in_default.ensures (c.loop-x.invariant.so_far s a f e h)

-- ---- a type

pub depths_of-returns-in_default : goal.depths_of-returns-in_default
depths_of-returns-in_default t c s a f e fits h = absurd (no_empty s f (e ∙ c.in_default.ensures) fits)

pub depths_of-returns-in_default-node : goal.depths_of-returns-in_default-node
depths_of-returns-in_default-node t c s a f e fits h =
    absurd (no_token s f c.args.nodes.now c.in-Some.x c.in-Some.ensures (λ p count is. c.in_default-node.not-Branch p count is) e fits)

pub depths_of-depths_in-args-requires : goal.depths_of-depths_in-args-requires
depths_of-depths_in-args-requires t c =
    (omega (arith, c.in-Some.ensures.lower), below_is c.args.nodes.now c.in-Some.x c.in-Branch.production _ c.in-Some.ensures c.in-Branch.is c.requires)

pub depths_of-suffixed_depths-requires : goal.depths_of-suffixed_depths-requires
depths_of-suffixed_depths-requires t c =
    (omega (arith, c.in-Some.ensures.later), after_is c.args.nodes.now c.in-Some.x c.in-Branch.production _ c.in-Some.ensures c.in-Branch.is c.requires)

pub depths_of-returns : goal.depths_of-returns
depths_of-returns t c s a f e fits h =
    let sp = split s a f c.args.nodes.now c.in-Some.x c.in-Branch.production _ c.in-Some.ensures c.in-Branch.is e fits h in
    split_depths s a f c.in-Some.x c.in-Branch.production c.depths_in-args.result _ c.suffixed_depths.result sp
    (c.depths_in-args.ensures s a sp.inner sp.inner-is sp.bodies.0) (λ d i. c.base_depth.ensures d i) refl
    (λ u i. c.suffixed_depths.ensures s a sp.rest sp.rest-is sp.bodies.1 sp.only u i)

-- ---- suffixes

pub suffixed_depths-loop-x-init : goal.suffixed_depths-loop-x-init
suffixed_depths-loop-x-init t c = record {
  within = omega arith;
  forest = c.requires;
  so_far = λ s a f e h only u deep. wraps_start s a f c.args.nodes.now c.args.base u e h only deep;
}

pub suffixed_depths-depths_in-by-requires : goal.suffixed_depths-depths_in-by-requires
suffixed_depths-depths_in-by-requires t c =
    let b = suffix_branch c.in-Some.x.node (sym c.is_suffix.ensures ∙ c.if-is_suffix.true) in
    (omega (arith, c.in-Some.ensures.lower, c.loop-x.invariant.within), below_is c.loop-x.left.now c.in-Some.x b.0 b.1 c.in-Some.ensures b.2 c.loop-x.invariant.forest)

pub suffixed_depths-with_suffix-of-requires : goal.suffixed_depths-with_suffix-of-requires
suffixed_depths-with_suffix-of-requires t c =
    let b = suffix_branch c.in-Some.x.node (sym c.is_suffix.ensures ∙ c.if-is_suffix.true) in
    below_is c.loop-x.left.now c.in-Some.x b.0 b.1 c.in-Some.ensures b.2 c.loop-x.invariant.forest

pub suffixed_depths-loop-x-preserved-then-is_suffix : goal.suffixed_depths-loop-x-preserved-then-is_suffix
suffixed_depths-loop-x-preserved-then-is_suffix t c =
    let known = sym c.is_suffix.ensures ∙ c.if-is_suffix.true in
    let b = is_suffix_there c.in-Some.x.node known in
    record {
      within = omega (arith, c.in-Some.ensures.later, c.loop-x.invariant.within);
      forest = after_is c.loop-x.left.now c.in-Some.x b.0 b.1 c.in-Some.ensures b.2 c.loop-x.invariant.forest;
      so_far = λ s a f e h only u deep.
          wraps_past s a _ _ c.loop-x.left.now c.in-Some.x c.depths_in-by.result c.loop-x.of c.with_suffix-of.result b.0 b.1 c.in-Some.ensures b.2 b.3
          (λ g i each. c.depths_in-by.ensures s a g i each) (λ g i fits each inner v is. c.with_suffix-of.ensures.depth s a g b.0 b.1 b.2 i fits each inner v is)
          c.with_suffix-of.ensures.broken (c.loop-x.invariant.so_far s a f e h only u deep);
    }

pub suffixed_depths-loop-x-preserved : goal.suffixed_depths-loop-x-preserved
suffixed_depths-loop-x-preserved t c = record {
  within = omega (arith, c.in-Some.ensures.fewer, c.loop-x.invariant.within);
  forest = behind_is c.loop-x.left.now c.in-Some.x c.in-Some.ensures c.loop-x.invariant.forest;
  so_far = λ s a f e h only u deep.
      wraps_into s c.forests_join.ensures a _ _ c.loop-x.left.now c.in-Some.x c.loop-x.of c.in-Some.ensures (sym c.is_suffix.ensures ∙ c.if-is_suffix.false)
      (c.loop-x.invariant.so_far s a f e h only u deep);
}

pub suffixed_depths-returns : goal.suffixed_depths-returns
suffixed_depths-returns t c s a f e h only u deep =
    wraps_end s a _ _ c.loop-x.left.now c.loop-x.of c.in_default.ensures (c.loop-x.invariant.so_far s a f e h only u deep)
