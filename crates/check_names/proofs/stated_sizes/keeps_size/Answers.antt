use Rattle.std.proofs.Common.{◌≡◌, sym, ◌∙◌}
use Rattle.std.specs.Prelude.{false, true}
use Rattle.check_names.specs.TypeDepths.{is_modifier}
use Rattle.source_nodes.proofs.Collecting.{after_is, behind_is}
use Rattle.check_names.proofs.DepthRules.{is_suffix_there}
use Rattle.check_names.proofs.StatedSizes.{sized_end, sized_into, sized_lost, sized_past, sized_start}
use Rattle.check_names.proofs.stated_sizes.keeps_size.Goals as goal

pub loop-x-init : goal.loop-x-init
loop-x-init c = record {
  forest = c.requires;
  so_far = λ s a f e v t. sized_start s v a f c.args.suffixes.now t e;
}

pub loop-x-preserved-then-is_suffix : goal.loop-x-preserved-then-is_suffix
loop-x-preserved-then-is_suffix c =
    let b = is_suffix_there c.in-Some.x.node (sym c.is_suffix.ensures ∙ c.if-is_suffix.true) in
    let modifier : is_modifier b.0 ≡ true = sym (c.is_modifier.ensures b.0 b.1 b.2) ∙ c.if-not-is_modifier.false in
    record {
      forest = after_is c.loop-x.left.now c.in-Some.x b.0 b.1 c.in-Some.ensures b.2 c.loop-x.invariant.forest;
      so_far = λ s a f e v t. sized_past s v a _ _ c.loop-x.left.now c.in-Some.x b.0 b.1 c.in-Some.ensures b.2 b.3 modifier (c.loop-x.invariant.so_far s a f e v t);
    }

pub loop-x-preserved : goal.loop-x-preserved
loop-x-preserved c = record {
  forest = behind_is c.loop-x.left.now c.in-Some.x c.in-Some.ensures c.loop-x.invariant.forest;
  so_far = λ s a f e v t.
      sized_into s v c.forests_join.ensures a _ _ c.loop-x.left.now c.in-Some.x c.in-Some.ensures (sym c.is_suffix.ensures ∙ c.if-is_suffix.false)
      (c.loop-x.invariant.so_far s a f e v t);
}

pub returns-then-not-is_modifier : goal.returns-then-not-is_modifier
returns-then-not-is_modifier c s a f e v t =
    let b = is_suffix_there c.in-Some.x.node (sym c.is_suffix.ensures ∙ c.if-is_suffix.true) in
    let plain : is_modifier b.0 ≡ false = sym (c.is_modifier.ensures b.0 b.1 b.2) ∙ c.if-not-is_modifier.true in
    sized_lost s v a _ _ c.loop-x.left.now c.in-Some.x b.0 b.1 c.in-Some.ensures b.2 b.3 plain (c.loop-x.invariant.so_far s a f e v t)

pub returns : goal.returns
returns c s a f e v t = sized_end s v a _ _ c.loop-x.left.now c.in_default.ensures (c.loop-x.invariant.so_far s a f e v t)
