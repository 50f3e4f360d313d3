use Rattle.std.proofs.Common.{◌∙◌, sym}
use Rattle.ilasm_grammar.specs.declared.productions.TheConstants.{PLUS_STRING}
use Rattle.source_nodes.proofs.Collecting.{after_is, behind_is, below_is, is_branch}
use Rattle.lower_manifest.proofs.TextLemmas.{joined_end, joined_go_in, joined_start, joined_take}
use Rattle.lower_manifest.proofs.texts.with_pieces.Goals as goal

pub loop-x-init : goal.loop-x-init
loop-x-init c = record {
  forest = c.requires;
  so_far = λ s f r e h. joined_start s c.args.first f c.args.nodes.now e h;
}

pub leaf_at-requires : goal.leaf_at-requires
leaf_at-requires c =
    let b = is_branch PLUS_STRING c.in-Some.x.node (sym c.is_of.ensures ∙ c.if-is_of.true) in
    below_is c.loop-x.left.now c.in-Some.x PLUS_STRING b.0 c.in-Some.ensures b.1 c.loop-x.invariant.forest

pub loop-x-preserved-then-is_of : goal.loop-x-preserved-then-is_of
loop-x-preserved-then-is_of c =
    let b = is_branch PLUS_STRING c.in-Some.x.node (sym c.is_of.ensures ∙ c.if-is_of.true) in
    record {
      forest = after_is c.loop-x.left.now c.in-Some.x PLUS_STRING b.0 c.in-Some.ensures b.1 c.loop-x.invariant.forest;
      so_far = λ s f r e h.
          joined_take s c.args.first f c.loop-x.left.now c.in-Some.x c.loop-x.found c.push_piece.new.bytes b.0 c.leaf_at.result c.in-Some.ensures b.1
          (λ g i. c.leaf_at.ensures g i) (λ is. c.in_ok-push_piece.ensures s r is) (c.loop-x.invariant.so_far s f r e h);
    }

pub loop-x-preserved : goal.loop-x-preserved
loop-x-preserved c = record {
  forest = behind_is c.loop-x.left.now c.in-Some.x c.in-Some.ensures c.loop-x.invariant.forest;
  so_far = λ s f r e h.
      joined_go_in s c.args.first c.forests_join.ensures f c.loop-x.left.now c.in-Some.x c.loop-x.found c.in-Some.ensures
      (sym c.is_of.ensures ∙ c.if-is_of.false) (c.loop-x.invariant.so_far s f r e h);
}

pub returns : goal.returns
returns c s f r e h = joined_end s c.args.first f c.loop-x.left.now c.loop-x.found c.in_default.ensures (c.loop-x.invariant.so_far s f r e h)
