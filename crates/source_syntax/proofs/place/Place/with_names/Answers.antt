use Rattle.std.proofs.Common.{◌++◌, refl, sym, ◌∙◌}
use Rattle.ilasm_grammar.specs.declared.productions.TheConstants.{SLASH_NAME}
use Rattle.source_nodes.proofs.Collecting.{below_is, after_is, behind_is, is_branch}
use Rattle.source_syntax.proofs.PathLemmas.{name_taken, names_end, names_go_in, names_start}
use Rattle.source_syntax.proofs.ScopeLemmas.{later_ids}
use Rattle.source_syntax.proofs.place.Place.with_names.Goals as goal

pub loop-x-init : goal.loop-x-init
loop-x-init c = record {
  forest = c.requires;
  so_far = λ s a x f e bodies. names_start s (c.args.path ++ later_ids s f) f c.args.nodes.now c.args.path e bodies refl;
}

pub leaf_at-requires : goal.leaf_at-requires
leaf_at-requires c =
    let b = is_branch SLASH_NAME c.in-Some.x.node (sym c.is_of.ensures ∙ c.if-is_of.true) in
    below_is c.loop-x.left.now c.in-Some.x SLASH_NAME b.0 c.in-Some.ensures b.1 c.loop-x.invariant.forest

pub loop-x-preserved-then-is_of : goal.loop-x-preserved-then-is_of
loop-x-preserved-then-is_of c =
    let b = is_branch SLASH_NAME c.in-Some.x.node (sym c.is_of.ensures ∙ c.if-is_of.true) in
    record {
      forest = after_is c.loop-x.left.now c.in-Some.x SLASH_NAME b.0 c.in-Some.ensures b.1 c.loop-x.invariant.forest;
      so_far = λ s a x f e bodies.
          name_taken s (c.args.path ++ later_ids s f) c.loop-x.left.now c.in-Some.x c.loop-x.longer c.push.new.self b.0 c.in_ok-id.id c.leaf_at.result c.in-Some.ensures b.1
          (λ g h. c.leaf_at.ensures g h) (c.in_ok-id.ensures s x.reads) c.in_ok-push.ensures.ok (c.loop-x.invariant.so_far s a x f e bodies);
    }

pub loop-x-preserved : goal.loop-x-preserved
loop-x-preserved c = record {
  forest = behind_is c.loop-x.left.now c.in-Some.x c.in-Some.ensures c.loop-x.invariant.forest;
  so_far = λ s a x f e bodies.
      names_go_in s (c.args.path ++ later_ids s f) c.forests_join.ensures c.loop-x.left.now c.in-Some.x c.loop-x.longer c.in-Some.ensures
      (sym c.is_of.ensures ∙ c.if-is_of.false) (c.loop-x.invariant.so_far s a x f e bodies);
}

pub returns : goal.returns
returns c s a x f e bodies =
    names_end s (c.args.path ++ later_ids s f) c.loop-x.left.now c.loop-x.longer c.in_default.ensures (c.loop-x.invariant.so_far s a x f e bodies)
