use Rattle.std.proofs.Common.{◌∙◌, sym, subst}
use Rattle.ilasm_grammar.specs.declared.productions.TheConstants.{DATA}
use Rattle.source_nodes.proofs.Collecting.{after_is, behind_is, below_is, is_branch}
use Rattle.check_names.proofs.MappedData.{Lengths, lengths_end, lengths_go_in, lengths_start, lengths_take}
use Rattle.check_names.proofs.mapped_data.lengths.Goals as goal

pub loop-x-init : goal.loop-x-init
loop-x-init c = record {
  forest = c.requires;
  so_far = λ s r.
      subst (Lengths s s.tree c.args.reader.now.nodes.now) (sym c.new-found.ensures)
      (lengths_start s s.tree c.args.reader.now.nodes.now r.nodes (c.derivations_have_bodies.ensures s r.derived).1);
}

pub push_length-requires : goal.push_length-requires
push_length-requires c =
    let b = is_branch DATA c.in-Some.x.node (sym c.is_of.ensures ∙ c.if-is_of.true) in
    below_is c.loop-x.left.now c.in-Some.x DATA b.0 c.in-Some.ensures b.1 c.loop-x.invariant.forest

pub loop-x-preserved-then-is_of : goal.loop-x-preserved-then-is_of
loop-x-preserved-then-is_of c =
    let b = is_branch DATA c.in-Some.x.node (sym c.is_of.ensures ∙ c.if-is_of.true) in
    record {
      forest = after_is c.loop-x.left.now c.in-Some.x DATA b.0 c.in-Some.ensures b.1 c.loop-x.invariant.forest;
      so_far = λ s r.
          lengths_take s s.tree c.loop-x.left.now c.in-Some.x c.loop-x.found c.push_length.new.found b.0 c.in-Some.ensures b.1
          (λ g i h. c.in_ok-push_length.ensures s g r i h) (c.loop-x.invariant.so_far s r);
    }

pub loop-x-preserved : goal.loop-x-preserved
loop-x-preserved c = record {
  forest = behind_is c.loop-x.left.now c.in-Some.x c.in-Some.ensures c.loop-x.invariant.forest;
  so_far = λ s r.
      lengths_go_in s c.forests_join.ensures s.tree c.loop-x.left.now c.in-Some.x c.loop-x.found c.in-Some.ensures (sym c.is_of.ensures ∙ c.if-is_of.false)
      (c.loop-x.invariant.so_far s r);
}

pub returns : goal.returns
returns c s r = lengths_end s s.tree c.loop-x.left.now c.loop-x.found c.in_default.ensures (c.loop-x.invariant.so_far s r)
