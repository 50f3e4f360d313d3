use Rattle.std.proofs.Common.{sym, ◌∙◌}
use Rattle.ilasm_grammar.specs.declared.productions.TheConstants.{SPEC_TYPE, SPEC_TYPE_NAME}
use Rattle.source_nodes.proofs.Collecting.{after_is, behind_is, below_is, is_branch}
use Rattle.source_syntax.proofs.OwnerLemmas.{name_taken, owners_end, owners_go_in, owners_start, type_taken}
use Rattle.source_syntax.proofs.place.Place.owners_in.Goals as goal

pub loop-x-init : goal.loop-x-init
loop-x-init c = record {
  forest = c.requires;
  so_far = λ s a x f e each. owners_start s a f c.args.nodes.now c.new-owners.result e each c.new-owners.ensures;
}

pub type_name-requires : goal.type_name-requires
type_name-requires c =
    let b = is_branch SPEC_TYPE_NAME c.in-Some.x.node (sym c.is_of.ensures ∙ c.if-is_of.true) in
    below_is c.loop-x.left.now c.in-Some.x SPEC_TYPE_NAME b.0 c.in-Some.ensures b.1 c.loop-x.invariant.forest

pub loop-x-preserved-then-is_of : goal.loop-x-preserved-then-is_of
loop-x-preserved-then-is_of c =
    let b = is_branch SPEC_TYPE_NAME c.in-Some.x.node (sym c.is_of.ensures ∙ c.if-is_of.true) in
    record {
      forest = after_is c.loop-x.left.now c.in-Some.x SPEC_TYPE_NAME b.0 c.in-Some.ensures b.1 c.loop-x.invariant.forest;
      so_far = λ s a x f e each.
          name_taken s a f c.loop-x.left.now c.in-Some.x c.loop-x.owners c.push.new.self b.0 c.in_ok-name.name c.in-Some.ensures b.1
          (λ g i bodies. c.in_ok-name.ensures s a x g i bodies) c.in_ok-push.ensures.ok (c.loop-x.invariant.so_far s a x f e each);
    }

pub first_type-requires : goal.first_type-requires
first_type-requires c =
    let b = is_branch SPEC_TYPE c.in-Some.x.node (sym c.is_of-else-is_of.ensures ∙ c.if-is_of-2.true) in
    below_is c.loop-x.left.now c.in-Some.x SPEC_TYPE b.0 c.in-Some.ensures b.1 c.loop-x.invariant.forest

pub loop-x-preserved-then-is_of-2 : goal.loop-x-preserved-then-is_of-2
loop-x-preserved-then-is_of-2 c =
    let b = is_branch SPEC_TYPE c.in-Some.x.node (sym c.is_of-else-is_of.ensures ∙ c.if-is_of-2.true) in
    record {
      forest = after_is c.loop-x.left.now c.in-Some.x SPEC_TYPE b.0 c.in-Some.ensures b.1 c.loop-x.invariant.forest;
      so_far = λ s a x f e each.
          type_taken s a f c.loop-x.left.now c.in-Some.x c.loop-x.owners c.push-then-is_of-2.new.self b.0 c.in_ok-of.of c.in-Some.ensures b.1
          (λ g i h. c.in_ok-of.ensures s a x g i h) c.in_ok-push-2.ensures.ok (c.loop-x.invariant.so_far s a x f e each);
    }

pub loop-x-preserved : goal.loop-x-preserved
loop-x-preserved c = record {
  forest = behind_is c.loop-x.left.now c.in-Some.x c.in-Some.ensures c.loop-x.invariant.forest;
  so_far = λ s a x f e each.
      owners_go_in s a f c.loop-x.left.now c.in-Some.x c.loop-x.owners c.in-Some.ensures (sym c.is_of.ensures ∙ c.if-is_of.false)
      (sym c.is_of-else-is_of.ensures ∙ c.if-is_of-2.false) (c.loop-x.invariant.so_far s a x f e each);
}

pub returns : goal.returns
returns c s a x f e each = owners_end s a f c.loop-x.left.now c.loop-x.owners c.in_default.ensures (c.loop-x.invariant.so_far s a x f e each)
