use Rattle.std.proofs.Common.{◌∙◌, refl, sym, subst}
use Rattle.std.specs.Prelude.{None}
use Rattle.source_model.specs.Forest.{the}
use Rattle.source_nodes.proofs.Collecting.{behind_is}
use Rattle.check_members.specs.MemberKinds.{places, production_of}
use Rattle.check_members.proofs.MemberParts.{chosen_after, chosen_below}
use Rattle.check_members.proofs.MemberWalks.{LeftOf, at_end, at_start, goes_in, goes_past, said}
use Rattle.check_members.proofs.member_reading.Signatures.again_of.Goals as goal

pub loop-x-init : goal.loop-x-init
loop-x-init g c = record {
  forest = c.requires;
  so_far = λ s a f v r p h e b.
      subst (LeftOf s a c.args.kind c.args.level f c.args.nodes.now None) (sym c.new-before.ensures) (at_start s a c.args.kind c.args.level f c.args.nodes.now e b);
}

pub add-requires : goal.add-requires
add-requires g c = record {
  forest = chosen_below (places c.args.level) c.loop-x.left.now c.in-Some.x c.in-Some.ensures (sym c.is_place.ensures ∙ c.if-is_place.true) c.loop-x.invariant.forest;
  few = c.in-Some.ensures.few;
}

pub loop-x-preserved-then-is_declared_by : goal.loop-x-preserved-then-is_declared_by
loop-x-preserved-then-is_declared_by g c =
    let place = sym c.is_place.ensures ∙ c.if-is_place.true in
    record {
      forest = chosen_after (places c.args.level) c.loop-x.left.now c.in-Some.x c.in-Some.ensures place c.loop-x.invariant.forest;
      so_far = λ s a f v r p h e b.
          let d = said s a c.args.kind c.args.level f c.loop-x.left.now c.loop-x.found c.loop-x.before c.in-Some.x c.in-Some.ensures
          (c.loop-x.invariant.so_far s a f v r p h e b) place (sym c.is_declared_by.ensures ∙ c.if-is_declared_by.true) in
          d.next c.in_ok-again.again c.sooner-found.result c.add.new.before
          (c.in_ok-again.ensures s a d.below (the (production_of c.args.kind) d.below) v r p h d.below-is refl d.fits d.bodies) c.sooner-found.ensures;
    }

pub loop-x-preserved-else-is_declared_by : goal.loop-x-preserved-else-is_declared_by
loop-x-preserved-else-is_declared_by g c =
    let place = sym c.is_place.ensures ∙ c.if-is_place.true in
    record {
      forest = chosen_after (places c.args.level) c.loop-x.left.now c.in-Some.x c.in-Some.ensures place c.loop-x.invariant.forest;
      so_far = λ s a f v r p h e b.
          goes_past s a c.args.kind c.args.level f c.loop-x.left.now c.loop-x.found c.loop-x.before c.in-Some.x c.in-Some.ensures
          (c.loop-x.invariant.so_far s a f v r p h e b) place (sym c.is_declared_by.ensures ∙ c.if-is_declared_by.false);
    }

pub loop-x-preserved : goal.loop-x-preserved
loop-x-preserved g c = record {
  forest = behind_is c.loop-x.left.now c.in-Some.x c.in-Some.ensures c.loop-x.invariant.forest;
  so_far = λ s a f v r p h e b.
      goes_in s a c.args.kind c.args.level f c.loop-x.left.now c.loop-x.found c.loop-x.before c.in-Some.x c.in-Some.ensures (c.loop-x.invariant.so_far s a f v r p h e b)
      c.forests_join.ensures (sym c.is_place.ensures ∙ c.if-is_place.false);
}

pub returns : goal.returns
returns g c s a f v r p h e b =
    at_end s a c.args.kind c.args.level f c.loop-x.left.now c.loop-x.found c.loop-x.before c.in_default.ensures (c.loop-x.invariant.so_far s a f v r p h e b)
