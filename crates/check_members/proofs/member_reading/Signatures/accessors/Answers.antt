use Rattle.std.proofs.Common.{◌∙◌, sym}
use Rattle.source_nodes.proofs.Collecting.{behind_is}
use Rattle.check_members.specs.OwnMethods.{accessor_items}
use Rattle.check_members.proofs.AccessorWalks.{accessed, accessors_end, accessors_in_other, accessors_start}
use Rattle.check_members.proofs.MemberParts.{chosen_after, chosen_below}
use Rattle.check_members.proofs.member_reading.Signatures.accessors.Goals as goal

pub loop-x-init : goal.loop-x-init
loop-x-init g c = record { forest = c.requires; so_far = λ s a f v r p h here ms e b. accessors_start s a f c.args.nodes.now e b }

pub accessor-requires : goal.accessor-requires
accessor-requires g c = record {
  forest = chosen_below accessor_items c.loop-x.left.now c.in-Some.x c.in-Some.ensures (sym c.is_accessor.ensures ∙ c.if-is_accessor.true) c.loop-x.invariant.forest;
  few = c.in-Some.ensures.few;
}

pub loop-x-preserved-then-is_accessor : goal.loop-x-preserved-then-is_accessor
loop-x-preserved-then-is_accessor g c =
    let own = sym c.is_accessor.ensures ∙ c.if-is_accessor.true in
    record {
      forest = chosen_after accessor_items c.loop-x.left.now c.in-Some.x c.in-Some.ensures own c.loop-x.invariant.forest;
      so_far = λ s a f v r p h here ms e b.
          let d = accessed s a f c.loop-x.left.now c.loop-x.found c.in-Some.x c.in-Some.ensures (c.loop-x.invariant.so_far s a f v r p h here ms e b) own in
          d.next c.in_ok-here.here c.sooner-found.result (c.in_ok-here.ensures s a d.p d.below v r p h here ms d.below-is d.fits d.bodies) c.sooner-found.ensures;
    }

pub loop-x-preserved : goal.loop-x-preserved
loop-x-preserved g c = record {
  forest = behind_is c.loop-x.left.now c.in-Some.x c.in-Some.ensures c.loop-x.invariant.forest;
  so_far = λ s a f v r p h here ms e b.
      accessors_in_other s a f c.loop-x.left.now c.loop-x.found c.in-Some.x c.in-Some.ensures (c.loop-x.invariant.so_far s a f v r p h here ms e b) c.forests_join.ensures
      (sym c.is_accessor.ensures ∙ c.if-is_accessor.false);
}

pub returns : goal.returns
returns g c s a f v r p h here ms e b =
    accessors_end s a f c.loop-x.left.now c.loop-x.found c.in_default.ensures (c.loop-x.invariant.so_far s a f v r p h here ms e b)
