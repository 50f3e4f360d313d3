use Rattle.std.proofs.Common.{◌∙◌, sym, subst}
use Rattle.source_nodes.proofs.Collecting.{behind_is}
use Rattle.check_members.specs.MemberKinds.{places}
use Rattle.check_members.specs.declared.member_kinds.Level.TheVariants as level
use Rattle.check_members.proofs.AccessorWalks.{MethodsLeft, declared, methods_end, methods_in_other, methods_past, methods_start}
use Rattle.check_members.proofs.MemberParts.{chosen_after, chosen_below}
use Rattle.check_members.proofs.member_reading.Signatures.methods_of.Goals as goal

pub loop-x-init : goal.loop-x-init
loop-x-init g c = record {
  forest = c.requires;
  so_far = λ s a v r p h e b. subst (MethodsLeft s a c.args.class.now) (sym c.new-methods.ensures) (methods_start s a c.args.class.now e b);
}

pub add_method-requires : goal.add_method-requires
add_method-requires g c = record {
  forest = chosen_below (places level.Class) c.loop-x.left.now c.in-Some.x c.in-Some.ensures (sym c.is_place.ensures ∙ c.if-is_place.true) c.loop-x.invariant.forest;
  few = c.in-Some.ensures.few;
}

pub loop-x-preserved-then-is_declared_by : goal.loop-x-preserved-then-is_declared_by
loop-x-preserved-then-is_declared_by g c =
    let place = sym c.is_place.ensures ∙ c.if-is_place.true in
    record {
      forest = chosen_after (places level.Class) c.loop-x.left.now c.in-Some.x c.in-Some.ensures place c.loop-x.invariant.forest;
      so_far = λ s a v r p h e b.
          let d = declared s a c.loop-x.left.now c.loop-x.methods c.in-Some.x c.in-Some.ensures (c.loop-x.invariant.so_far s a v r p h e b) place
          (sym c.is_declared_by.ensures ∙ c.if-is_declared_by.true) in
          d.next c.add_method.new.methods (c.in_ok-add_method.ensures s a d.below v r p h d.below-is d.fits d.bodies);
    }

pub loop-x-preserved-else-is_declared_by : goal.loop-x-preserved-else-is_declared_by
loop-x-preserved-else-is_declared_by g c =
    let place = sym c.is_place.ensures ∙ c.if-is_place.true in
    record {
      forest = chosen_after (places level.Class) c.loop-x.left.now c.in-Some.x c.in-Some.ensures place c.loop-x.invariant.forest;
      so_far = λ s a v r p h e b.
          methods_past s a c.loop-x.left.now c.loop-x.methods c.in-Some.x c.in-Some.ensures (c.loop-x.invariant.so_far s a v r p h e b) place
          (sym c.is_declared_by.ensures ∙ c.if-is_declared_by.false);
    }

pub loop-x-preserved : goal.loop-x-preserved
loop-x-preserved g c = record {
  forest = behind_is c.loop-x.left.now c.in-Some.x c.in-Some.ensures c.loop-x.invariant.forest;
  so_far = λ s a v r p h e b.
      methods_in_other s a c.loop-x.left.now c.loop-x.methods c.in-Some.x c.in-Some.ensures (c.loop-x.invariant.so_far s a v r p h e b) c.forests_join.ensures
      (sym c.is_place.ensures ∙ c.if-is_place.false);
}

pub returns : goal.returns
returns g c s a v r p h e b = methods_end s a c.loop-x.left.now c.loop-x.methods c.in_default.ensures (c.loop-x.invariant.so_far s a v r p h e b)
