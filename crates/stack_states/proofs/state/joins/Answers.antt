use Rattle.std.proofs.Common.{◌+◌, arith, refl, sym, subst, length, List}
use Rattle.std.proofs.lemmas.Option.{slice_get_read}
use Rattle.type_hierarchy.specs.World.{hierarchy}
use Rattle.type_hierarchy.specs.declared.stack_type.StackType.{StackType}
use Rattle.stack_states.proofs.StackLemmas.{AreJoined, joined_step}
use Rattle.stack_states.proofs.state.joins.Goals as goal

pub loop-k-preserved : goal.loop-k-preserved
loop-k-preserved c =
    let i = c.loop-k.invariant in
    let s = c.args.s.now in
    let t = c.args.t.now in
    let at_s = slice_get_read s (length s) c.loop-k.k c.index-s-k.result refl (omega arith) c.index-s-k.is in
    let at_t = slice_get_read t (length t) c.loop-k.k c.index-t-k.result refl (omega arith) c.index-t-k.is in
    let keys = c.keys_keep_their_types.ensures.keys in
    let P : List StackType → Type 0 = λ (js : List StackType). AreJoined (hierarchy c.args.w.now) c.args.w.now.nodes s t c.join.new.w.nodes js (c.loop-k.k + 1) in (
      c.keys_keep_their_types.ensures.onward c.args.w.now c.loop-k.w c.join.new.w i.0 c.join.ensures.stays,
      subst P (sym c.in_ok-push.ensures.ok)
          (joined_step c.args.w.now c.loop-k.w c.join.new.w s t c.loop-k.joins c.loop-k.k c.index-s-k.result c.index-t-k.result c.in_ok-both.both
          (keys c.args.w.now c.loop-k.w i.0) (keys c.loop-k.w c.join.new.w c.join.ensures.stays) i.0 c.requires.s c.requires.t at_s at_t i.1 c.in_ok-both.ensures.ok),
      omega arith,
    )
