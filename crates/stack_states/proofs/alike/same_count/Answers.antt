use Rattle.std.proofs.Common.{◌≡◌, false, true, arith, refl, length}
use Rattle.std.proofs.lemmas.Option.{slice_get_read}
use Rattle.stack_states.proofs.Sharing.{same_fronts}
use Rattle.stack_states.proofs.StackLemmas.{differ, same_more}
use Rattle.stack_states.proofs.alike.same_count.Goals as goal

pub returns-then-not-same_type-clause-same : goal.returns-then-not-same_type-clause-same
returns-then-not-same_type-clause-same c = same_fronts c.args.pool.now c.args.s.now c.args.t.now c.loop-k.k c.requires.depth (omega arith) c.loop-k.invariant

pub returns-then-not-same_type-clause-differ : goal.returns-then-not-same_type-clause-differ
returns-then-not-same_type-clause-differ c = λ below e.
    let s = c.args.s.now in
    let t = c.args.t.now in
    let at_s = slice_get_read s (length s) c.loop-k.k c.index-s-k.result refl (omega arith) c.index-s-k.is in
    let at_t = slice_get_read t (length t) c.loop-k.k c.index-t-k.result refl (omega arith) c.index-t-k.is in
    differ c.args.pool.now s t c.loop-k.k c.index-s-k.result c.index-t-k.result at_s at_t
    (λ same. let yes : c.same_type.result ≡ true = c.same_type.ensures.1 same in let no : c.same_type.result ≡ false = grind arith in cc) e

pub loop-k-preserved : goal.loop-k-preserved
loop-k-preserved c =
    let s = c.args.s.now in
    let t = c.args.t.now in
    let yes : c.same_type.result ≡ true = grind arith in
    let at_s = slice_get_read s (length s) c.loop-k.k c.index-s-k.result refl (omega arith) c.index-s-k.is in
    let at_t = slice_get_read t (length t) c.loop-k.k c.index-t-k.result refl (omega arith) c.index-t-k.is in
    same_more c.args.pool.now s t c.loop-k.k c.index-s-k.result c.index-t-k.result at_s at_t (c.same_type.ensures.0 yes) c.loop-k.invariant

pub returns-clause-same : goal.returns-clause-same
returns-clause-same c = same_fronts c.args.pool.now c.args.s.now c.args.t.now (length c.args.s.now) c.requires.depth (omega arith) (λ i below. c.loop-k.invariant i (omega arith))
