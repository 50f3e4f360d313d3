use Rattle.std.specs.Option.{option_copied, option_map}
use Rattle.sig_pool.specs.Replaced.{terms_at}
use Rattle.type_hierarchy.specs.Pooled.{put_in}
use Rattle.type_hierarchy.proofs.GrowLemmas.{args_kept, more_mapped, extends_trans}
use Rattle.type_order.proofs.interfaces.put_in_all.Goals as goal

pub loop-t-preserved : goal.loop-t-preserved
loop-t-preserved c =
    let o = option_copied c.args.args in
    let x = c.t-item.result in
    let kept = args_kept c.args.pool.now c.loop-t.pool o c.loop-t.invariant.extends c.requires.args in
    let has = rw kept at c.in_ok-id.ensures.ok in
    record {
      ids = more_mapped (put_in (option_map (terms_at c.args.pool.now) o)) c.loop-t.pool c.put_in.new.pool c.loop-t.ids c.push.new.self c.args.types.now c.loop-t.t-index c.in_ok-id.id x
          c.loop-t.invariant.ids c.in_ok-id.ensures.extends has c.loop-t-test.true c.t-item.is c.in_ok-push.ensures.ok;
      extends = extends_trans c.args.pool.now c.loop-t.pool c.put_in.new.pool c.loop-t.invariant.extends c.in_ok-id.ensures.extends;
    }
