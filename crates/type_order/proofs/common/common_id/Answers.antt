use Rattle.sig_pool.specs.Terms.{term_of}
use Rattle.type_hierarchy.proofs.GrowLemmas.{extends_trans}
use Rattle.type_order.proofs.common.common_id.Goals as goal

pub meet-preserved : goal.meet-preserved
meet-preserved c =
    let v = c.meet.invariant in
    record {
      known = c.higher.ensures.known;
      extends = extends_trans c.args.pool.now c.meet.pool c.higher.new.pool v.extends c.higher.ensures.extends;
      sides = (c.in_ok-sides-2.ensures.ok (term_of c.args.pool.now c.args.a) (term_of c.args.pool.now c.args.b) v.sides).sides;
    }
