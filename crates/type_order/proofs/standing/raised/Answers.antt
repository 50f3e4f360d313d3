use Rattle.type_hierarchy.specs.Tables.{hierarchy_in}
use Rattle.type_hierarchy.proofs.GrowLemmas.{extends_trans}
use Rattle.type_order.proofs.StandingLemmas.{raises_begin, raises_more, raises_less}
use Rattle.type_order.proofs.standing.raised.Goals as goal

pub raise-init : goal.raise-init
raise-init c = record {
  known = c.in_ok-standing.ensures.known;
  raises = raises_begin (hierarchy_in c.args.tables.now) c.args.pool.now c.standing_of.new.pool c.args.id c.args.depth c.in_ok-standing.standing c.requires.id c.in_ok-standing.ensures.extends c.in_ok-standing.ensures.ok
      c.requires.depth;
}

pub returns-in_err-standing-2-clause-extends : goal.returns-in_err-standing-2-clause-extends
returns-in_err-standing-2-clause-extends c =
    extends_trans c.args.pool.now c.next_up.new.pool c.standing_of-in-raise.new.pool (extends_trans c.args.pool.now c.raise.pool c.next_up.new.pool c.raise.invariant.raises.extends c.next_up.ensures.extends) c.standing_of-in-raise.ensures.extends

pub raise-smaller : goal.raise-smaller
raise-smaller c =
    let x = extends_trans c.args.pool.now c.next_up.new.pool c.standing_of-in-raise.new.pool (extends_trans c.args.pool.now c.raise.pool c.next_up.new.pool c.raise.invariant.raises.extends c.next_up.ensures.extends) c.standing_of-in-raise.ensures.extends in
    raises_less (hierarchy_in c.args.tables.now) c.args.pool.now c.raise.pool c.next_up.new.pool c.standing_of-in-raise.new.pool c.args.id c.args.depth c.raise.at c.in_ok-at.at c.raise.standing c.in_ok-standing-2.standing
    c.raise.invariant.raises c.in_ok-at.ensures.ok x c.standing_of-in-raise.ensures.extends c.in_ok-standing-2.ensures.ok

pub raise-preserved : goal.raise-preserved
raise-preserved c =
    let x = extends_trans c.args.pool.now c.next_up.new.pool c.standing_of-in-raise.new.pool (extends_trans c.args.pool.now c.raise.pool c.next_up.new.pool c.raise.invariant.raises.extends c.next_up.ensures.extends) c.standing_of-in-raise.ensures.extends in
    record {
      known = c.in_ok-standing-2.ensures.known;
      raises = raises_more (hierarchy_in c.args.tables.now) c.args.pool.now c.raise.pool c.next_up.new.pool c.standing_of-in-raise.new.pool c.args.id c.args.depth c.raise.at c.in_ok-at.at c.raise.standing c.in_ok-standing-2.standing
          c.raise.invariant.raises c.in_ok-at.ensures.ok x c.standing_of-in-raise.ensures.extends c.in_ok-standing-2.ensures.ok;
    }
