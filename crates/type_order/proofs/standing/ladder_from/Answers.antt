use Rattle.std.proofs.Common.{arith, refl, sym, ap, ◌∙◌, []}
use Rattle.std.proofs.lemmas.List.{append-nil}
use Rattle.type_hierarchy.specs.Hierarchy.{parent}
use Rattle.type_hierarchy.specs.Tables.{hierarchy_in}
use Rattle.type_hierarchy.proofs.GrowLemmas.{extends_long, extends_trans}
use Rattle.type_order.specs.Found.{foot}
use Rattle.type_order.proofs.StandingLemmas.{ladder_more, ladder_up}
use Rattle.type_order.proofs.standing.ladder_from.Goals as goal

pub climb-init : goal.climb-init
climb-init c = record {
  top = c.requires.id;
  extends = record { more = []; nodes = sym (append-nil c.args.pool.now); terms = λ k h. refl };
  known = c.requires.known;
  ladder = foot c.new-ids.ensures refl;
}

pub returns-in-Some-clause-ok : goal.returns-in-Some-clause-ok
returns-in-Some-clause-ok c = (c.climb.invariant.ladder, c.climb.invariant.known.standings c.climb.top c.in-Some.standing c.in-Some.ensures)

pub returns-in-None-clause-ok : goal.returns-in-None-clause-ok
returns-in-None-clause-ok c =
    let w = hierarchy_in c.args.tables.now in
    let v = c.climb.invariant in
    let x = c.found_parent.ensures.extends in
    let none = rw c.in-None.is at c.in_ok-parent.ensures.ok in
    let low = extends_long c.climb.pool c.found_parent.new.pool x in
    let top = v.top in (
      ladder_more w c.climb.pool c.found_parent.new.pool c.args.id x v.top v.ladder,
      c.at_top-standing.ensures w c.found_parent.new.pool (omega arith) (ap (parent w) (x.terms c.climb.top v.top) ∙ none),
    )

pub climb-preserved : goal.climb-preserved
climb-preserved c =
    let w = hierarchy_in c.args.tables.now in
    let v = c.climb.invariant in
    let x = c.found_parent.ensures.extends in
    let has = rw c.in-Some-2.is at c.in_ok-parent.ensures.ok in
    record {
      top = has.2.within;
      extends = extends_trans c.args.pool.now c.climb.pool c.found_parent.new.pool v.extends x;
      known = c.found_parent.ensures.known;
      ladder = ladder_up w c.climb.pool c.found_parent.new.pool c.args.id c.climb.top c.in-Some-2.parent c.climb.ids c.push.new.self v.ladder v.top x has c.in_ok-push-in-Some-2.ensures.ok;
    }
