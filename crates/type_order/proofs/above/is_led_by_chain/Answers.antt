use Rattle.std.proofs.Common.{◌∙◌, sym, ap, subst}
use Rattle.type_terms.specs.declared.term.SigType.{SigType}
use Rattle.sig_pool.specs.Terms.{term_of}
use Rattle.type_hierarchy.specs.Hierarchy.{parent}
use Rattle.type_hierarchy.specs.Tables.{hierarchy_in}
use Rattle.type_hierarchy.proofs.GrowLemmas.{extends_trans}
use Rattle.type_order.specs.Found.{IsLedTo}
use Rattle.type_order.proofs.FoundLemmas.{extends_self}
use Rattle.type_order.proofs.LedLemmas.{Climbs, climbs_begin, climbs_more, climbs_end}
use Rattle.type_order.proofs.WalkLemmas.{false_when, false_apart}
use Rattle.type_order.proofs.above.is_led_by_chain.Goals as goal

pub climb-init : goal.climb-init
climb-init c = record { at = c.requires.a; extends = extends_self c.args.pool.now; known = c.requires.known; climbs = climbs_begin (hierarchy_in c.args.tables.now) _ _ }

pub returns-in-None-clause-ok : goal.returns-in-None-clause-ok
returns-in-None-clause-ok c =
    let w = hierarchy_in c.args.tables.now in
    let v = c.climb.invariant in
    let at = term_of c.climb.pool c.climb.at in
    let none = ap (parent w) (sym (c.in_ok-led.ensures.extends.terms c.climb.at v.at)) ∙ (rw c.in-None.is at c.in_ok-parent.ensures.ok) in
    false_when (climbs_end w (term_of c.args.pool.now c.args.a) at (term_of c.args.pool.now c.args.b) v.climbs
    (λ l. false_apart c.in_ok-led.ensures.ok c.if-led.false (subst (λ (t : SigType). IsLedTo w at t) (sym (v.extends.terms c.args.b c.requires.b)) l)) none)

pub climb-preserved : goal.climb-preserved
climb-preserved c =
    let w = hierarchy_in c.args.tables.now in
    let v = c.climb.invariant in
    let at = term_of c.climb.pool c.climb.at in
    let x = c.in_ok-led.ensures.extends in
    let y = c.found_parent.ensures.extends in
    let has = rw c.in-Some.is at c.in_ok-parent.ensures.ok in
    let e = ap (parent w) (sym (x.terms c.climb.at v.at)) ∙ has.1 in
    let s = term_of c.args.pool.now c.args.a in
    let t = term_of c.args.pool.now c.args.b in
    record {
      at = has.2.within;
      extends = extends_trans c.args.pool.now c.is_led.new.pool c.found_parent.new.pool (extends_trans c.args.pool.now c.climb.pool c.is_led.new.pool v.extends x) y;
      known = c.found_parent.ensures.known;
      climbs = subst (λ (u : SigType). Climbs w s u t) (sym has.2.term) (climbs_more w s at has.0 t v.climbs
          (λ l. false_apart c.in_ok-led.ensures.ok c.if-led.false (subst (λ (u : SigType). IsLedTo w at u) (sym (v.extends.terms c.args.b c.requires.b)) l)) e);
    }
