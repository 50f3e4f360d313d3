use Rattle.std.proofs.Common.{arith, ◌≡◌, Some, sym, ap, ◌∙◌, subst, Bool, IfOk, IsTrue, ◌↔◌}
use Rattle.type_terms.specs.declared.term.SigType.{SigType}
use Rattle.sig_pool.specs.Terms.{term_of}
use Rattle.type_hierarchy.specs.Hierarchy.{Up, parent}
use Rattle.type_hierarchy.specs.Relations.{boxed_object}
use Rattle.type_hierarchy.specs.Tables.{hierarchy_in}
use Rattle.type_hierarchy.proofs.GrowLemmas.{extends_long}
use Rattle.type_order.proofs.FitLemmas.{boxed_led, boxed_by_parent, boxed_by_none}
use Rattle.type_order.proofs.WalkLemmas.{true_when, false_when, false_apart, if_ok_same}
use Rattle.type_order.proofs.fits.boxed_fits.Goals as goal

pub returns-then-is_object-clause-ok : goal.returns-then-is_object-clause-ok
returns-then-is_object-clause-ok c = true_when (boxed_object (c.is_object.ensures.0 c.if-is_object.true))

pub returns-then-led-clause-ok : goal.returns-then-led-clause-ok
returns-then-led-clause-ok c =
    true_when (boxed_led (hierarchy_in c.args.tables.now) (term_of c.args.pool.now c.args.a) (term_of c.args.pool.now c.args.b) (false_apart c.is_object.ensures c.if-is_object.false) (c.in_ok-led.ensures.ok.0 c.if-led.true))

pub returns-in-Some-clause-ok : goal.returns-in-Some-clause-ok
returns-in-Some-clause-ok c =
    let w = hierarchy_in c.args.tables.now in
    let s = term_of c.args.pool.now c.args.a in
    let t = term_of c.args.pool.now c.args.b in
    let x = c.in_ok-led.ensures.extends in
    let y = c.found_parent.ensures.extends in
    let has = rw c.in-Some.is at c.in_ok-parent.ensures.ok in
    let p = term_of c.found_parent.new.pool c.in-Some.parent in
    let e : parent w s ≡ Some p = ap (parent w) (sym (x.terms c.args.a c.requires.a)) ∙ has.1 ∙ ap Some (sym has.2.term) in
    let b = y.terms c.args.b (let l = extends_long c.args.pool.now c.is_led.new.pool x in let h = c.requires.b in omega arith) ∙ x.terms c.args.b c.requires.b in
    let above = subst (λ (u : SigType). IfOk c.is_above.result (λ (r : Bool). IsTrue r ↔ Up w p u)) b c.is_above.ensures.ok in
    if_ok_same c.is_above.result (boxed_by_parent w s t (false_apart c.is_object.ensures c.if-is_object.false) (false_apart c.in_ok-led.ensures.ok c.if-led.false) e) above

pub returns-in-None-clause-ok : goal.returns-in-None-clause-ok
returns-in-None-clause-ok c =
    let w = hierarchy_in c.args.tables.now in
    let x = c.in_ok-led.ensures.extends in
    false_when (boxed_by_none w (term_of c.args.pool.now c.args.a) (term_of c.args.pool.now c.args.b) (false_apart c.is_object.ensures c.if-is_object.false) (false_apart c.in_ok-led.ensures.ok c.if-led.false)
    (ap (parent w) (sym (x.terms c.args.a c.requires.a)) ∙ (rw c.in-None.is at c.in_ok-parent.ensures.ok)))
