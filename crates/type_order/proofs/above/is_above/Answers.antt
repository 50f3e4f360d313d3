use Rattle.std.proofs.Common.{subst, Bool, IfOk, IsTrue, ◌↔◌}
use Rattle.type_terms.specs.declared.term.SigType.{SigType}
use Rattle.sig_pool.specs.Terms.{term_of}
use Rattle.type_hierarchy.specs.Tables.{hierarchy_in}
use Rattle.type_hierarchy.proofs.Climbing.{chain_up}
use Rattle.type_hierarchy.proofs.GrowLemmas.{extends_trans}
use Rattle.type_order.specs.Found.{IsLedByChain}
use Rattle.type_order.proofs.LedLemmas.{above_by_led}
use Rattle.type_order.proofs.WalkLemmas.{true_when, false_apart, if_ok_same}
use Rattle.type_order.proofs.above.is_above.Goals as goal

pub returns-then-met-clause-ok : goal.returns-then-met-clause-ok
returns-then-met-clause-ok c = true_when (chain_up (hierarchy_in c.args.tables.now) (c.in_ok-met.ensures.ok.0 c.if-met.true))

pub returns-clause-ok : goal.returns-clause-ok
returns-clause-ok c =
    let w = hierarchy_in c.args.tables.now in
    let more = c.in_ok-met.ensures.extends in
    let s = term_of c.args.pool.now c.args.a in
    let t = term_of c.args.pool.now c.args.b in
    let P = λ (x y : SigType). IfOk c.is_led_by_chain.result (λ (r : Bool). IsTrue r ↔ IsLedByChain w x y) in
    let led : P s t = subst (λ (x : SigType). P x t) (more.terms c.args.a c.requires.a)
    (subst (λ (y : SigType). P (term_of c.is_ancestor.new.pool c.args.a) y) (more.terms c.args.b c.requires.b) c.is_led_by_chain.ensures.ok) in
    if_ok_same c.is_led_by_chain.result (above_by_led w s t (false_apart c.in_ok-met.ensures.ok c.if-met.false)) led

pub returns-clause-extends : goal.returns-clause-extends
returns-clause-extends c = extends_trans c.args.pool.now c.is_ancestor.new.pool c.is_led_by_chain.new.pool c.in_ok-met.ensures.extends c.is_led_by_chain.ensures.extends
