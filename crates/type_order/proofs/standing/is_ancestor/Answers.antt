use Rattle.std.proofs.Common.{arith, ◌∙◌, sym, subst}
use Rattle.type_terms.specs.declared.term.SigType.{SigType}
use Rattle.sig_pool.specs.Terms.{term_of}
use Rattle.type_hierarchy.specs.Hierarchy.{Chain}
use Rattle.type_hierarchy.specs.Tables.{hierarchy_in}
use Rattle.type_hierarchy.proofs.GrowLemmas.{extends_trans, extends_long}
use Rattle.type_order.proofs.FoundLemmas.{standing_more}
use Rattle.type_order.proofs.StandingLemmas.{depth_before, depth_some, no_ancestor, no_lower, ancestor_same}
use Rattle.type_order.proofs.WalkLemmas.{false_when}
use Rattle.type_order.proofs.standing.is_ancestor.Goals as goal

pub returns-then-low-high-clause-ok : goal.returns-then-low-high-clause-ok
returns-then-low-high-clause-ok c =
    let w = hierarchy_in c.args.tables.now in
    let ns = c.args.pool.now in
    let x = c.in_ok-low.ensures.extends in
    let z = extends_trans ns c.standing_of.new.pool c.standing_of-2.new.pool x c.in_ok-high.ensures.extends in
    false_when (no_ancestor w (term_of ns c.args.a) (term_of ns c.args.b) c.in_ok-low.low.depth c.in_ok-high.high.depth
    (depth_before w ns c.standing_of.new.pool c.args.a c.in_ok-low.low x c.requires.a c.in_ok-low.ensures.ok)
    (depth_before w ns c.standing_of-2.new.pool c.args.b c.in_ok-high.high z c.requires.b c.in_ok-high.ensures.ok) c.if-low-high.true)

pub raised-requires-clause-some : goal.raised-requires-clause-some
raised-requires-clause-some c = depth_some (hierarchy_in c.args.tables.now) (term_of c.standing_of-2.new.pool c.args.b) c.in_ok-high.high.depth c.in_ok-high.ensures.ok.depth

pub raised-requires-clause-depth : goal.raised-requires-clause-depth
raised-requires-clause-depth c =
    let w = hierarchy_in c.args.tables.now in
    let st = standing_more w c.standing_of.new.pool c.standing_of-2.new.pool c.args.a c.in_ok-low.low c.in_ok-high.ensures.extends c.in_ok-low.ensures.ok in
    no_lower w (term_of c.standing_of-2.new.pool c.args.a) c.in_ok-low.low.depth c.in_ok-high.high.depth st.depth (omega (arith, c.if-low-high.false))

pub returns-clause-ok : goal.returns-clause-ok
returns-clause-ok c =
    let w = hierarchy_in c.args.tables.now in
    let ns = c.args.pool.now in
    let x = c.in_ok-low.ensures.extends in
    let y = c.in_ok-high.ensures.extends in
    let z = extends_trans ns c.standing_of.new.pool c.standing_of-2.new.pool x y in
    let r = c.in_ok-at.ensures.ok in
    let la = extends_long ns c.standing_of-2.new.pool z in
    let hb = c.requires.b in
    let from = z.terms c.args.a c.requires.a in
    let later = c.in_ok-at.ensures.extends.terms c.args.b (omega arith) ∙ z.terms c.args.b c.requires.b in
    let there = term_of c.raised.new.pool c.in_ok-at.at in
    ancestor_same w (term_of ns c.args.a) (term_of ns c.args.b) there (term_of c.raised.new.pool c.args.b) c.in_ok-high.high.depth c.same.result
    (subst (λ (t : SigType). Chain w t there) from r.chain) r.has
    (depth_before w ns c.standing_of-2.new.pool c.args.b c.in_ok-high.high z c.requires.b c.in_ok-high.ensures.ok) later c.same.ensures.types
