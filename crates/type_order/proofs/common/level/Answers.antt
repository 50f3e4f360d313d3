use Rattle.std.proofs.Common.{◌∙◌}
use Rattle.sig_pool.specs.Terms.{term_of}
use Rattle.type_hierarchy.specs.Tables.{hierarchy_in}
use Rattle.type_hierarchy.proofs.GrowLemmas.{extends_trans}
use Rattle.type_order.proofs.FoundLemmas.{extends_self, standing_more}
use Rattle.type_order.proofs.StandingLemmas.{depth_before, least_some, no_lower, raised_at, sides_level}
use Rattle.type_order.proofs.common.level.Goals as goal

pub raised-requires-clause-some : goal.raised-requires-clause-some
raised-requires-clause-some c =
    least_some (hierarchy_in c.args.tables.now) (term_of c.standing_of.new.pool c.args.a) (term_of c.standing_of-2.new.pool c.args.b) c.in_ok-from.from.depth c.in_ok-to.to.depth c.lesser-depth.result c.in_ok-from.ensures.ok.depth
    c.in_ok-to.ensures.ok.depth c.lesser-depth.ensures.one

pub raised-requires-clause-depth : goal.raised-requires-clause-depth
raised-requires-clause-depth c =
    let w = hierarchy_in c.args.tables.now in
    let st = standing_more w c.standing_of.new.pool c.standing_of-2.new.pool c.args.a c.in_ok-from.from c.in_ok-to.ensures.extends c.in_ok-from.ensures.ok in
    no_lower w (term_of c.standing_of-2.new.pool c.args.a) c.in_ok-from.from.depth c.lesser-depth.result st.depth c.lesser-depth.ensures.first

pub raised-requires-2-clause-some : goal.raised-requires-2-clause-some
raised-requires-2-clause-some c =
    least_some (hierarchy_in c.args.tables.now) (term_of c.standing_of.new.pool c.args.a) (term_of c.standing_of-2.new.pool c.args.b) c.in_ok-from.from.depth c.in_ok-to.to.depth c.lesser-depth.result c.in_ok-from.ensures.ok.depth
    c.in_ok-to.ensures.ok.depth c.lesser-depth.ensures.one

pub raised-requires-2-clause-depth : goal.raised-requires-2-clause-depth
raised-requires-2-clause-depth c =
    let w = hierarchy_in c.args.tables.now in
    let st = standing_more w c.standing_of-2.new.pool c.raised.new.pool c.args.b c.in_ok-to.to c.in_ok-left.ensures.extends c.in_ok-to.ensures.ok in
    no_lower w (term_of c.raised.new.pool c.args.b) c.in_ok-to.to.depth c.lesser-depth.result st.depth c.lesser-depth.ensures.second

pub returns-in_err-right-clause-extends : goal.returns-in_err-right-clause-extends
returns-in_err-right-clause-extends c =
    let ns = c.args.pool.now in
    let two = extends_trans ns c.standing_of.new.pool c.standing_of-2.new.pool c.in_ok-from.ensures.extends c.in_ok-to.ensures.extends in
    extends_trans ns c.raised.new.pool c.raised-2.new.pool (extends_trans ns c.standing_of-2.new.pool c.raised.new.pool two c.in_ok-left.ensures.extends) c.raised-2.ensures.extends

pub returns-clause-ok : goal.returns-clause-ok
returns-clause-ok c =
    let w = hierarchy_in c.args.tables.now in
    let ns = c.args.pool.now in
    let x = c.in_ok-from.ensures.extends in
    let two = extends_trans ns c.standing_of.new.pool c.standing_of-2.new.pool x c.in_ok-to.ensures.extends in
    let three = extends_trans ns c.standing_of-2.new.pool c.raised.new.pool two c.in_ok-left.ensures.extends in
    sides_level w c.raised-2.new.pool (term_of ns c.args.a) (term_of ns c.args.b) c.in_ok-from.from.depth c.in_ok-to.to.depth _
    (depth_before w ns c.standing_of.new.pool c.args.a c.in_ok-from.from x c.requires.a c.in_ok-from.ensures.ok)
    (depth_before w ns c.standing_of-2.new.pool c.args.b c.in_ok-to.to two c.requires.b c.in_ok-to.ensures.ok)
    c.lesser-depth.ensures.first c.lesser-depth.ensures.second c.lesser-depth.ensures.one
    (raised_at w c.raised.new.pool c.raised-2.new.pool _ _ c.lesser-depth.result c.in_ok-left.left c.in_ok-right.ensures.extends c.in_ok-left.ensures.ok (two.terms c.args.a c.requires.a))
    (raised_at w c.raised-2.new.pool c.raised-2.new.pool _ _ c.lesser-depth.result c.in_ok-right.right (extends_self c.raised-2.new.pool) c.in_ok-right.ensures.ok (three.terms c.args.b c.requires.b))

pub returns-clause-extends : goal.returns-clause-extends
returns-clause-extends c =
    let ns = c.args.pool.now in
    let two = extends_trans ns c.standing_of.new.pool c.standing_of-2.new.pool c.in_ok-from.ensures.extends c.in_ok-to.ensures.extends in
    extends_trans ns c.raised.new.pool c.raised-2.new.pool (extends_trans ns c.standing_of-2.new.pool c.raised.new.pool two c.in_ok-left.ensures.extends) c.in_ok-right.ensures.extends
