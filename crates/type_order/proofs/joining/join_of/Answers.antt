use Rattle.std.proofs.Common.{◌≡◌, ◌∙◌, sym, ap, inl, inr, None}
use Rattle.type_hierarchy.specs.Meaning.{meant}
use Rattle.type_order.specs.Starts.{start}
use Rattle.type_hierarchy.specs.Tables.{hierarchy_in}
use Rattle.type_order.proofs.JoinIds.{joins_equal, joins_null, joins_bad, joins_starts, meant_kept}
use Rattle.type_order.proofs.WalkLemmas.{false_apart}
use Rattle.type_order.proofs.joining.join_of.Goals as goal

pub returns-then-is_equal-clause-ok : goal.returns-then-is_equal-clause-ok
returns-then-is_equal-clause-ok c =
    joins_equal (hierarchy_in c.args.tables.now) c.args.pool.now c.args.s.now c.args.t.now (c.is_equal.ensures.0 c.if-is_equal.true) c.requires.s

pub returns-in-Some-clause-ok : goal.returns-in-Some-clause-ok
returns-in-Some-clause-ok c =
    joins_null (hierarchy_in c.args.tables.now) c.args.pool.now c.args.s.now c.args.t.now c.in-Some.other (sym c.beside_null.ensures ∙ c.in-Some.is) c.requires.s c.requires.t

pub returns-in-None-clause-ok : goal.returns-in-None-clause-ok
returns-in-None-clause-ok c =
    joins_bad (hierarchy_in c.args.tables.now) c.args.pool.now c.start_id.new.pool c.args.s.now c.args.t.now (false_apart c.is_equal.ensures c.if-is_equal.false) (sym c.beside_null.ensures ∙ c.in_default.is)
    (inl (rw c.in-None.is at c.in_ok-left.ensures.ok))

pub returns-in-None-2-clause-ok : goal.returns-in-None-2-clause-ok
returns-in-None-2-clause-ok c =
    let w = hierarchy_in c.args.tables.now in
    let ns = c.args.pool.now in
    let t = c.args.t.now in
    let none : start w (meant c.start_id.new.pool t) ≡ None = rw c.in-None-2.is at c.in_ok-right-in-Some-2.ensures.ok in
    joins_bad w ns c.start_id-in-Some-2.new.pool c.args.s.now t (false_apart c.is_equal.ensures c.if-is_equal.false) (sym c.beside_null.ensures ∙ c.in_default.is)
    (inr (ap (start w) (sym (meant_kept ns c.start_id.new.pool t c.start_id.ensures.extends c.requires.t)) ∙ none))

pub returns-in_ok-nearest-in-Some-3-clause-ok : goal.returns-in_ok-nearest-in-Some-3-clause-ok
returns-in_ok-nearest-in-Some-3-clause-ok c =
    let w = hierarchy_in c.args.tables.now in
    let left = rw c.in-Some-2.is at c.in_ok-left.ensures.ok in
    let right = rw c.in-Some-3.is at c.in_ok-right-in-Some-2.ensures.ok in
    rw c.new.ensures (joins_starts w c.args.pool.now c.start_id.new.pool c.start_id-in-Some-2.new.pool c.common_id.new.pool c.args.s.now c.args.t.now c.in-Some-2.left c.in-Some-3.right c.in_ok-nearest-in-Some-3.nearest
    (false_apart c.is_equal.ensures c.if-is_equal.false) c.requires.t c.start_id.ensures.extends left c.start_id-in-Some-2.ensures.extends right c.in_ok-nearest-in-Some-3.ensures.ok)
