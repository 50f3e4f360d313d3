use Rattle.std.proofs.Common.{subst}
use Rattle.sig_pool.specs.Pool.{IsPool}
use Rattle.type_hierarchy.specs.World.{hierarchy, type_at}
use Rattle.class_notes.proofs.FillingLemmas.{found_as}
use Rattle.class_notes.proofs.filling.is_own_filled.Goals as goal

pub returns-clause-ok : goal.returns-clause-ok
returns-clause-ok c = λ a h.
    found_as a (hierarchy c.args.w.now) c.args.w.now.nodes c.wants_of.new.w.nodes c.args.facts.now c.args.at.now (type_at c.args.w.now c.args.face.now) c.args.slot.now c.in_ok-wanted.wanted c.is_offered.result
    (subst IsPool c.pool.ensures c.len.ensures.pool) c.in_ok-wanted.ensures.stays.nodes c.requires.at h c.in_ok-wanted.ensures.wanted c.is_offered.ensures.answer
