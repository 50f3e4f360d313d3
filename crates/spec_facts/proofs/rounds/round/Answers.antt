use Rattle.std.proofs.Common.{refl}
use Rattle.spec_facts.proofs.Going.{started}
use Rattle.spec_facts.proofs.rounds.round.Goals as goal

pub loop-place-init : goal.loop-place-init
loop-place-init g c =
    started c.args.image.now (g.N.Owners.facts c.args.names.now) c.args.distinct.now.places c.args.distinct.now.heads c.args.facts.now c.args.facts.now c.args.facts.now c.requires.each refl

pub loop-place-preserved : goal.loop-place-preserved
loop-place-preserved g c = c.look-has_found.ensures.step c.args.facts.now c.loop-place.invariant
