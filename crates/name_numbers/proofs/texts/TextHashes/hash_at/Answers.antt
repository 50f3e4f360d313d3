use Rattle.std.proofs.Common.{◌∙◌}
use Rattle.name_numbers.proofs.Fronts.{hash_first, hash_seen}
use Rattle.name_numbers.proofs.texts.TextHashes.hash_at.Goals as goal

pub returns-then-at-eq0 : goal.returns-then-at-eq0
returns-then-at-eq0 c = hash_first c.args.self.now c.args.at c.if-at-eq0.true

pub returns : goal.returns
returns c =
    c.number_at.ensures
    ∙ hash_seen c.self.inside.heap.now c.args.self.now c.self.inside.hashes.items c.deref.result.now c.args.at c.self.invariant c.self.view_is c.deref.ensures.value c.if-at-eq0.false
