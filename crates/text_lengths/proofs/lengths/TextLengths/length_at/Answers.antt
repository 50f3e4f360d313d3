use Rattle.std.proofs.Common.{◌∙◌}
use Rattle.text_lengths.proofs.Fronts.{first_is, other_is}
use Rattle.text_lengths.proofs.lengths.TextLengths.length_at.Goals as goal

pub returns-then-at-eq0 : goal.returns-then-at-eq0
returns-then-at-eq0 c = first_is c.args.self.now c.args.at c.if-at-eq0.true

pub returns : goal.returns
returns c = λ text h.
    c.number_at.ensures
    ∙ other_is c.self.inside.heap.now c.args.self.now c.self.inside.lengths.items c.deref.result.now c.args.at c.self.invariant c.self.view_is c.deref.ensures.value c.if-at-eq0.false text h
