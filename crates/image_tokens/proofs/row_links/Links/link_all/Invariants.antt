use Rattle.std.proofs.Common.{length, ◌-◌}
use Rattle.image_tokens.specs.RowLinks.{AreLinked}
use Rattle.image_tokens.proofs.row_links.Links.link_all.Given as goal

abbrev pub invariant-loop-self : goal.invariant-loop-self
invariant-loop-self l = AreLinked l.rows l.self

abbrev pub decreases-loop-self : goal.decreases-loop-self
decreases-loop-self l = length l.rows - length l.self.nexts
