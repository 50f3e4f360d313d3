use Rattle.std.proofs.Common.{◌∙◌, sym}
use Rattle.source_flags.proofs.Gathered.{has_bodies}
use Rattle.elaborate.proofs.PassedForms.{same_sizes}
use Rattle.elaborate.proofs.SizelessLemmas.{none_of_any}
use Rattle.elaborate.proofs.known_sizes.read_sizes.Goals as goal

pub returns-else-some : goal.returns-else-some
returns-else-some c s r h some =
    let none = none_of_any _ (sym some ∙ c.if-some.false) in
    c.no_sizes.ensures s (sym (same_sizes s s.tree (has_bodies s s.tree h)) ∙ none)
