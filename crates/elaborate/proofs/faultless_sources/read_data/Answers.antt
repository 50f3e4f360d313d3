use Rattle.std.proofs.Common.{◌∙◌, sym}
use Rattle.source_flags.proofs.Gathered.{has_bodies}
use Rattle.elaborate.proofs.PassedForms.{same_data}
use Rattle.elaborate.proofs.SizelessLemmas.{none_of_any}
use Rattle.elaborate.proofs.faultless_sources.read_data.Goals as goal

pub returns-else-some : goal.returns-else-some
returns-else-some c s r h some =
    let none = none_of_any _ (sym some ∙ c.if-some.false) in
    c.no_data.ensures s (sym (same_data s s.tree (has_bodies s s.tree h)) ∙ none)
