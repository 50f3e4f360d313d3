-- What follows of a source that breaks no rule.
use Rattle.std.specs.Prelude.{◌≡◌, []}
use Rattle.ilasm_grammar.specs.Parsing.{IsTreeOf}
use Rattle.source_model.specs.Forest.{preorder}
use Rattle.source_model.specs.OutOfRange.{numbers_out_of_range}
use Rattle.source_model.specs.Source.{Source}
use Rattle.source_flags.specs.InRange.{AllInRange}

-- where no number of a derivation is out of its range, each production is in range by itself
abbrev pub AllAreInRange : Type 0
AllAreInRange = (s : Source) → IsTreeOf s.tokens (preorder s.tree) → numbers_out_of_range s ≡ [] → AllInRange s s.tree
