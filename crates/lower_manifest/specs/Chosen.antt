-- Those of some parts that are of a kind.
use Rattle.std.specs.Prelude.{List, filter}
use Rattle.source_flags.specs.Lines.{productions_of}
use Rattle.source_flags.specs.declared.gathering.Kind.{Kind}
use Rattle.source_model.specs.Forest.{Part, is_among}

abbrev pub are_of : Kind → List Part → List Part
are_of kind ps = filter (λ p. is_among (productions_of kind) p.production) ps
