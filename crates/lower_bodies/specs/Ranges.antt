-- The ranges of clauses as the code holds them (ECMA-335 II.19).
use Rattle.source_model.specs.Clauses.{Range}
use Rattle.lower_bodies.specs.declared.clause_ranges.CodeRange.{CodeRange}

abbrev pub range_of : CodeRange → Range
range_of r = record { start = r.start; end = r.end }
