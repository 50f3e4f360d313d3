use Rattle.std.proofs.Common.{◌≡◌, take}
use Rattle.std.specs.List.{filter_map}
use Rattle.body_codec.specs.NamedTokens.{caught_in}
use Rattle.body_codec.specs.ReadingClauses.{rows_of}
use Rattle.body_outlines.proofs.uses.catches_of.Given as goal

abbrev pub invariant-loop-one : goal.invariant-loop-one
invariant-loop-one l = l.tokens ≡ filter_map caught_in (take l.one-index (rows_of l.found))
