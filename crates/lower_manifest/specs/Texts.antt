-- Strings in pieces that `+` joins (ECMA-335 II.5.2).
use Rattle.std.specs.Prelude.{ℕ, List, map}
use Rattle.std.specs.List.{flat_map}
use Rattle.ilasm_grammar.specs.declared.productions.TheConstants.{PLUS_STRING}
use Rattle.source_model.specs.Forest.{Forest, each, leaf_at}
use Rattle.source_model.specs.Source.{Source, spelling}
use Rattle.source_model.specs.Values.{between_quotes, unescaped}

-- the bytes of a text in double quotes
abbrev pub piece_bytes : Source → ℕ → List ℕ
piece_bytes s k = unescaped (between_quotes (spelling s k))

-- the bytes of all pieces but the first
abbrev pub later_bytes : Source → Forest → List ℕ
later_bytes s f = flat_map (piece_bytes s) (map (leaf_at 1) (each PLUS_STRING f))
