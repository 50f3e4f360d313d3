-- Code of few instructions, none of which is `switch` (ECMA-335 III.3.15, III.3.66).
use Rattle.std.specs.Prelude.{ℕ, Bool, ◌==◌, ◌&&◌, not, nat_le, List, length}
use Rattle.std.specs.List.{list_all}
use Rattle.ilasm_grammar.specs.declared.productions.TheConstants.{INSTRUCTION_SWITCH}
use Rattle.source_nodes.specs.declared.pieces.Piece.{Piece}

abbrev pub is_bounded : ℕ → Bool
is_bounded p = not (p == INSTRUCTION_SWITCH)

abbrev pub is_short_code : List Piece → Bool
is_short_code code = nat_le (length code) 12 && list_all (λ (x : Piece). is_bounded x.production) code
