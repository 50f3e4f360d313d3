-- The tokens that a body names, in order (II.25.4.3, II.25.4.6, III.1.9).
use Rattle.std.specs.Prelude.{◌≡◌, ℕ, ◌==◌, if◌then◌else◌, List, [], ◌∷◌, ◌++◌, Option, None, Some}
use Rattle.std.specs.List.{filter_map}
use Rattle.body_codec.specs.declared.decoding.sections.ClauseRow.{ClauseRow}
use Rattle.body_codec.specs.Instruction.{Piece, kind, number}
use Rattle.body_codec.specs.Names.{takes_token}
use Rattle.body_codec.specs.Header.{HasHeader, locals_token}
use Rattle.body_codec.specs.Sections.{clause_rows}
use Rattle.body_codec.specs.Faults.{IsOutline}

-- that of an instruction, where its operand is one
abbrev pub token_in : Piece → Option ℕ
token_in p = if takes_token (kind p.op) then Some (number p.tail) else None

-- that of a clause, where it catches
abbrev pub caught_in : ClauseRow → Option ℕ
caught_in row = if row.kind == 0 then Some row.class_or_filter else None

-- that of the locals, where it isn't 0
abbrev pub locals_in : ℕ → List ℕ
locals_in token = if token == 0 then [] else token ∷ []

-- These are all tokens that the body names.
pub record AreNamed (bytes : List ℕ) (tokens : List ℕ) : Type 0 where
  pub header : HasHeader bytes
  pub pieces : List Piece
  pub outline : IsOutline bytes pieces
  pub all : tokens ≡ locals_in (locals_token bytes) ++ (filter_map token_in pieces ++ filter_map caught_in (clause_rows bytes))
