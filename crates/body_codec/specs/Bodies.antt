-- The spelling of a method's body (II.25.4): a header, code, and sections of exception clauses.
use Rattle.std.specs.Prelude.{◌≡◌, ℕ, false, List}
use Rattle.assembly_tree.specs.declared.body.Body.{Body}
use Rattle.body_codec.specs.Instruction.{Piece}
use Rattle.body_codec.specs.Names.{Notation}
use Rattle.body_codec.specs.Spelling.{SpellsCode}
use Rattle.body_codec.specs.Header.{HasHeader, bound_of, inits, locals_token, code_of, SpellsLocals}
use Rattle.body_codec.specs.Sections.{is_broken, body_end, clause_rows, SpellsClauses}

-- The first `size` of these bytes spell this body.
pub record Spells (w : Notation) (bytes : List ℕ) (body : Body) (size : ℕ) : Type 0 where
  pub header : HasHeader bytes
  pub bound : body.bound ≡ bound_of bytes
  pub init : body.init ≡ inits bytes
  pub locals : SpellsLocals w (locals_token bytes) body.locals
  pub pieces : List Piece
  pub code : SpellsCode w pieces body.code (code_of bytes)
  pub read : is_broken bytes ≡ false
  pub clauses : SpellsClauses w pieces (clause_rows bytes) body.clauses
  pub ends : size ≡ body_end bytes
