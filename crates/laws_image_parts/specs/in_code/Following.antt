-- A body is the same where more bytes follow it, as in the code of an image (ECMA-335 II.25.4).
use Rattle.std.specs.Prelude.{◌≡◌, ℕ, false, List, ◌++◌}
use Rattle.assembly_tree.specs.declared.body.Body.{Body}
use Rattle.body_codec.specs.Bodies.{Spells}
use Rattle.body_codec.specs.Header.{HasHeader, is_tiny, code_of, bound_of, inits, locals_token}
use Rattle.body_codec.specs.Names.{NameMap, TokenMap, reading, writing}
use Rattle.body_codec.specs.Sections.{body_end, clause_rows, is_broken}

-- the header, the code and the sections are the same
pub record ReadsSame (bytes longer : List ℕ) : Type 0 where
  pub header : HasHeader longer
  pub tiny : is_tiny longer ≡ is_tiny bytes
  pub bound : bound_of longer ≡ bound_of bytes
  pub init : inits longer ≡ inits bytes
  pub locals : locals_token longer ≡ locals_token bytes
  pub code : code_of longer ≡ code_of bytes
  pub rows : clause_rows longer ≡ clause_rows bytes
  pub read : is_broken longer ≡ false
  pub ends : body_end longer ≡ body_end bytes

-- ---- laws

abbrev pub MoreMayFollow : Type 0
MoreMayFollow = (bytes more : List ℕ) → HasHeader bytes → is_broken bytes ≡ false → ReadsSame bytes (bytes ++ more)

pub record BodiesMayBeFollowed : Type 0 where
  pub written : (numbers : TokenMap) (bytes more : List ℕ) (body : Body) (size : ℕ) → Spells (writing numbers) bytes body size
      → Spells (writing numbers) (bytes ++ more) body size
  pub read : (names : NameMap) (bytes more : List ℕ) (body : Body) (size : ℕ) → Spells (reading names) bytes body size
      → Spells (reading names) (bytes ++ more) body size
