-- The bodies of an image's methods (II.25.4), and what is asked of them: headers (I17), instructions (I18), clauses (I19) and
-- tokens (I20). A body's bytes are those that can be read from its RVA on.
use Rattle.std.specs.Prelude.{◌≡◌, ◌≢◌, ℕ, ◌%◌, ◌⊎◌, List, Contains, length}
use Rattle.std.specs.Int.{bit_at}
use Rattle.pe_layout.specs.FileMap.{readable}
use Rattle.assembly_tree.specs.declared.body.Body.{Body}
use Rattle.body_codec.specs.Instruction.{Piece}
use Rattle.body_codec.specs.Names.{NameMap, reading}
use Rattle.body_codec.specs.Header.{HasHeader as IsHeader, is_tiny, locals_token}
use Rattle.body_codec.specs.Sections.{clause_rows}
use Rattle.body_codec.specs.Bodies.{Spells}
use Rattle.body_codec.specs.Faults.{IsCode, IsOutline, HaveNames, HaveCatches}
use Rattle.body_codec.specs.NamedTokens.{AreNamed}
use Rattle.body_codec.specs.Encoding.{fits_tiny}
use Rattle.image_model.specs.Columns.{method_rva, method_impl_flags}
use Rattle.image_model.specs.Rows.{HasRow}
use Rattle.image_model.specs.Naming.{IsToken}

-- the bytes from the RVA of a method on
abbrev pub body_of : List ℕ → ℕ → List ℕ
body_of image method = readable image (method_rva image method)

-- a method has a body where its RVA isn't 0 (II.22.26)
abbrev pub HasBody : List ℕ → ℕ → Type 0
HasBody image method = method_rva image method ≢ 0

-- ---- I17

-- the code is IL or the runtime's, and managed (II.23.1.11)
pub record HasCodeType (image : List ℕ) (method : ℕ) : Type 0 where
  pub code_type : (method_impl_flags image method % 4 ≡ 0) ⊎ (method_impl_flags image method % 4 ≡ 3)
  pub managed : bit_at (method_impl_flags image method) 2 ≡ 0

-- the token of the locals is 0, or a row of StandAloneSig (II.25.4.3)
abbrev pub HasLocals : List ℕ → List ℕ → Type 0
HasLocals image bytes =
    (locals_token bytes ≡ 0) ⊎ ((row : ℕ) × IsToken (locals_token bytes) 0x11 row × HasRow image 0x11 row)

-- a known header, code of at least one byte that can be read, and known locals
pub record HasKnownHeader (image : List ℕ) (method : ℕ) : Type 0 where
  pub header : IsHeader (body_of image method)
  pub locals : HasLocals image (body_of image method)

pub record HasHeader (image : List ℕ) (table row : ℕ) : Type 0 where
  pub code_type : table ≡ 0x06 → HasRow image 0x06 row → HasCodeType image row
  pub header : table ≡ 0x06 → HasRow image 0x06 row → HasBody image row → HasKnownHeader image row

-- ---- I18: the code is whole instructions with known opcodes, and each target is the start of one

abbrev pub HasInstructions : List ℕ → (table row : ℕ) → Type 0
HasInstructions image table row =
    table ≡ 0x06 → HasRow image 0x06 row → HasBody image row → (pieces : List Piece) × IsCode (body_of image row) pieces

-- ---- I19: its sections can be read and hold clauses of known kinds over instructions, at most 65,535

abbrev pub HasClauses : List ℕ → (table row : ℕ) → Type 0
HasClauses image table row =
    table ≡ 0x06 → HasRow image 0x06 row → HasBody image row → (pieces : List Piece) × IsOutline (body_of image row) pieces

-- ---- I20: each operand's token names what the instruction wants, and each catch's token a type (III.1.9, II.25.4.6)

pub record HasKnownTokens (names : NameMap) (bytes : List ℕ) : Type 0 where
  pub pieces : List Piece
  pub outline : IsOutline bytes pieces
  pub operands : HaveNames names pieces (length pieces)
  pub catches : HaveCatches names (clause_rows bytes) (length (clause_rows bytes))

abbrev pub HasTokens : List ℕ → NameMap → (table row : ℕ) → Type 0
HasTokens image names table row =
    table ≡ 0x06 → HasRow image 0x06 row → HasBody image row → HasKnownTokens names (body_of image row)

-- ---- what a body is and names

-- the bytes begin with the spelling of the body, by what tokens name
abbrev pub IsBody : NameMap → List ℕ → Body → Type 0
IsBody names bytes body = (size : ℕ) × Spells (reading names) bytes body size

-- a body without a fault of I17 to I19 names a token by its locals, an operand or a catch
pub record BodyNames (image : List ℕ) (method token : ℕ) : Type 0 where
  pub there : HasBody image method
  pub code_type : HasCodeType image method
  pub locals : HasLocals image (body_of image method)
  pub tokens : List ℕ
  pub named : AreNamed (body_of image method) tokens
  pub among : Contains tokens token

-- a body's header is tiny exactly where it may be (II.25.4.2)
abbrev pub IsShortestBody : List ℕ → NameMap → ℕ → Type 0
IsShortestBody image names method =
    (body : Body) × IsBody names (body_of image method) body × (is_tiny (body_of image method) ≡ fits_tiny body)
