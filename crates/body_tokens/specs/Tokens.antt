-- Which tokens name what is wanted of them in a body, by the rows of an image (III.1.9, II.25.4.6).
use Rattle.std.specs.Prelude.{◌≡◌, ℕ, ◌≤◌, ◌⊎◌, List, ◌∷◌}
use Rattle.std.specs.List.{All}
use Rattle.body_outlines.specs.declared.outlined.BodyOutline.{BodyOutline}
use Rattle.body_outlines.specs.declared.outlined.TokenUse.{TokenUse}
use Rattle.body_codec.specs.Names.{NameMap}
use Rattle.heaps.specs.Content.{HasBlob}
use Rattle.image_model.specs.Columns.{member_signature}
use Rattle.image_model.specs.Bodies.{HasTokens}
use Rattle.image_model.specs.Faults.{AllMeet, HoldBefore, IsFirstBad, tokens}
use Rattle.image_model.specs.Naming.{IsToken, NamesText}
use Rattle.image_model.specs.Namings.{AreNamings}
use Rattle.image_model.specs.Rows.{HasRow}
use Rattle.image_model.specs.Streams.{blobs_of}
use Rattle.opcode_table.specs.declared.kind.OperandKind.{OperandKind}
use Rattle.opcode_table.specs.declared.kind.OperandKind.TheVariants as kinds

-- a token names a row that is there
pub record NamesRow (image : List ℕ) (token table : ℕ) : Type 0 where
  pub row : ℕ
  pub is : IsToken token table row
  pub there : HasRow image table row

-- the signature of a MemberRef begins as a field's (II.23.2.4)
pub record IsFieldMember (image : List ℕ) (row : ℕ) : Type 0 where
  pub bytes : List ℕ
  pub blob : HasBlob (blobs_of image) (member_signature image row) bytes
  pub rest : List ℕ
  pub begins : bytes ≡ 0x06 ∷ rest

-- a token names a MemberRef, of which this is said
pub record IsMemberOf (image : List ℕ) (token : ℕ) (Said : ℕ → Type 0) : Type 0 where
  pub row : ℕ
  pub is : IsToken token 0x0A row
  pub there : HasRow image 0x0A row
  pub said : Said row

abbrev pub IsTypeToken : List ℕ → ℕ → Type 0
IsTypeToken image token = NamesRow image token 0x02 ⊎ NamesRow image token 0x01 ⊎ NamesRow image token 0x1B

abbrev pub IsMethodToken : List ℕ → ℕ → Type 0
IsMethodToken image token = NamesRow image token 0x06 ⊎ NamesRow image token 0x2B ⊎ IsMemberOf image token (λ row. IsFieldMember image row → ⊥)

abbrev pub IsFieldToken : List ℕ → ℕ → Type 0
IsFieldToken image token = NamesRow image token 0x04 ⊎ IsMemberOf image token (IsFieldMember image)

abbrev pub IsTextToken : List ℕ → ℕ → Type 0
IsTextToken image token = (units : List ℕ) × NamesText image token units

-- a token names what an operand of a kind wants
abbrev pub IsKnownUse : List ℕ → OperandKind → ℕ → Type 0
IsKnownUse image kinds.Method token = IsMethodToken image token
IsKnownUse image kinds.Field token = IsFieldToken image token
IsKnownUse image kinds.Of token = IsTypeToken image token
IsKnownUse image kinds.Text token = IsTextToken image token
IsKnownUse image kinds.Token token = IsMethodToken image token ⊎ IsFieldToken image token ⊎ IsTypeToken image token
IsKnownUse image _ token = ⊥

abbrev pub IsUseKnown : List ℕ → TokenUse → Type 0
IsUseKnown image u = IsKnownUse image u.kind u.token

-- each operand and each catch of a body names what is wanted
pub record AreKnown (image : List ℕ) (o : BodyOutline) : Type 0 where
  pub operands : All (IsUseKnown image) o.operands
  pub catches : All (IsTypeToken image) o.catches

-- ---- I20, whatever the tokens of the image name, where the demands before it hold

-- the first so many methods meet it
abbrev pub KnownTo : List ℕ → ℕ → Type 0
KnownTo image count =
    (names : NameMap) → AreNamings image names → HoldBefore image names tokens → (row : ℕ) → row ≤ count → HasTokens image names 0x06 row

-- all rows do
abbrev pub AreAllKnown : List ℕ → Type 0
AreAllKnown image = (names : NameMap) → AreNamings image names → HoldBefore image names tokens → AllMeet image names tokens

-- a method is the first that doesn't
abbrev pub IsFirstUnknown : List ℕ → ℕ → Type 0
IsFirstUnknown image method = (names : NameMap) → AreNamings image names → HoldBefore image names tokens → IsFirstBad image names tokens 0x06 method
