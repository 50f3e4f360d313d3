-- How a type is spelled in a signature (ECMA-335 II.23.1.16, II.23.2.6 to II.23.2.14).
use Rattle.std.specs.Prelude.{◌≡◌, ℕ, ◌^◌, ◌<◌, ◌≤◌, ℤ, Bool, if◌then◌else◌, List, [], ◌∷◌, ◌++◌, length, Option, Some}
use Rattle.il_base.specs.Numbers.{Packed, PackedSigned, IsShortest}
use Rattle.type_terms.specs.declared.name.TypeName.{TypeName}
use Rattle.type_terms.specs.declared.term.Primitive.{Primitive as Prim}
use Rattle.type_terms.specs.declared.term.Primitive.TheVariants as kinds
use Rattle.type_terms.specs.declared.term.Owner.{Owner, Name}
use Rattle.type_terms.specs.declared.term.Owner.TheOpen as layer
use Rattle.type_terms.specs.declared.term.SigType.{SigType, SigType-F, out-SigType}
use Rattle.sig_codec.specs.Tokens.{token_of_coded, IsDeclared}

-- one layer of a type: its variant, with the parts that it is made of
abbrev pub Layer : Type 0
Layer = SigType-F Owner SigType

-- How numbers are written, and which token stands for which owner.
pub record Notation : Type 1 where
  pub number : List ℕ → ℕ → Type 0
  pub signed : List ℕ → ℤ → Type 0
  pub named : ℕ → Owner → Type 0

-- as it is read: numbers in any packed form, and tokens by a namer's map
abbrev pub reading : (ℕ → Option Owner) → Notation
reading owners = record { number = Packed; signed = PackedSigned; named = λ token owner. owners token ≡ Some owner }

-- as it is read where each number has its shortest form
abbrev pub shortest : (ℕ → Option Owner) → Notation
shortest owners = record {
  number = λ bytes n. Packed bytes n × IsShortest Packed bytes n;
  signed = λ bytes n. PackedSigned bytes n × IsShortest PackedSigned bytes n;
  named = λ token owner. owners token ≡ Some owner;
}

-- as it is written: numbers in their shortest form, and tokens by a numberer's map
abbrev pub writing : (Owner → Option ℕ) → Notation
writing tokens = record {
  number = λ bytes n. Packed bytes n × IsShortest Packed bytes n;
  signed = λ bytes n. PackedSigned bytes n × IsShortest PackedSigned bytes n;
  named = λ token owner. tokens owner ≡ Some token;
}

-- the element type of a primitive type
abbrev pub prim_byte : Prim → ℕ
prim_byte kinds.Void = 0x01
prim_byte kinds.Bool = 0x02
prim_byte kinds.Char = 0x03
prim_byte kinds.I1 = 0x04
prim_byte kinds.U1 = 0x05
prim_byte kinds.I2 = 0x06
prim_byte kinds.U2 = 0x07
prim_byte kinds.I4 = 0x08
prim_byte kinds.U4 = 0x09
prim_byte kinds.I8 = 0x0A
prim_byte kinds.U8 = 0x0B
prim_byte kinds.R4 = 0x0C
prim_byte kinds.R8 = 0x0D
prim_byte kinds.Str = 0x0E
prim_byte kinds.TypedRef = 0x16
prim_byte kinds.NInt = 0x18
prim_byte kinds.NUint = 0x19
prim_byte kinds.Object = 0x1C

-- the element types of a class and of a value type
abbrev pub kind_byte : Bool → ℕ
kind_byte value = if value then 0x11 else 0x12

-- the element types of a required and of an optional modifier
abbrev pub modifier_byte : Bool → ℕ
modifier_byte required = if required then 0x1F else 0x20

-- the coded number of a token that stands for this owner
pub record SpellsOwner (w : Notation) (owner : Owner) (bytes : List ℕ) : Type 0 where
  pub token : ℕ
  pub coded : ℕ
  pub number : w.number bytes coded
  pub decoded : token_of_coded coded ≡ Some token
  pub named : w.named token owner

-- the same for a name that is declared in the tables TypeDef and TypeRef
pub record SpellsName (w : Notation) (name : TypeName) (bytes : List ℕ) : Type 0 where
  pub owner : SpellsOwner w (Name name) bytes
  pub declared : IsDeclared owner.token

-- numbers, one after the other
abbrev pub SpellsEachBy : {X : Type 0} → (List ℕ → X → Type 0) → List X → List ℕ → Type 0
SpellsEachBy spelled [] bytes = bytes ≡ []
SpellsEachBy spelled (x ∷ xs) bytes = (a b : List ℕ) × (bytes ≡ a ++ b) × spelled a x × SpellsEachBy spelled xs b

-- how many, and then each
pub record SpellsCounted {X : Type 0} (w : Notation) (spelled : List ℕ → X → Type 0) (xs : List X) (bytes : List ℕ) : Type 0 where
  pub count : List ℕ
  pub each : List ℕ
  pub whole : bytes ≡ count ++ each
  pub counted : w.number count (length xs)
  pub spelled_each : SpellsEachBy spelled xs each

-- the shape of an array (ECMA-335 II.23.2.13)
pub record SpellsShape (w : Notation) (rank : ℕ) (sizes : List ℕ) (lower : List ℤ) (bytes : List ℕ) : Type 0 where
  pub a : List ℕ
  pub b : List ℕ
  pub c : List ℕ
  pub whole : bytes ≡ a ++ (b ++ c)
  pub ranked : w.number a rank
  pub some : 0 < rank
  pub sized : SpellsCounted w w.number sizes b
  pub few_sizes : length sizes ≤ rank
  pub bounded : SpellsCounted w w.signed lower c
  pub few_bounds : length lower ≤ rank

mutual
  -- These bytes spell this type.
  pub data SpellsType (w : Notation) : SigType → List ℕ → Type 0 where
    made : {t : SigType} {bytes : List ℕ} → SpellsLayer w (out-SigType t) bytes → SpellsType w t bytes

  -- The same by the variant of the type.
  pub data SpellsLayer (w : Notation) : Layer → List ℕ → Type 0 where
    prim : {p : Prim} {bytes : List ℕ} → bytes ≡ prim_byte p ∷ [] → SpellsLayer w (layer.Prim p) bytes
    class : {name : TypeName} {a bytes : List ℕ} → bytes ≡ 0x12 ∷ a → SpellsName w name a → SpellsLayer w (layer.Class name) bytes
    value : {name : TypeName} {a bytes : List ℕ} → bytes ≡ 0x11 ∷ a → SpellsName w name a → SpellsLayer w (layer.Value name) bytes
    inst : {v : Bool} {name : TypeName} {args : List SigType} {a b c bytes : List ℕ} → bytes ≡ 0x15 ∷ kind_byte v ∷ (a ++ (b ++ c))
        → SpellsOwner w (Name name) a → w.number b (length args) → 0 < length args → SpellsEach w args c → SpellsLayer w (layer.Inst v name args) bytes
    var : {n : ℕ} {a bytes : List ℕ} → bytes ≡ 0x13 ∷ a → w.number a n → n < 2 ^ 16 → SpellsLayer w (layer.Var n) bytes
    mvar : {n : ℕ} {a bytes : List ℕ} → bytes ≡ 0x1E ∷ a → w.number a n → n < 2 ^ 16 → SpellsLayer w (layer.MVar n) bytes
    sz_array : {of : SigType} {a bytes : List ℕ} → bytes ≡ 0x1D ∷ a → SpellsType w of a → SpellsLayer w (layer.SzArray of) bytes
    array : {of : SigType} {rank : ℕ} {sizes : List ℕ} {lower : List ℤ} {a b bytes : List ℕ} → bytes ≡ 0x14 ∷ (a ++ b)
        → SpellsType w of a → SpellsShape w rank sizes lower b → SpellsLayer w (layer.Array of rank sizes lower) bytes
    by_ref : {of : SigType} {a bytes : List ℕ} → bytes ≡ 0x10 ∷ a → SpellsType w of a → SpellsLayer w (layer.ByRef of) bytes
    pointer : {of : SigType} {a bytes : List ℕ} → bytes ≡ 0x0F ∷ a → SpellsType w of a → SpellsLayer w (layer.Pointer of) bytes
    modified : {required : Bool} {by : Owner} {of : SigType} {a b bytes : List ℕ} → bytes ≡ modifier_byte required ∷ (a ++ b)
        → SpellsOwner w by a → SpellsType w of b → SpellsLayer w (layer.Mod required by of) bytes
    pinned : {of : SigType} {a bytes : List ℕ} → bytes ≡ 0x45 ∷ a → SpellsType w of a → SpellsLayer w (layer.Pinned of) bytes

  -- Types, one after the other.
  pub data SpellsEach (w : Notation) : List SigType → List ℕ → Type 0 where
    none : SpellsEach w [] []
    more : {t : SigType} {ts : List SigType} {a b bytes : List ℕ} → bytes ≡ a ++ b → SpellsType w t a → SpellsEach w ts b → SpellsEach w (t ∷ ts) bytes
