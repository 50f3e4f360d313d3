-- Which types and signatures have a spelling, where a numberer's map gives the tokens of owners: each name in them has a token of
-- the kind that is wanted, and the counts and numbers can be packed (ECMA-335 II.23.2).
use Rattle.std.specs.Prelude.{◌≡◌, ℕ, ◌^◌, ◌<◌, ◌≤◌, ℤ, ◌≤ℤ◌, Bool, true, false, List, [], ◌∷◌, length, Option, Some, None}
use Rattle.std.specs.List.{AllByRecursion}
use Rattle.il_base.specs.Numbers.{least_signed, greatest_signed}
use Rattle.type_terms.specs.declared.name.TypeName.{TypeName}
use Rattle.type_terms.specs.declared.reference.MethodSig.{MethodSig}
use Rattle.type_terms.specs.declared.term.Primitive.{Primitive}
use Rattle.type_terms.specs.declared.term.Owner.{Owner, Name}
use Rattle.type_terms.specs.declared.term.Owner.TheOpen as layer
use Rattle.type_terms.specs.declared.term.SigType.{SigType, out-SigType}
use Rattle.sig_codec.specs.Tokens.{IsDeclared, IsTypeToken}
use Rattle.sig_codec.specs.Spelling.{Layer}

-- a numberer's map has a token for each owner that a namer's map names: not that token, since an image may have two for one
-- owner, but one of those tables, and of the tables TypeDef and TypeRef where that is
abbrev pub Renumbers : (ℕ → Option Owner) → (Owner → Option ℕ) → Type 0
Renumbers owners tokens = (token : ℕ) (o : Owner) → owners token ≡ Some o → IsTypeToken token
    → (other : ℕ) × (tokens o ≡ Some other) × IsTypeToken other × (IsDeclared token → IsDeclared other)

-- an owner with a token of the tables TypeDef, TypeRef and TypeSpec
abbrev pub HasToken : (Owner → Option ℕ) → Owner → Type 0
HasToken tokens owner = (token : ℕ) × (tokens owner ≡ Some token) × IsTypeToken token

-- a name with a token of the tables TypeDef and TypeRef
abbrev pub HasDeclaredToken : (Owner → Option ℕ) → TypeName → Type 0
HasDeclaredToken tokens name = (token : ℕ) × (tokens (Name name) ≡ Some token) × IsTypeToken token × IsDeclared token

-- a number that can be packed
abbrev pub CanBePacked : ℕ → Type 0
CanBePacked n = n < 2 ^ 29

abbrev pub CanBePackedSigned : ℤ → Type 0
CanBePackedSigned z = (least_signed 29 ≤ℤ z) × (z ≤ℤ greatest_signed 29)

-- the shape of an array
pub record IsShape (rank : ℕ) (sizes : List ℕ) (lower : List ℤ) : Type 0 where
  pub some : 0 < rank
  pub few : CanBePacked rank
  pub few_sizes : length sizes ≤ rank
  pub each_size : AllByRecursion CanBePacked sizes
  pub few_bounds : length lower ≤ rank
  pub each_bound : AllByRecursion CanBePackedSigned lower

mutual
  -- This type has a spelling.
  pub data HasSpelling (tokens : Owner → Option ℕ) : SigType → Type 0 where
    made : {t : SigType} → HasParts tokens (out-SigType t) → HasSpelling tokens t

  -- The same by the variant of the type.
  pub data HasParts (tokens : Owner → Option ℕ) : Layer → Type 0 where
    prim : {p : Primitive} → HasParts tokens (layer.Prim p)
    class : {name : TypeName} → HasDeclaredToken tokens name → HasParts tokens (layer.Class name)
    value : {name : TypeName} → HasDeclaredToken tokens name → HasParts tokens (layer.Value name)
    inst : {v : Bool} {name : TypeName} {args : List SigType} → HasToken tokens (Name name) → 0 < length args → CanBePacked (length args) → HaveSpellings tokens args → HasParts tokens (layer.Inst v name args)
    var : {n : ℕ} → n < 2 ^ 16 → HasParts tokens (layer.Var n)
    mvar : {n : ℕ} → n < 2 ^ 16 → HasParts tokens (layer.MVar n)
    sz_array : {of : SigType} → HasSpelling tokens of → HasParts tokens (layer.SzArray of)
    array : {of : SigType} {rank : ℕ} {sizes : List ℕ} {lower : List ℤ} → HasSpelling tokens of → IsShape rank sizes lower → HasParts tokens (layer.Array of rank sizes lower)
    by_ref : {of : SigType} → HasSpelling tokens of → HasParts tokens (layer.ByRef of)
    pointer : {of : SigType} → HasSpelling tokens of → HasParts tokens (layer.Pointer of)
    modified : {required : Bool} {by : Owner} {of : SigType} → HasToken tokens by → HasSpelling tokens of → HasParts tokens (layer.Mod required by of)
    pinned : {of : SigType} → HasSpelling tokens of → HasParts tokens (layer.Pinned of)

  -- Each of these types has a spelling.
  pub data HaveSpellings (tokens : Owner → Option ℕ) : List SigType → Type 0 where
    none : HaveSpellings tokens []
    more : {t : SigType} {ts : List SigType} → HasSpelling tokens t → HaveSpellings tokens ts → HaveSpellings tokens (t ∷ ts)

-- a sentinel that a parameter follows
abbrev pub IsSentinel : Option ℕ → List SigType → Type 0
IsSentinel None params = Unit {0}
IsSentinel (Some fixed) params = fixed < length params

-- a method with a spelling
pub record MethodHasSpelling (tokens : Owner → Option ℕ) (s : MethodSig) : Type 0 where
  pub explicit : s.explicit_this ≡ true → s.has_this ≡ true
  pub generic : CanBePacked s.generic
  pub count : CanBePacked (length s.params)
  pub ret : HasSpelling tokens s.ret
  pub params : HaveSpellings tokens s.params
  pub sentinel : IsSentinel s.sentinel s.params

-- a property with a spelling
pub record PropertyHasSpelling (tokens : Owner → Option ℕ) (s : MethodSig) : Type 0 where
  pub no_explicit : s.explicit_this ≡ false
  pub no_vararg : s.vararg ≡ false
  pub no_generic : s.generic ≡ 0
  pub no_sentinel : s.sentinel ≡ None
  pub count : CanBePacked (length s.params)
  pub ret : HasSpelling tokens s.ret
  pub params : HaveSpellings tokens s.params

-- locals with a spelling
abbrev pub LocalsHaveSpelling : (Owner → Option ℕ) → List SigType → Type 0
LocalsHaveSpelling tokens ts = CanBePacked (length ts) × HaveSpellings tokens ts

-- arguments with a spelling
abbrev pub InstantiationHasSpelling : (Owner → Option ℕ) → List SigType → Type 0
InstantiationHasSpelling tokens ts = (0 < length ts) × CanBePacked (length ts) × HaveSpellings tokens ts
