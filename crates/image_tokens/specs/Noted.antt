-- What a step leaves that gives tokens to the names in a type (ECMA-335 II.23.2), and how many bytes it takes at most.
use Rattle.std.specs.Prelude.{◌≡◌, ℕ, ◌+◌, ◌*◌, ◌≤◌, List, length, sum, sum_by, Some}
use Rattle.assembly_tree.specs.Weight.{type_weight, owner_weight, name_weight}
use Rattle.sig_codec.specs.Spellable.{HasSpelling, HaveSpellings}
use Rattle.sig_codec.specs.Spelling.{Notation}
use Rattle.sig_codec.specs.Tokens.{IsTypeToken, IsDeclared}
use Rattle.type_terms.specs.declared.name.TypeName.{TypeName}
use Rattle.type_terms.specs.declared.term.Owner.{Owner}
use Rattle.type_terms.specs.declared.term.Owner.TheVariants as owner
use Rattle.type_terms.specs.declared.term.SigType.{SigType, fold-SigType}
use Rattle.type_terms.specs.declared.term.Owner.TheOpen.{Owner-F, SigType-F, Name, Spec, Prim, Class, Value, Inst, Var, MVar, SzArray, Array, ByRef, Pointer, Mod, Pinned}
use Rattle.image_tokens.specs.References.{tokens_of, size, Grows, AreKnown, HasSignature}
use Rattle.image_tokens.specs.declared.references.References.{References}

-- ---- the bytes of a spelling, at most: 1 for an element, 4 for a packed number or a coded token

-- an owner stands as its coded token in what it modifies
abbrev pub owner_step : Owner-F ℕ ℕ → ℕ
owner_step (Name name) = 4
owner_step (Spec of) = 4

abbrev pub type_step : SigType-F ℕ ℕ → ℕ
type_step (Prim p) = 1
type_step (Class name) = 5
type_step (Value name) = 5
type_step (Inst value name args) = 10 + sum args
type_step (Var n) = 5
type_step (MVar n) = 5
type_step (SzArray of) = 1 + of
type_step (Array of rank sizes lower) = 13 + 4 * length sizes + 4 * length lower + of
type_step (ByRef of) = 1 + of
type_step (Pointer of) = 1 + of
type_step (Mod required by of) = 5 + of
type_step (Pinned of) = 1 + of

unfoldable pub longest : SigType → ℕ
longest t = fold-SigType ℕ ℕ owner_step type_step t

-- ---- steps

-- a name has a token
pub record IsNamed (old new : References) (name : TypeName) (token : ℕ) : Type 0 where
  pub grows : Grows old new
  pub known : AreKnown new
  pub room : size new ≤ size old + name_weight name
  pub token_is : tokens_of new (owner.Name name) ≡ Some token
  pub declared : IsDeclared token

-- an owner has a token
pub record IsOwned (old new : References) (o : Owner) (token : ℕ) : Type 0 where
  pub grows : Grows old new
  pub known : AreKnown new
  pub room : size new ≤ size old + owner_weight o
  pub token_is : tokens_of new o ≡ Some token
  pub kind : IsTypeToken token

-- a type has a token
pub record IsSpecified (old new : References) (t : SigType) (weight token : ℕ) : Type 0 where
  pub grows : Grows old new
  pub known : AreKnown new
  pub room : size new ≤ size old + weight
  pub token_is : tokens_of new (owner.Spec t) ≡ Some token
  pub kind : IsTypeToken token

-- each name in a type has a token, and there is room for the spelling of the type, a packed length and two rows of 4 bytes
pub record IsNoted (old new : References) (t : SigType) : Type 0 where
  pub grows : Grows old new
  pub known : AreKnown new
  pub room : size new + (longest t + 12) ≤ size old + type_weight t
  pub spells : HasSpelling (tokens_of new) t

-- each name in the types has a token, and there is room for their spellings
pub record AreNoted (old new : References) (ts : List SigType) : Type 0 where
  pub grows : Grows old new
  pub known : AreKnown new
  pub room : size new + sum_by longest ts ≤ size old + sum_by type_weight ts
  pub spells : HaveSpellings (tokens_of new) ts

-- a blob spells a signature
pub record IsSigned {X : Type 0} (Spells : Notation → X → List ℕ → Type 0) (old new : References) (x : X) (weight blob : ℕ) : Type 0 where
  pub grows : Grows old new
  pub known : AreKnown new
  pub room : size new ≤ size old + weight
  pub signature : HasSignature Spells new x blob
