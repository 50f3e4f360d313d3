-- The rows of TypeDef, that of `<Module>` first (ECMA-335 II.10.8, II.22.37).
use Rattle.std.specs.Prelude.{◌≡◌, ℕ, ◌+◌, ◌≤◌, ⊤, List, [], ◌∷◌, Option, None, Some, length, slice_get}
use Rattle.assembly_tree.specs.Weight.{optional, owner_weight}
use Rattle.assembly_tree.specs.declared.typedef.TypeDef.TheViews.{out-TypeDef}
use Rattle.metadata_tables.specs.Indexes.{run_cell}
use Rattle.metadata_tables.specs.declared.coded.Coded.TheVariants.{TypeDefOrRef}
use Rattle.type_terms.specs.declared.term.Owner.{Owner}
use Rattle.image_members.specs.Declaring.{Place, module_id, class_id, HoldsPlace}
use Rattle.image_members.specs.DeclaredMembers.{class_fields, class_methods}
use Rattle.image_tokens.specs.Indexes.{index_of_token}
use Rattle.image_members.specs.Pushing.{Tables, AddsRows}
use Rattle.image_tokens.specs.References.{tokens_of, size, Grows, AreKnown}
use Rattle.image_tokens.specs.Texts.{HoldsId}
use Rattle.image_tokens.specs.Writable.{IsOwnerWritable}
use Rattle.image_members.specs.declared.classes.Class.{Class}
use Rattle.image_tokens.specs.declared.references.References.{References}
use Rattle.image_tokens.specs.declared.row_set.Cells.{Cells}

-- a type, and the rows of its first field and its first method, or where they would stand
pub record Numbered : Type 0 where
  pub class : Class
  pub field : ℕ
  pub method : ℕ

-- the runs of the types follow one another
abbrev pub numbered : ℕ → ℕ → List Class → List Numbered
numbered field method [] = []
numbered field method (c ∷ cs) =
    record { class = c; field = field; method = method } ∷ numbered (field + length (class_fields c)) (method + length (class_methods c)) cs

-- the base of a type
abbrev pub base_of : Class → Option Owner
base_of c = (out-TypeDef c.of.now).extends

-- the coded index of a base; 0 where there is none
abbrev pub IsBase : References → Option Owner → ℕ → Type 0
IsBase r None index = index ≡ 0
IsBase r (Some o) index = (token : ℕ) × (tokens_of r o ≡ Some token) × (index ≡ index_of_token TypeDefOrRef token)

-- Flags, name, space, base, and where the runs of fields and methods begin. There are so many fields and methods in all.
pub record IsTypeDefRow (fields methods : ℕ) (r : References) (cells : List ℕ) (n : Numbered) : Type 0 where
  pub name : ℕ
  pub space : ℕ
  pub base : ℕ
  pub are : cells ≡ (out-TypeDef n.class.of.now).flags ∷ name ∷ space ∷ base ∷ run_cell fields n.field ∷ run_cell methods n.method ∷ []
  pub id_is : HoldsId r.heaps.strings (class_id n.class) name space
  pub base_is : IsBase r (base_of n.class) base

-- the row of `<Module>`, whose fields and methods come first
pub record IsModuleType (fields methods : ℕ) (r : References) (cells : List ℕ) : Type 0 where
  pub name : ℕ
  pub space : ℕ
  pub are : cells ≡ 0 ∷ name ∷ space ∷ 0 ∷ run_cell fields 1 ∷ run_cell methods 1 ∷ []
  pub id_is : HoldsId r.heaps.strings module_id name space

-- TypeDef has got that row
pub record AddsModuleType (fields methods : ℕ) (r : References) (from to : Tables) : Type 0 where
  pub cells : List ℕ
  pub adds : AddsRows 0x02 (cells ∷ []) from to
  pub is : IsModuleType fields methods r cells

-- the declared type of this number, counted from 0, stands in this place
abbrev pub StandsAt : References → ℕ → Place → Type 0
StandsAt r k p = (cells : Cells) × (slice_get r.declared.types k ≡ Some cells) × HoldsPlace r.heaps.strings cells p

-- ---- what can be written

abbrev pub CanBeBase : References → Option Owner → Type 0
CanBeBase r None = ⊤
CanBeBase r (Some o) = IsOwnerWritable r o

abbrev pub IsNumberedWritable : References → Numbered → Type 0
IsNumberedWritable r n = CanBeBase r (base_of n.class)

abbrev pub base_weight : Option Owner → ℕ
base_weight o = optional owner_weight o

abbrev pub numbered_weight : Numbered → ℕ
numbered_weight n = base_weight (base_of n.class)

-- a base has its index, and so many bytes more came at most
pub record Refers (base : Option Owner) (old new : References) (index : ℕ) : Type 0 where
  pub grows : Grows old new
  pub known : AreKnown new
  pub room : size new ≤ size old + base_weight base
  pub is : IsBase new base index
