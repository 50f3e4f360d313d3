-- The rows of declared fields and methods: the row of their type, their name and their signature (ECMA-335 II.22.15,
-- II.22.26).
use Rattle.std.specs.Prelude.{◌≡◌, ℕ, ◌+◌, ◌≤◌, List, [], ◌∷◌, ◌++◌, map, length, sum_by}
use Rattle.std.specs.List.{AllByRecursion, AllZip}
use Rattle.assembly_tree.specs.Weight.{type_weight, signature_weight}
use Rattle.assembly_tree.specs.declared.assembly.Assembly.{Assembly}
use Rattle.assembly_tree.specs.declared.members.Field.{Field}
use Rattle.assembly_tree.specs.declared.members.Method.{Method}
use Rattle.assembly_tree.specs.declared.typedef.TypeDef.TheViews.{out-TypeDef}
use Rattle.sig_codec.specs.Spelling.{Notation}
use Rattle.sig_codec.specs.Signature.{SpellsField, SpellsMethod}
use Rattle.image_tokens.specs.References.{size, HasSignature, Grows, Widens, AreKnown}
use Rattle.image_tokens.specs.Texts.{HasNoZero, HoldsText}
use Rattle.image_tokens.specs.Writable.{IsWritable, IsMethodWritable}
use Rattle.image_members.specs.declared.classes.Class.{Class}
use Rattle.image_tokens.specs.declared.references.References.{References}
use Rattle.image_tokens.specs.declared.row_set.Cells.{Cells}

-- ---- members in the order of their rows

-- The members of types whose rows follow one another, from this row on: each member with the row of its type. The members of
-- a type stand together, in its order (II.22.37, FieldList and MethodList).
abbrev pub owned : {X : Type 0} → ℕ → List (List X) → List (ℕ × X)
owned row [] = []
owned row (xs ∷ more) = map (λ x. (row, x)) xs ++ owned (row + 1) more

abbrev pub class_fields : Class → List Field
class_fields c = (out-TypeDef c.of.now).fields

abbrev pub class_methods : Class → List Method
class_methods c = (out-TypeDef c.of.now).methods

-- ---- rows

-- the cells of a row are the row of a member's type, and where its name and its signature stand
pub record IsOwnRow {X Y : Type 0} (Spells : Notation → Y → List ℕ → Type 0) (name : X → List ℕ) (sig : X → Y) (r : References) (cells : Cells) (member : ℕ × X) : Type 0 where
  pub type_is : cells.first ≡ member.0
  pub name_is : HoldsText r.heaps.strings (name member.1) cells.second
  pub signature : HasSignature Spells r (sig member.1) cells.third

abbrev pub IsFieldOf : References → Cells → ℕ × Field → Type 0
IsFieldOf = IsOwnRow SpellsField (λ (f : Field). f.name) (λ (f : Field). f.of)

abbrev pub IsMethodOf : References → Cells → ℕ × Method → Type 0
IsMethodOf = IsOwnRow SpellsMethod (λ (m : Method). m.name) (λ (m : Method). m.sig)

-- ---- steps

-- rows have been added for members, in order, and so many bytes more came at most
pub record DeclaresMembers {X : Type 0} (IsRow : References → Cells → ℕ × X → Type 0) (weigh : X → ℕ) (members : List (ℕ × X)) (old new : References)
    (from to : List Cells) : Type 0 where
  pub grows : Grows old new
  pub known : AreKnown new
  pub room : size new ≤ size old + sum_by (λ m. weigh m.1) members
  pub rows : List Cells
  pub are : to ≡ from ++ rows
  pub each : AllZip (IsRow new) rows members

-- the bytes of a name and of a signature
unfoldable pub field_bytes : Field → ℕ
field_bytes f = length f.name + 1 + type_weight f.of

unfoldable pub method_bytes : Method → ℕ
method_bytes m = length m.name + 1 + (signature_weight m.sig + 8)

abbrev pub DeclaresFields : List (ℕ × Field) → References → References → List Cells → List Cells → Type 0
DeclaresFields = DeclaresMembers IsFieldOf field_bytes

abbrev pub DeclaresMethods : List (ℕ × Method) → References → References → List Cells → List Cells → Type 0
DeclaresMethods = DeclaresMembers IsMethodOf method_bytes

-- ---- all of them

-- the bytes of names and signatures of all fields, and those of all methods
abbrev pub fields_bytes : Assembly → List Class → ℕ
fields_bytes a classes = sum_by field_bytes a.fields + sum_by (λ c. sum_by field_bytes (class_fields c)) classes

abbrev pub methods_bytes : Assembly → List Class → ℕ
methods_bytes a classes = sum_by method_bytes a.methods + sum_by (λ c. sum_by method_bytes (class_methods c)) classes

-- how many fields and methods there are
abbrev pub fields_count : Assembly → List Class → ℕ
fields_count a classes = length a.fields + sum_by (λ c. length (class_fields c)) classes

abbrev pub methods_count : Assembly → List Class → ℕ
methods_count a classes = length a.methods + sum_by (λ c. length (class_methods c)) classes

-- with these rows of fields and methods in the place of those before
abbrev pub with_members : References → List Cells → List Cells → References
with_members r fields methods = record {
  heaps = r.heaps;
  declared = record { types = r.declared.types; fields = fields; methods = methods; externs = r.declared.externs };
  referred = r.referred;
  known = r.known;
}

-- each field and each method has its row, those of `<Module>` first, and so many bytes more came at most
pub record HasMembers (a : Assembly) (classes : List Class) (old new : References) : Type 0 where
  pub widens : Widens old new
  pub known : AreKnown new
  pub room : size new ≤ size old + (fields_bytes a classes + methods_bytes a classes)
  pub fields : AllZip (IsFieldOf new) new.declared.fields (owned 1 (a.fields ∷ map class_fields classes))
  pub methods : AllZip (IsMethodOf new) new.declared.methods (owned 1 (a.methods ∷ map class_methods classes))

-- ---- what can be declared

pub record IsFieldDeclarable (r : References) (f : Field) : Type 0 where
  pub name : HasNoZero f.name
  pub of : IsWritable r f.of

pub record IsMethodDeclarable (r : References) (m : Method) : Type 0 where
  pub name : HasNoZero m.name
  pub sig : IsMethodWritable r m.sig

-- no member is declared yet, and each can be
pub record AreDeclarable (r : References) (a : Assembly) (classes : List Class) : Type 0 where
  pub no_fields : r.declared.fields ≡ []
  pub no_methods : r.declared.methods ≡ []
  pub fields : AllByRecursion (IsFieldDeclarable r) a.fields
  pub own_fields : AllByRecursion (λ c. AllByRecursion (IsFieldDeclarable r) (class_fields c)) classes
  pub methods : AllByRecursion (IsMethodDeclarable r) a.methods
  pub own_methods : AllByRecursion (λ c. AllByRecursion (IsMethodDeclarable r) (class_methods c)) classes
