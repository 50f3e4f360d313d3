-- What rows weigh by what they are, refer to and hold (II.22).
use Rattle.std.specs.Prelude.{◌≡◌, ℕ, ◌≤◌, ◌/◌, ◌%◌, ◌^◌, ◌==◌, ◌&&◌, if◌then◌else◌, List, Some, Contains, length, slice_index}
use Rattle.assembly_tree.specs.Weight.{owner_weight, method_ref_weight, field_ref_weight}
use Rattle.body_codec.specs.Names.{NameMap}
use Rattle.image_model.specs.Faults.{HasTables}
use Rattle.image_model.specs.Naming.{IsToken, RowOwner, OwnsMethod, OwnsMember, NamesMethod}
use Rattle.image_model.specs.Namings.{AreNamings}
use Rattle.image_model.specs.Columns.{instance_method}
use Rattle.image_model.specs.Rows.{HasRow, Names, token_of}
use Rattle.metadata_tables.specs.declared.coded.Coded.TheVariants.{MethodDefOrRef}
use Rattle.image_model.specs.Streams.{tables_of, strings_of}
use Rattle.image_model.specs.Structure.{HasScopes}
use Rattle.heaps.specs.Content.{HasText}
use Rattle.metadata_tables.specs.Stream.{cell}
use Rattle.name_weights.specs.Weights.{AreWeights, is_row, weighing}
use Rattle.row_demands.specs.Structured.{MeetStructure}
use Rattle.signature_facts.specs.Facts.{capped}
use Rattle.signature_facts.specs.Owners.{AreFacts}
use Rattle.signature_facts.specs.Scanning.{OwnersFacts}
use Rattle.told_weights.specs.Told.{Tells}
use Rattle.type_names.specs.Forest.{ref_node}
use Rattle.type_terms.specs.declared.reference.FieldRef.{FieldRef}
use Rattle.type_terms.specs.declared.reference.MethodRef.{MethodRef}
use Rattle.type_terms.specs.declared.term.Owner.{Owner}
use Rattle.row_weights.specs.Signatures.{weighed}
use Rattle.row_weights.specs.declared.kind.Kind.{Kind}
use Rattle.row_weights.specs.declared.kind.Kind.TheVariants as kind
use Rattle.row_weights.specs.declared.methods.MethodWeights.{MethodWeights}

-- what the weights of rows are told by: an image, the weights of its types and references, and facts of what its tokens name
pub record Known : Type 0 where
  pub image : List ℕ
  pub weights : List ℕ
  pub facts : OwnersFacts

abbrev pub known : List ℕ → List ℕ → OwnersFacts → Known
known image weights facts = record { image = image; weights = weights; facts = facts }

-- they are so, and the image meets I8 to I13
pub record AreKnown (it : Known) : Type 0 where
  pub short : length it.image ≤ 2 ^ 26
  pub tables : HasTables it.image
  pub meets : MeetStructure it.image
  pub scopes : (table row : ℕ) → HasScopes it.image table row
  pub weights_are : AreWeights it.image it.weights
  pub facts_are : (names : NameMap) → AreNamings it.image names → AreFacts weighing names.owners it.facts

-- ---- signatures and owners

-- the signature in a cell, read as this kind
abbrev pub cell_weighed : Known → Kind → (table row column : ℕ) → ℕ
cell_weighed it kind table row column =
    if is_row it.image table row then weighed it.image it.facts kind (cell (tables_of it.image) table row column) else 0

-- the type that a row of TypeDef, TypeRef or TypeSpec is
unfoldable pub owner_weighed : Known → (table row : ℕ) → ℕ
owner_weighed it table row =
    if table == 0x1B then cell_weighed it kind.Type 0x1B row 0
    else if table == 0x02 && is_row it.image 0x02 row then slice_index it.weights row
    else if table == 0x01 && is_row it.image 0x01 row then slice_index it.weights (ref_node it.image row)
    else 0

-- the one type that has a member
pub record IsOwner (image : List ℕ) (members : ℕ → List ℕ) (member type : ℕ) : Type 0 where
  pub there : HasRow image 0x02 type
  pub only : (other : ℕ) → HasRow image 0x02 other → Contains (members other) member → other ≡ type

-- ---- references

-- how long the text in a cell is
abbrev pub IsTextAt : List ℕ → (table row column told : ℕ) → Type 0
IsTextAt image table row column told =
    (text : List ℕ) → HasText (strings_of image) (cell (tables_of image) table row column) text → told ≡ capped (length text)

-- what the owner of a MemberRef weighs, and what the type that its parent is or has it (II.22.25)
abbrev pub MemberOwnerTold : List ℕ → (row told : ℕ) → Type 0
MemberOwnerTold image row told =
    (names : NameMap) (owner : Owner) → AreNamings image names → OwnsMember image names.owners row owner → told ≡ capped (owner_weight owner)

pub record ParentTold (image : List ℕ) (table row told : ℕ) : Type 0 where
  pub by_type : (names : NameMap) (owner : Owner) → AreNamings image names → RowOwner image names.owners table row owner → told ≡ capped (owner_weight owner)
  pub by_method : (owner : Owner) → table ≡ 0x06 → HasRow image 0x06 row → OwnsMethod image row owner → told ≡ capped (owner_weight owner)

-- a number tells what the method weighs that a row is, whatever tells what tokens name
abbrev pub MethodTold : List ℕ → (table row told : ℕ) → Type 0
MethodTold image table row told =
    (names : NameMap) (token : ℕ) (method : MethodRef) → AreNamings image names → IsToken token table row → names.methods token ≡ Some method
    → Tells told (method_ref_weight method)

-- and what the method of a MethodSpec weighs
abbrev pub GenericTold : List ℕ → (row told : ℕ) → Type 0
GenericTold image row told =
    (names : NameMap) (table method : ℕ) (generic : MethodRef) → AreNamings image names → Names MethodDefOrRef (instance_method image row) table method
    → NamesMethod image names.owners (token_of table method) generic → Tells told (method_ref_weight generic)

abbrev pub generic_in : (methods members : List ℕ) (table row : ℕ) → ℕ
generic_in methods members table row = if table == 0x06 then slice_index methods row else slice_index members row

-- and what the field weighs
abbrev pub FieldTold : List ℕ → (table row told : ℕ) → Type 0
FieldTold image table row told =
    (names : NameMap) (token : ℕ) (field : FieldRef) → AreNamings image names → IsToken token table row → names.fields token ≡ Some field
    → Tells told (field_ref_weight field)

-- the numbers of a table's rows tell this
abbrev pub TellRows : List ℕ → ℕ → (ℕ → ℕ → Type 0) → List ℕ → Type 0
TellRows image table Is weights = (row : ℕ) → HasRow image table row → Is row (slice_index weights row)

pub record TellMethods (image : List ℕ) (it : MethodWeights) : Type 0 where
  pub methods_are : TellRows image 0x06 (MethodTold image 0x06) it.methods.items
  pub members_are : TellRows image 0x0A (MethodTold image 0x0A) it.members.items
  pub fields_are : TellRows image 0x0A (FieldTold image 0x0A) it.members.items
  pub instances_are : TellRows image 0x2B (MethodTold image 0x2B) it.instances.items

-- what is told of the method or the MemberRef that a token names
unfoldable pub method_told : MethodWeights → ℕ → ℕ
method_told it token =
    if token / 2 ^ 24 == 0x06 then slice_index it.methods.items (token % 2 ^ 24)
    else if token / 2 ^ 24 == 0x0A then slice_index it.members.items (token % 2 ^ 24)
    else if token / 2 ^ 24 == 0x2B then slice_index it.instances.items (token % 2 ^ 24)
    else 0
