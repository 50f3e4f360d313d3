-- What is asked of rows before any signature is looked at: the rows that must be there (I10), runs (I11), order (I12), nesting
-- and scopes (I13). Each is a demand on one row of a table; row 0 stands for the table's number of rows.
use Rattle.std.specs.Prelude.{◌≡◌, ◌≢◌, ℕ, ◌-◌, ◌<◌, ◌≤◌, List, [], Contains, length, codes}
use Rattle.metadata_tables.specs.Order.{IsInOrder}
use Rattle.metadata_tables.specs.declared.coded.Coded.TheVariants.{HasCustomAttribute, TypeOrMethodDef}
use Rattle.heaps.specs.Content.{HasText}
use Rattle.type_terms.specs.declared.name.Scope.{Scope}
use Rattle.type_terms.specs.declared.name.Scope.TheVariants.{Here}
use Rattle.type_terms.specs.declared.name.TypeId.{TypeId}
use Rattle.image_model.specs.Streams.{tables_of, strings_of}
use Rattle.image_model.specs.Columns.{type_name, type_space, type_extends, interface_class, attribute_parent, event_map_parent, property_map_parent, nested_class, enclosing_class, generic_owner, param_sequence}
use Rattle.image_model.specs.Rows.{count_of, HasRow, rows_with, index_of, first_field, first_method, first_param, first_event, first_property, fields_of, methods_of, params_of, events_in, properties_in}
use Rattle.image_model.specs.Naming.{HasPath, HasRefPath}

-- ---- I10

-- no run of a row of a map (II.22.12, II.22.35) belongs to `<Module>`: where its parent is row 1, it is empty
abbrev pub HasNoneInModule : List ℕ → ℕ → (List ℕ → ℕ → ℕ) → (List ℕ → ℕ → List ℕ) → Type 0
HasNoneInModule image table parent run_of = (map : ℕ) → HasRow image table map → parent image map ≡ 1 → run_of image map ≡ []

-- `<Module>` (II.22.37): without base, properties, events, interfaces, attributes and generic parameters, and in no nesting
pub record IsModuleType (image : List ℕ) : Type 0 where
  pub name : HasText (strings_of image) (type_name image 1) (codes "<Module>")
  pub space : HasText (strings_of image) (type_space image 1) []
  pub no_base : type_extends image 1 ≡ 0
  pub no_properties : HasNoneInModule image 0x15 property_map_parent properties_in
  pub no_events : HasNoneInModule image 0x12 event_map_parent events_in
  pub no_interfaces : rows_with image 0x09 interface_class 1 ≡ []
  pub no_attributes : rows_with image 0x0C attribute_parent (index_of HasCustomAttribute 0x02 1) ≡ []
  pub no_generics : rows_with image 0x2A generic_owner (index_of TypeOrMethodDef 0x02 1) ≡ []
  pub not_nested : rows_with image 0x29 nested_class 1 ≡ []
  pub not_enclosing : rows_with image 0x29 enclosing_class 1 ≡ []

-- I10: one row in Module and in Assembly, and at least one in TypeDef, whose first is `<Module>`
pub record HasManifest (image : List ℕ) (table row : ℕ) : Type 0 where
  pub one_module : table ≡ 0x00 → row ≡ 0 → count_of image 0x00 ≡ 1
  pub some_types : table ≡ 0x02 → row ≡ 0 → 0 < count_of image 0x02
  pub module_type : table ≡ 0x02 → row ≡ 1 → IsModuleType image
  pub one_assembly : table ≡ 0x20 → row ≡ 0 → count_of image 0x20 ≡ 1

-- ---- I11

-- no run begins before that of the row before
abbrev pub Rises : (ℕ → ℕ) → ℕ → Type 0
Rises start row = 1 < row → start (row - 1) ≤ start row

-- a row lies in the run of a row of another table
abbrev pub LiesIn : List ℕ → ℕ → (ℕ → List ℕ) → ℕ → Type 0
LiesIn image owners members row = (owner : ℕ) × HasRow image owners owner × Contains (members owner) row

-- no earlier row of the table has the same value in a column
abbrev pub IsFirstWith : (ℕ → ℕ) → ℕ → Type 0
IsFirstWith column row = (earlier : ℕ) → 0 < earlier → earlier < row → column earlier ≢ column row

-- the sequence of a param is above that of the param before it of the same method (II.22.33)
abbrev pub RisesInMethod : List ℕ → ℕ → Type 0
RisesInMethod image param =
    (method : ℕ) → HasRow image 0x06 method → Contains (params_of image method) (param - 1) → Contains (params_of image method) param
    → param_sequence image (param - 1) < param_sequence image param

pub record HasRuns (image : List ℕ) (table row : ℕ) : Type 0 where
  pub fields : table ≡ 0x02 → HasRow image 0x02 row → Rises (first_field image) row
  pub methods : table ≡ 0x02 → HasRow image 0x02 row → Rises (first_method image) row
  pub in_type : table ≡ 0x04 → HasRow image 0x04 row → LiesIn image 0x02 (fields_of image) row
  pub params : table ≡ 0x06 → HasRow image 0x06 row → Rises (first_param image) row
  pub method_in_type : table ≡ 0x06 → HasRow image 0x06 row → LiesIn image 0x02 (methods_of image) row
  pub in_method : table ≡ 0x08 → HasRow image 0x08 row → LiesIn image 0x06 (params_of image) row
  pub sequence : table ≡ 0x08 → HasRow image 0x08 row → RisesInMethod image row
  pub events : table ≡ 0x12 → HasRow image 0x12 row → Rises (first_event image) row
  pub one_event_map : table ≡ 0x12 → HasRow image 0x12 row → IsFirstWith (event_map_parent image) row
  pub event_in_map : table ≡ 0x14 → HasRow image 0x14 row → LiesIn image 0x12 (events_in image) row
  pub properties : table ≡ 0x15 → HasRow image 0x15 row → Rises (first_property image) row
  pub one_property_map : table ≡ 0x15 → HasRow image 0x15 row → IsFirstWith (property_map_parent image) row
  pub property_in_map : table ≡ 0x17 → HasRow image 0x17 row → LiesIn image 0x15 (properties_in image) row

-- ---- I12

-- the row isn't before the one that it follows, by the columns that its table is sorted by
abbrev pub IsSorted : List ℕ → ℕ → ℕ → Type 0
IsSorted image table row = 1 < row → HasRow image table row → IsInOrder (tables_of image) table row

-- ---- I13

-- how many names a path may have
abbrev pub max_path : ℕ
max_path = 100

-- a reference leads along its scopes to the module or an assembly; in the module it names a type of this image (II.22.38)
pub record HasScope (image : List ℕ) (row : ℕ) : Type 0 where
  pub scope : Scope
  pub path : List TypeId
  pub leads : HasRefPath image row scope path
  pub short : length path ≤ max_path
  pub declared : scope ≡ Here → (type : ℕ) × HasRow image 0x02 type × HasPath image type path

-- a nested type has one enclosing type, which stands before it, and isn't nested too deep (II.22.32)
pub record IsNested (image : List ℕ) (row : ℕ) : Type 0 where
  pub once : IsFirstWith (nested_class image) row
  pub before : enclosing_class image row < nested_class image row
  pub path : List TypeId
  pub leads : HasPath image (nested_class image row) path
  pub short : length path ≤ max_path

pub record HasScopes (image : List ℕ) (table row : ℕ) : Type 0 where
  pub reference : table ≡ 0x01 → HasRow image 0x01 row → HasScope image row
  pub nesting : table ≡ 0x29 → HasRow image 0x29 row → IsNested image row
