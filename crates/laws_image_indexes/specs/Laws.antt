-- The rows of a filled image lead to what is there (ECMA-335 II.22, II.24.2.6).
use Rattle.std.specs.Prelude.{◌≡◌, ℕ, ◌<◌, ◌≤◌, List, length}
use Rattle.std.specs.List.{AllByRecursion}
use Rattle.assembly_tree.specs.declared.assembly.Assembly.{Assembly}
use Rattle.metadata_tables.specs.Encoding.{rows_in, cell_of}
use Rattle.metadata_tables.specs.Schema.{columns_of}
use Rattle.metadata_tables.specs.Stream.{column_of}
use Rattle.image_layout.specs.Indexes.{IsIndexIn, HasIndexesIn}
use Rattle.image_tokens.specs.declared.references.References.{References}
use Rattle.image_rows.specs.Filled.{IsFilled}
use Rattle.image_members.specs.Lists.{accessor_items}
use Rattle.image_members.specs.Places.{all_methods}
use Rattle.image_members.specs.Pushing.{Tables}
use Rattle.image_members.specs.declared.classes.Class.{Class}

-- the cells of a table's rows do
abbrev pub LeadsFrom : References → Tables → ℕ → Type 0
LeadsFrom r tables table =
    (row column : ℕ) → row < rows_in tables table → column < length (columns_of table) → IsIndexIn r tables (column_of table column) (cell_of tables table row column)

-- tables whose rows have texts, blobs, signatures, runs and types alone
pub record HasPlainIndexes (r : References) (tables : Tables) : Type 0 where
  pub module_row : LeadsFrom r tables 0x00
  pub types : LeadsFrom r tables 0x02
  pub fields : LeadsFrom r tables 0x04
  pub methods : LeadsFrom r tables 0x06
  pub params : LeadsFrom r tables 0x08
  pub events : LeadsFrom r tables 0x14
  pub properties : LeadsFrom r tables 0x17
  pub assembly : LeadsFrom r tables 0x20
  pub externs : LeadsFrom r tables 0x23

abbrev pub FilledHasPlainIndexes : Type 0
FilledHasPlainIndexes =
    (a : Assembly) (classes : List Class) (r : References) (tables : Tables) (code : List ℕ) → IsFilled a classes r tables code → HasPlainIndexes r tables

-- the methods of accessors have rows (II.22.28)
abbrev pub AccessorsAreMethods : Assembly → List Class → Type 0
AccessorsAreMethods a classes = AllByRecursion (λ x. x.1.1 ≤ length (all_methods a classes)) (accessor_items a classes)

-- tables whose rows belong to those of others
pub record HasOwnedIndexes (r : References) (tables : Tables) : Type 0 where
  pub interfaces : LeadsFrom r tables 0x09
  pub constants : LeadsFrom r tables 0x0B
  pub attributes : LeadsFrom r tables 0x0C
  pub layouts : LeadsFrom r tables 0x0F
  pub offsets : LeadsFrom r tables 0x10
  pub event_map : LeadsFrom r tables 0x12
  pub property_map : LeadsFrom r tables 0x15
  pub accessors : LeadsFrom r tables 0x18
  pub overrides : LeadsFrom r tables 0x19
  pub contents : LeadsFrom r tables 0x1D
  pub nested : LeadsFrom r tables 0x29
  pub generics : LeadsFrom r tables 0x2A
  pub bounds : LeadsFrom r tables 0x2C

abbrev pub FilledHasOwnedIndexes : Type 0
FilledHasOwnedIndexes =
    (a : Assembly) (classes : List Class) (r : References) (tables : Tables) (code : List ℕ) → AccessorsAreMethods a classes → IsFilled a classes r tables code
    → HasOwnedIndexes r tables

-- all cells lead to what is there, where as many externs are declared as there are
abbrev pub FilledHasIndexes : Type 0
FilledHasIndexes =
    (a : Assembly) (classes : List Class) (r : References) (tables : Tables) (code : List ℕ) → AccessorsAreMethods a classes → r.declared.externs ≡ length a.externs
    → IsFilled a classes r tables code → HasIndexesIn r tables
