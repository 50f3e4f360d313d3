-- The demands on an image, and the first that fails (II.22, II.24, II.25). I1 to I3 are asked of the file, I4 and I5 of the CLI
-- header and the metadata root, I6 and I7 of the stream of tables; I8 to I23 of each row of each table, in the order of tables
-- and rows, where row 0 stands for the table's number of rows; I24 of the image as a whole. Each is asked only where those
-- before it hold.
use Rattle.std.specs.Prelude.{◌≡◌, ℕ, ◌^◌, ◌<◌, ◌≤◌, List, Some, None}
use Rattle.pe_layout.specs.Faults.{pe_fault}
use Rattle.pe_layout.specs.declared.fault.PeFault.{PeFault}
use Rattle.metadata_tables.specs.Faults.{IsWhole, IsEarlier, IsFault}
use Rattle.metadata_tables.specs.declared.fault.TableFault.{TableFault}
use Rattle.assembly_tree.specs.Weight.{weight_of}
use Rattle.assembly_tree.specs.declared.assembly.Assembly.{Assembly}
use Rattle.image_model.specs.declared.place.Place.{Place}
use Rattle.image_model.specs.declared.place.Place.TheVariants.{Byte, Row, Whole}
use Rattle.image_model.specs.Streams.{tables_of, HasCliHeader, HasRoot}
use Rattle.image_model.specs.Rows.{HasRow}
use Rattle.image_model.specs.Cells.{HasIndexes, HasEntry, HasEntries}
use Rattle.image_model.specs.Structure.{HasManifest, HasRuns, IsSorted, HasScopes}
use Rattle.body_codec.specs.Names.{NameMap}
use Rattle.image_model.specs.Namings.{AreNamings}
use Rattle.image_model.specs.Terms.{HasSignatures}
use Rattle.image_model.specs.Members.{AreDistinct, HasValues, HasAttribute, HasBase, HasOwnAccessors}
use Rattle.image_model.specs.Bodies.{HasHeader, HasInstructions, HasClauses, HasTokens}
use Rattle.image_model.specs.Reading.{IsAssembly}

-- the demands on rows
pub data RowRule : Type 0 where
  indexes entries manifest runs order scopes signatures distinct values header instructions clauses tokens attributes bases accessors : RowRule

-- their numbers
abbrev pub number_of : RowRule → ℕ
number_of indexes = 8
number_of entries = 9
number_of manifest = 10
number_of runs = 11
number_of order = 12
number_of scopes = 13
number_of signatures = 14
number_of distinct = 15
number_of values = 16
number_of header = 17
number_of instructions = 18
number_of clauses = 19
number_of tokens = 20
number_of attributes = 21
number_of bases = 22
number_of accessors = 23

-- A row meets a demand, by what tokens name.
abbrev pub RowMeets : List ℕ → NameMap → RowRule → (table row : ℕ) → Type 0
RowMeets image names indexes table row = HasRow image table row → HasIndexes image table row
RowMeets image names entries table row = HasRow image table row → HasEntries image table row
RowMeets image names manifest table row = HasManifest image table row
RowMeets image names runs table row = HasRuns image table row
RowMeets image names order table row = IsSorted image table row
RowMeets image names scopes table row = HasScopes image table row
RowMeets image names signatures table row = HasSignatures image names table row
RowMeets image names distinct table row = AreDistinct image names table row
RowMeets image names values table row = HasValues image names table row
RowMeets image names header table row = HasHeader image table row
RowMeets image names instructions table row = HasInstructions image table row
RowMeets image names clauses table row = HasClauses image table row
RowMeets image names tokens table row = HasTokens image names table row
RowMeets image names attributes table row = HasAttribute image names table row
RowMeets image names bases table row = HasBase image table row
RowMeets image names accessors table row = HasOwnAccessors image table row

-- every row meets a demand
abbrev pub AllMeet : List ℕ → NameMap → RowRule → Type 0
AllMeet image names rule = (table row : ℕ) → RowMeets image names rule table row

-- the demand holds: every row meets it; that on indexes asks the entry token besides
abbrev pub Holds : List ℕ → NameMap → RowRule → Type 0
Holds image names indexes = AllMeet image names indexes × HasEntry image
Holds image names rule = AllMeet image names rule

-- the demands before one on rows hold
abbrev pub HoldBefore : List ℕ → NameMap → RowRule → Type 0
HoldBefore image names rule = (earlier : RowRule) → number_of earlier < number_of rule → Holds image names earlier

-- no demand up to that on runs speaks of what tokens name; where they hold, tokens name something
abbrev pub NamedFor : List ℕ → NameMap → RowRule → Type 0
NamedFor image names rule = 13 < number_of rule → AreNamings image names

-- a row is the first that doesn't meet a demand
pub record IsFirstBad (image : List ℕ) (names : NameMap) (rule : RowRule) (table row : ℕ) : Type 0 where
  pub bad : RowMeets image names rule table row → ⊥
  pub first : (t r : ℕ) → IsEarlier t r table row → RowMeets image names rule t r

-- I1 to I7 hold
pub record HasTables (image : List ℕ) : Type 0 where
  pub headers : pe_fault image ≡ None
  pub cli : HasCliHeader image
  pub root : HasRoot image
  pub whole : IsWhole (tables_of image)

-- I24: the weight of an assembly
abbrev pub max_weight : ℕ
max_weight = 2 ^ 26

-- the image reads as the assembly: no demand fails, and each part is what the image gives
pub record Reads (image : List ℕ) (a : Assembly) : Type 0 where
  pub tables : HasTables image
  pub names : NameMap
  pub named : AreNamings image names
  pub rows : (rule : RowRule) → Holds image names rule
  pub parts : IsAssembly image names a
  pub weight : weight_of a ≤ max_weight

-- the first demand of the image that fails, and where
pub data IsImageFault (image : List ℕ) : ℕ → Place → Type 0 where
  -- I1 at byte 0, I2 at the PE signature
  in_headers : {fault : PeFault} → pe_fault image ≡ Some fault → fault.rule < 3 → IsImageFault image fault.rule (Byte fault.at)
  -- I3
  no_cli_header : {fault : PeFault} → pe_fault image ≡ Some fault → fault.rule ≡ 3 → IsImageFault image 3 Whole
  -- I4
  in_cli_header : pe_fault image ≡ None → (HasCliHeader image → ⊥) → IsImageFault image 4 Whole
  -- I5
  in_root : pe_fault image ≡ None → HasCliHeader image → (HasRoot image → ⊥) → IsImageFault image 5 Whole
  -- I6 and I7
  in_tables : {fault : TableFault} → pe_fault image ≡ None → HasCliHeader image → HasRoot image → IsFault (tables_of image) fault
      → IsImageFault image fault.rule (Row fault.table fault.row)
  -- I8 to I23
  in_row : (names : NameMap) {rule : RowRule} {table row number : ℕ} → HasTables image → NamedFor image names rule
      → HoldBefore image names rule → IsFirstBad image names rule table row → number ≡ number_of rule
      → IsImageFault image number (Row table row)
  -- I8, the entry token
  in_entry : HasTables image → ((table row : ℕ) → HasRow image table row → HasIndexes image table row) → (HasEntry image → ⊥) → IsImageFault image 8 Whole
  -- I24
  too_large : {names : NameMap} {a : Assembly} → HasTables image → AreNamings image names → ((rule : RowRule) → Holds image names rule)
      → IsAssembly image names a → max_weight < weight_of a → IsImageFault image 24 Whole
