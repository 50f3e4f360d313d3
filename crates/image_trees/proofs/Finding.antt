-- Rows that are there, and what is asked before maps and chains of members are made (II.22).
use Rattle.std.proofs.Common.{◌≡◌, ℕ, ◌*◌, ◌/◌, ◌%◌, ◌≤◌, List, option_map, Option, Some, None, refl, ap, arith}
use Rattle.std.specs.Prelude.{slice_index}
use Rattle.metadata_tables.specs.CodedIndex.{table_of}
use Rattle.metadata_tables.specs.Schema.{schema}
use Rattle.metadata_tables.specs.Stream.{cell}
use Rattle.metadata_tables.specs.declared.coded.Coded.TheVariants.{MethodDefOrRef}
use Rattle.image_methods.specs.Overriders.{AreOverriders}
use Rattle.image_model.specs.Columns.{override_body, override_class}
use Rattle.image_model.specs.Members.{OverridesInClass}
use Rattle.image_model.specs.Rows.{count_of, HasRow}
use Rattle.image_model.specs.Streams.{tables_of}
use Rattle.image_source.specs.Ready.{AreOwned}
use Rattle.row_chains.specs.Following.{AreWithin}
use Rattle.row_demands.specs.Structured.{MeetStructure}

-- the row of the assembly, that of its module, and that of `<Module>` are there (II.22.2, II.22.30, II.22.37)
pub assembly_there : (image : List ℕ) → MeetStructure image → HasRow image 0x20 1
assembly_there image meets = let e = (meets.manifest 0x20 0).one_assembly refl refl in (omega arith, omega arith)

pub module_there : (image : List ℕ) → MeetStructure image → HasRow image 0x00 1
module_there image meets = let e = (meets.manifest 0x00 0).one_module refl refl in (omega arith, omega arith)

pub module_type_there : (image : List ℕ) → MeetStructure image → HasRow image 0x02 1
module_type_there image meets = let e = (meets.manifest 0x02 0).some_types refl refl in (omega arith, omega arith)

-- the parent of a row of a map is a type
pub event_parents : (image : List ℕ) → MeetStructure image → (row : ℕ) → HasRow image 0x12 row → cell (tables_of image) 0x12 row 0 ≤ count_of image 0x02
unfolding schema
event_parents image meets row there = (meets.indexes 0x12 row there 0 (omega arith)).1

pub property_parents : (image : List ℕ) → MeetStructure image → (row : ℕ) → HasRow image 0x15 row → cell (tables_of image) 0x15 row 0 ≤ count_of image 0x02
unfolding schema
property_parents image meets row there = (meets.indexes 0x15 row there 0 (omega arith)).1

-- the class of a row of MethodImpl is a type
class_there : (image : List ℕ) → MeetStructure image → (row : ℕ) → HasRow image 0x19 row → HasRow image 0x02 (override_class image row)
unfolding schema
class_there image meets row there = meets.indexes 0x19 row there 0 (omega arith)

abbrev pair : ℕ → ℕ → ℕ × ℕ
pair a b = (a, b)

second_is : (o : Option ℕ) (second table row : ℕ) → option_map (λ (t : ℕ). pair t second) o ≡ Some (pair table row) → second ≡ row
second_is None second table row e = cc
second_is (Some t) second table row e = let p : pair t second ≡ pair table row = cc in ap (λ (q : ℕ × ℕ). q.1) p

-- the methods that override are methods of the image
pub bodies_within : (image bodies : List ℕ) → MeetStructure image → AreOwned image → ((row : ℕ) → HasRow image 0x19 row → OverridesInClass image row) → AreOverriders image bodies
    → AreWithin bodies (count_of image 0x06)
bodies_within image bodies meets owned own are row some less =
    let upto : row ≤ count_of image 0x19 = (let l = are.long in omega arith) in
    let m = own row (some, upto) in
    let there : HasRow image 0x06 m.0 = owned.methods (override_class image row) m.0 (class_there image meets row (some, upto)) m.2 in
    let half : override_body image row / 2 ≡ m.0 = second_is (table_of MethodDefOrRef (override_body image row % 2)) (override_body image row / 2) 0x06 m.0 m.1 in
    let twice : override_body image row ≡ slice_index bodies row * 2 = are.each row some upto in
    let last : m.0 ≤ count_of image 0x06 = there.1 in
    omega (arith, half, twice, last)
