-- The items of sorted tables rise by what their tables are sorted by.
use Rattle.std.proofs.Common.{◌≡◌, refl, sym, subst, ℕ, ◌+◌, ◌<◌, ◌==◌, Bool, true, false, cond, List, [], ◌∷◌, map, Option, Some, None, arith}
use Rattle.std.specs.Prelude.{slice_index}
use Rattle.std.specs.List.{AllByRecursion, AllZip, flat_map, enumerate_from}
use Rattle.assembly_tree.specs.declared.assembly.Assembly.{Assembly}
use Rattle.assembly_tree.specs.declared.members.Attribute.{Attribute}
use Rattle.assembly_tree.specs.declared.members.Constant.{Constant}
use Rattle.assembly_tree.specs.declared.members.Field.{Field}
use Rattle.assembly_tree.specs.declared.members.Generic.{Generic}
use Rattle.assembly_tree.specs.declared.members.Method.{Method}
use Rattle.assembly_tree.specs.declared.typedef.Layout.{Layout}
use Rattle.assembly_tree.specs.declared.typedef.TypeDef.TheViews.{out-TypeDef}
use Rattle.metadata_tables.specs.CodedIndex.{tag_of}
use Rattle.metadata_tables.specs.declared.coded.Coded.{Coded}
use Rattle.metadata_tables.specs.declared.coded.Coded.TheVariants.{HasConstant, HasCustomAttribute, HasSemantics, TypeOrMethodDef}
use Rattle.type_terms.specs.declared.reference.MethodRef.{MethodRef}
use Rattle.type_terms.specs.declared.term.Owner.{Owner}
use Rattle.image_tokens.specs.declared.references.References.{References}
use Rattle.image_tokens.specs.declared.row_set.Cells.{Cells}
use Rattle.image_rows.specs.ClassRows.{class_rows, layout_rows, nested_rows, stated_rows, encloser_rows}
use Rattle.image_members.specs.DataRows.{Datum, stated_data, field_data, all_data}
use Rattle.image_members.specs.DeclaredMembers.{owned, IsMethodOf}
use Rattle.image_rows.specs.FieldRows.{stated_offset, offset_rows}
use Rattle.image_members.specs.GenericRows.{bounds_with, bounds_in, bounds_from}
use Rattle.image_rows.specs.InterfaceRows.{interfaces_from, joined, AreInterfaceRows}
use Rattle.image_members.specs.Lists.{class_generics, attribute_lists, attribute_items, constant_lists, constant_items, generic_lists, generic_items, accessor_lists, accessor_items, longest_of}
use Rattle.image_rows.specs.OverrideRows.{Override, overrides, overrides_from}
use Rattle.image_members.specs.Places.{all_methods}
use Rattle.image_members.specs.declared.classes.Class.{Class}
use Rattle.laws_image_reading.proofs.order.NumberRising.{index_in, marked, TagsRise, IsOrderedList, AreOrderedLists, by_number_rises}
use Rattle.laws_image_reading.proofs.order.Rising.{Rise, Climb, InGroup, AreLinked, in_group, group_rises, made_rise, group_climbs, climbs_from, climbs_rise}

-- nothing else orders them
abbrev pub anything : {X : Type 0} → X → X → Type 0
anything x y = Unit {0}

-- no two have one number
abbrev pub never : {X : Type 0} → X → X → Type 0
never x y = ⊥

pub any : {X : Type 0} (x y : X) → anything x y
any x y = tt

abbrev pub cell_at : ℕ → List ℕ → ℕ
cell_at c cells = slice_index cells c

-- ---- layouts, offsets, data, enclosers and bounds

layout_keyed : (row : ℕ) (o : Option Layout) → AllByRecursion (λ cells. cell_at 2 cells ≡ row) (stated_rows row o)
layout_keyed row None = tt
layout_keyed row (Some l) = (refl, tt)

pub layouts_rise : (classes : List Class) → Rise (cell_at 2) anything 2 (class_rows layout_rows classes)
layouts_rise classes =
    made_rise (cell_at 2) anything layout_rows (λ row (c : Class). layout_keyed row (out-TypeDef c.of.now).layout) (λ row c. in_group (cell_at 2) anything any (layout_rows (row, c))) 2 classes

offset_keyed : (row : ℕ) (o : Option ℕ) → AllByRecursion (λ cells. cell_at 1 cells ≡ row) (stated_offset row o)
offset_keyed row None = tt
offset_keyed row (Some n) = (refl, tt)

pub offsets_rise : (fields : List Field) → Rise (cell_at 1) anything 1 (flat_map offset_rows (enumerate_from 1 fields))
offsets_rise fields =
    made_rise (cell_at 1) anything offset_rows (λ row (f : Field). offset_keyed row f.offset) (λ row f. in_group (cell_at 1) anything any (offset_rows (row, f))) 1 fields

abbrev pub field_of : Datum → ℕ
field_of d = d.field

datum_keyed : (row : ℕ) (o : Option (List ℕ)) → AllByRecursion (λ (d : Datum). field_of d ≡ row) (stated_data row o)
datum_keyed row None = tt
datum_keyed row (Some bytes) = (refl, tt)

pub data_rise : (fields : List Field) → Rise field_of anything 1 (all_data 1 fields)
data_rise fields = made_rise field_of anything field_data (λ row (f : Field). datum_keyed row f.content) (λ row f. in_group field_of anything any (field_data (row, f))) 1 fields

pub encloser_keyed : (row encloser : ℕ) → AllByRecursion (λ cells. cell_at 0 cells ≡ row) (encloser_rows row encloser)
encloser_keyed row encloser = by_test (encloser == 0)
  where
    by_test : (b : Bool) → AllByRecursion (λ cells. cell_at 0 cells ≡ row) (cond b [] ((row ∷ encloser ∷ []) ∷ []))
    by_test true = tt
    by_test false = (refl, tt)

encloser_alone : (row encloser : ℕ) → InGroup (cell_at 0) never (encloser_rows row encloser)
encloser_alone row encloser = by_test (encloser == 0)
  where
    by_test : (b : Bool) → InGroup (cell_at 0) never (cond b [] ((row ∷ encloser ∷ []) ∷ []))
    by_test true = tt
    by_test false = tt

-- a type is nested once
pub nested_rise : (classes : List Class) → Rise (cell_at 0) never 2 (class_rows nested_rows classes)
nested_rise classes = made_rise (cell_at 0) never nested_rows (λ row (c : Class). encloser_keyed row c.encloser) (λ row (c : Class). encloser_alone row c.encloser) 2 classes

abbrev pub parameter_of : ℕ × Owner → ℕ
parameter_of b = b.0

bounds_keyed : (row : ℕ) (os : List Owner) → AllByRecursion (λ b. parameter_of b ≡ row) (bounds_with row os)
bounds_keyed row [] = tt
bounds_keyed row (o ∷ os) = (refl, bounds_keyed row os)

pub bounds_rise : (generics : List Generic) → Rise parameter_of anything 1 (bounds_from 1 generics)
bounds_rise generics =
    made_rise parameter_of anything bounds_in (λ row (g : Generic). bounds_keyed row g.bounds) (λ row g. in_group parameter_of anything any (bounds_in (row, g))) 1 generics

-- ---- interfaces

made_keyed : (type : ℕ) (indexes : List ℕ) → AllByRecursion (λ cells. cell_at 0 cells ≡ type) (map (λ (index : ℕ). type ∷ index ∷ []) indexes)
made_keyed type [] = tt
made_keyed type (index ∷ indexes) = (refl, made_keyed type indexes)

pub interfaces_rise : (r : References) (row : ℕ) (classes : List Class) (groups : List (List (List ℕ))) → AllZip (AreInterfaceRows r) groups (interfaces_from row classes)
    → Rise (cell_at 0) anything row (joined groups)
interfaces_rise r row [] [] h = tt
interfaces_rise r row [] (g ∷ gs) h = absurd h
interfaces_rise r row (c ∷ cs) [] h = absurd h
interfaces_rise r row (c ∷ cs) (g ∷ gs) h =
    let is = h.0 in
    group_rises (cell_at 0) anything row row g (joined gs) (omega arith)
    (subst (AllByRecursion (λ cells. cell_at 0 cells ≡ row)) (sym is.are) (made_keyed row is.indexes))
    (in_group (cell_at 0) anything any g) (interfaces_rise r (row + 1) cs gs h.1)

-- ---- overrides

abbrev pub owner_of : {X : Type 0} → ℕ × X → ℕ
owner_of m = m.0

owned_keyed : {X : Type 0} (row : ℕ) (xs : List X) → AllByRecursion (λ (m : ℕ × X). owner_of m ≡ row) (map (λ (x : X). (row, x)) xs)
owned_keyed row [] = tt
owned_keyed row (x ∷ xs) = (refl, owned_keyed row xs)

pub owned_climb : {X : Type 0} (row : ℕ) (lists : List (List X)) → Climb (owner_of {X = X}) row (owned row lists)
owned_climb row [] = tt
owned_climb {X} row (xs ∷ more) =
    group_climbs (owner_of {X = X}) row row (map (λ (x : X). (row, x)) xs) (owned (row + 1) more) (omega arith) (owned_keyed row xs)
    (climbs_from (owner_of {X = X}) row (row + 1) (owned (row + 1) more) (omega arith) (owned_climb (row + 1) more))

abbrev pub type_cell : Cells → ℕ
type_cell c = c.first

declared_climb : (r : References) (low : ℕ) (declared : List Cells) (members : List (ℕ × Method)) → Climb (owner_of {X = Method}) low members → AllZip (IsMethodOf r) declared members
    → Climb type_cell low declared
declared_climb r low [] [] c h = tt
declared_climb r low [] (m ∷ ms) c h = absurd h
declared_climb r low (d ∷ ds) [] c h = absurd h
declared_climb r low (d ∷ ds) (m ∷ ms) c h =
    let is = h.0 in
    let same : d.first ≡ m.0 = is.type_is in
    let first = c.0 in
    (omega arith, declared_climb r d.first ds ms (climbs_from (owner_of {X = Method}) d.first m.0 ms (omega arith) c.1) h.1)

abbrev pub class_of : Override → ℕ
class_of o = o.type

overrides_keyed : (type row : ℕ) (ms : List MethodRef) → AllByRecursion (λ o. class_of o ≡ type) (overrides type row ms)
overrides_keyed type row [] = tt
overrides_keyed type row (m ∷ ms) = (refl, overrides_keyed type row ms)

overrides_climb : (low row : ℕ) (declared : List Cells) (ms : List Method) → Climb type_cell low declared → Climb class_of low (overrides_from row declared ms)
overrides_climb low row declared [] c = tt
overrides_climb low row [] (m ∷ ms) c = tt
overrides_climb low row (d ∷ ds) (m ∷ ms) c =
    group_climbs class_of low d.first (overrides d.first row m.overrides) (overrides_from (row + 1) ds ms) c.0 (overrides_keyed d.first row m.overrides)
    (overrides_climb d.first (row + 1) ds ms c.1)

pub overrides_rise : (r : References) (lists : List (List Method)) (ms : List Method) → AllZip (IsMethodOf r) r.declared.methods (owned 1 lists)
    → Rise class_of anything 1 (overrides_from 1 r.declared.methods ms)
overrides_rise r lists ms h =
    climbs_rise class_of anything any 1 (overrides_from 1 r.declared.methods ms)
    (overrides_climb 1 1 r.declared.methods ms (declared_climb r 1 r.declared.methods (owned 1 lists) (owned_climb 1 lists) h))

-- ---- what rows of several tables own

module _ {X : Type 0} (kind : Coded) where
  any_list : (xs : List X) → IsOrderedList {X = X} kind anything xs
  any_list xs v = in_group (index_in {X = X}) anything any (marked v xs)

  any_lists : (lists : List (List X)) → AllByRecursion (IsOrderedList {X = X} kind anything) lists
  any_lists [] = tt
  any_lists (xs ∷ lists) = (any_list xs, any_lists lists)

  any_tables : (tables : List (ℕ × List (List X))) → AreOrderedLists {X = X} kind anything tables
  any_tables [] = tt
  any_tables (t ∷ tables) = (any_lists t.1, any_tables tables)

-- the numbers of the generic parameters of one owner
abbrev pub number_in : ℕ × (ℕ × Generic) → ℕ
number_in g = g.1.0

abbrev pub numbers_rise : ℕ × (ℕ × Generic) → ℕ × (ℕ × Generic) → Type 0
numbers_rise g f = number_in g < number_in f

numbered_linked : (v n : ℕ) (g : Generic) (gs : List Generic) → AreLinked (index_in {X = ℕ × Generic}) numbers_rise (v, (n, g)) (marked v (enumerate_from (n + 1) gs))
numbered_linked v n g [] = tt
numbered_linked v n g (f ∷ gs) = (omega arith, numbered_linked v (n + 1) f gs)

numbered_list : (gs : List Generic) → IsOrderedList TypeOrMethodDef numbers_rise (enumerate_from 0 gs)
numbered_list [] v = tt
numbered_list (g ∷ gs) v = numbered_linked v 0 g gs

numbered_lists : {X : Type 0} (generics : X → List Generic) (xs : List X) → AllByRecursion (IsOrderedList TypeOrMethodDef numbers_rise) (map (λ (x : X). enumerate_from 0 (generics x)) xs)
numbered_lists generics [] = tt
numbered_lists generics (x ∷ xs) = (numbered_list (generics x), numbered_lists generics xs)

module _ (a : Assembly) (classes : List Class) where
  generic_tags : TagsRise TypeOrMethodDef numbers_rise 0 (generic_lists a classes)
  unfolding tag_of
  generic_tags = (0, refl, omega arith, omega arith, (1, refl, omega arith, omega arith, tt))

  pub generics_rise : Rise (index_in {X = ℕ × Generic}) numbers_rise 0 (generic_items a classes)
  generics_rise =
      by_number_rises TypeOrMethodDef numbers_rise (generic_lists a classes) generic_tags
      ((λ v. tt, numbered_lists class_generics classes), (numbered_lists (λ (m : Method). m.generics) (all_methods a classes), tt)) (longest_of (generic_lists a classes))

  accessor_tags : TagsRise HasSemantics anything 0 (accessor_lists a classes)
  unfolding tag_of
  accessor_tags = (0, refl, omega arith, omega arith, (1, refl, omega arith, omega arith, tt))

  pub accessors_rise : Rise (index_in {X = ℕ × ℕ}) anything 0 (accessor_items a classes)
  accessors_rise = by_number_rises HasSemantics anything (accessor_lists a classes) accessor_tags (any_tables HasSemantics (accessor_lists a classes)) (longest_of (accessor_lists a classes))

  constant_tags : TagsRise HasConstant anything 0 (constant_lists a classes)
  unfolding tag_of
  constant_tags = (0, refl, omega arith, omega arith, (1, refl, omega arith, omega arith, (2, refl, omega arith, omega arith, tt)))

  pub constants_rise : Rise (index_in {X = Constant}) anything 0 (constant_items a classes)
  constants_rise = by_number_rises HasConstant anything (constant_lists a classes) constant_tags (any_tables HasConstant (constant_lists a classes)) (longest_of (constant_lists a classes))

  attribute_tags : TagsRise HasCustomAttribute anything 0 (attribute_lists a classes)
  unfolding tag_of
  attribute_tags = (0, refl, omega arith, omega arith, (1, refl, omega arith, omega arith, (3, refl, omega arith, omega arith, (4, refl, omega arith, omega arith, (7, refl, omega arith, omega arith, (9, refl, omega arith, omega arith, (10, refl, omega arith, omega arith, (14, refl, omega arith, omega arith, (19, refl, omega arith, omega arith, tt)))))))))

  pub attributes_rise : Rise (index_in {X = Attribute}) anything 0 (attribute_items a classes)
  attributes_rise =
      by_number_rises HasCustomAttribute anything (attribute_lists a classes) attribute_tags (any_tables HasCustomAttribute (attribute_lists a classes)) (longest_of (attribute_lists a classes))
