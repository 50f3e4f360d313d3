-- Types: what each brings, with its rows and besides its members, and what all of them weigh.
use Rattle.std.proofs.Common.{◌≡◌, ◌∙◌, ap, sym, ℕ, ◌+◌, ◌*◌, ◌≤◌, List, [], ◌∷◌, ◌++◌, length, Bool, true, false, cond, Option, Some, None, length-append, arith}
use Rattle.std.specs.Prelude.{sum_by, ◌==◌}
use Rattle.std.specs.List.{flat_map}
use Rattle.std.proofs.lemmas.List.Sums.{sum_by-cons, sum_by-append}
use Rattle.assembly_tree.specs.Weight.{optional, owner_weight, bounds_weight, field_weight, method_weight, property_weight, event_weight, own_weight}
use Rattle.assembly_tree.specs.declared.typedef.Layout.{Layout}
use Rattle.assembly_tree.specs.declared.typedef.TypeDef.{TypeDef}
use Rattle.assembly_tree.specs.declared.typedef.TypeDef.TheViews.{out-TypeDef}
use Rattle.image_members.specs.Classes.{AreClasses, none, more}
use Rattle.image_rows.specs.ClassRows.{class_rows, nested_rows, stated_rows, layout_rows}
use Rattle.image_members.specs.DeclaredMembers.{class_fields, class_methods}
use Rattle.image_members.specs.Declaring.{class_size}
use Rattle.image_rows.specs.InterfaceRows.{class_interfaces, interfaces_from, count_interfaces, interface_bytes}
use Rattle.image_members.specs.Lists.{properties_in, events_in}
use Rattle.image_rows.specs.MapRows.{run_rows, map_rows, event_count, property_count}
use Rattle.image_members.specs.Places.{class_properties, class_events}
use Rattle.image_rows.specs.TypeRows.{base_of, base_weight}
use Rattle.image_members.specs.declared.classes.Class.{Class}
use Rattle.metadata_tables.specs.Indexes.{run_cell}
use Rattle.laws_tree_weights.specs.ImageBytes.{type_row_bytes}
use Rattle.laws_tree_weights.proofs.AttributeSums.{own_attributes}
use Rattle.laws_tree_weights.proofs.OwnedSums.{own_generics}
use Rattle.laws_tree_weights.proofs.PartLemmas.{attributes_fit}
use Rattle.laws_tree_weights.proofs.Sums.{sum_flat, sum_each, sum_same, sum_scaled, sum_numbered, totals_least}

-- ---- a sum over a tree

module _ (whole own : TypeDef → ℕ) (layer : (t : TypeDef) → whole t ≡ own t + sum_by whole (out-TypeDef t).nested) where
  pub classes_sum : (encloser row : ℕ) (types : List TypeDef) (classes : List Class) → AreClasses encloser row types classes
      → sum_by (λ c. own c.of.now) classes ≡ sum_by whole types
  classes_sum encloser row types classes (none e f) = ap (sum_by (λ (c : Class). own c.of.now)) f ∙ sym (ap (sum_by whole) e)
  classes_sum encloser row types classes (more {type = type} {beside = beside} {class = class} {nested = nested} {others = others} of in_it inner side e f) =
      let first = classes_sum row (row + 1) (out-TypeDef type).nested nested inner in
      let then = classes_sum encloser (row + 1 + length nested) beside others side in
      let here = ap own of in
      let its = layer type in
      let left = ap (sum_by (λ (c : Class). own c.of.now)) f ∙ sum_by-cons (λ (c : Class). own c.of.now) class (nested ++ others) in
      let both = sum_by-append (λ (c : Class). own c.of.now) nested others in
      let right = ap (sum_by whole) e ∙ sum_by-cons whole type beside in
      omega arith

-- ---- rows of types

abbrev eight : List ℕ → ℕ
eight row = 8

encloser_few : (row encloser : ℕ) (top : Bool) → sum_by eight (cond top [] ((row ∷ encloser ∷ []) ∷ [])) ≤ 8
encloser_few row encloser true = omega arith
encloser_few row encloser false = omega arith

nested_few : (classes : List Class) → 8 * length (class_rows nested_rows classes) ≤ sum_by (λ c. 8) classes
nested_few classes =
    let each = sum_same 8 (class_rows nested_rows classes) in
    let all = sum_numbered eight nested_rows (λ c. 8) (λ row c. encloser_few row c.encloser (c.encloser == 0)) 2 classes in
    omega arith

run_few : (row cell : ℕ) (empty : Bool) → length (cond empty [] ((row ∷ cell ∷ []) ∷ [])) ≤ 1
run_few row cell true = omega arith
run_few row cell false = omega arith

runs_few : (count : Class → ℕ) (all row first : ℕ) (classes : List Class) → length (map_rows count all row first classes) ≤ length classes
runs_few count all row first [] = omega arith
runs_few count all row first (c ∷ cs) =
    let rest = runs_few count all (row + 1) (first + count c) cs in
    let one = run_few row (run_cell all first) (count c == 0) in
    let both = length-append (run_rows row (run_cell all first) (count c)) (map_rows count all (row + 1) (first + count c) cs) in
    omega arith

abbrev layout_part : Class → ℕ
layout_part c = optional (λ _. 10) (out-TypeDef c.of.now).layout

layout_few : (row : ℕ) (layout : Option Layout) → sum_by (λ _. 10) (stated_rows row layout) ≤ optional (λ _. 10) layout
layout_few row None = omega arith
layout_few row (Some layout) = omega arith

layouts_few : (classes : List Class) → 10 * length (class_rows layout_rows classes) ≤ sum_by layout_part classes
layouts_few classes =
    let each = sum_same 10 (class_rows layout_rows classes) in
    let all = sum_numbered (λ _. 10) layout_rows layout_part (λ row c. layout_few row (out-TypeDef c.of.now).layout) 2 classes in
    omega arith

abbrev interface_part : Class → ℕ
interface_part c = sum_by owner_weight (class_interfaces c)

abbrev interface_count : Class → ℕ
interface_count c = length (class_interfaces c)

interfaces_bring : (row : ℕ) (classes : List Class) → sum_by interface_bytes (interfaces_from row classes) ≡ sum_by interface_part classes
interfaces_bring row [] = omega arith
interfaces_bring row (c ∷ cs) =
    let rest = interfaces_bring (row + 1) cs in
    let left = sum_by-cons interface_bytes (row, class_interfaces c) (interfaces_from (row + 1) cs) in
    let right = sum_by-cons interface_part c cs in
    omega arith

interfaces_count : (row : ℕ) (classes : List Class) → sum_by count_interfaces (interfaces_from row classes) ≡ sum_by interface_count classes
interfaces_count row [] = omega arith
interfaces_count row (c ∷ cs) =
    let rest = interfaces_count (row + 1) cs in
    let left = sum_by-cons count_interfaces (row, class_interfaces c) (interfaces_from (row + 1) cs) in
    let right = sum_by-cons interface_count c cs in
    omega arith

-- ---- types

abbrev pub class_weight : Class → ℕ
class_weight c = own_weight (out-TypeDef c.of.now)

abbrev row_of : Class → ℕ
row_of c = class_size c + 48

abbrev base_part : Class → ℕ
base_part c = base_weight (base_of c)

abbrev interface_rows : Class → ℕ
interface_rows c = 8 * interface_count c

abbrev own_fields : Class → ℕ
own_fields c = sum_by field_weight (class_fields c)

abbrev own_methods : Class → ℕ
own_methods c = sum_by method_weight (class_methods c)

abbrev own_properties : Class → ℕ
own_properties c = sum_by property_weight (class_properties c)

abbrev own_events : Class → ℕ
own_events c = sum_by event_weight (class_events c)

layout_fits : (layout : Option Layout) → optional (λ _. 10) layout ≤ optional (λ _. 64) layout
layout_fits None = omega arith
layout_fits (Some layout) = omega arith

class_fits : (c : Class)
    → row_of c + (layout_part c + (base_part c + (interface_part c + (interface_rows c + (own_generics c + (own_attributes c + (own_fields c + (own_methods c + (own_properties c + (own_events c + 0)))))))))) ≤ class_weight c
unfolding own_weight bounds_weight
class_fits c =
    let layout = layout_fits (out-TypeDef c.of.now).layout in
    let attributes = attributes_fit (out-TypeDef c.of.now).attributes in
    omega arith

-- what their members weigh stands for what these bring
pub classes_fit : (classes : List Class)
    → sum_by class_size classes + type_row_bytes classes + sum_by (λ c. base_weight (base_of c)) classes + sum_by interface_bytes (interfaces_from 2 classes)
    + sum_by own_generics classes + sum_by own_attributes classes + sum_by field_weight (flat_map class_fields classes)
    + sum_by method_weight (flat_map class_methods classes) + sum_by property_weight (properties_in classes) + sum_by event_weight (events_in classes)
    ≤ sum_by class_weight classes
unfolding type_row_bytes
classes_fit classes =
    let rows = sum_each class_size 48 classes in
    let nested = nested_few classes in
    let eights = sum_same 8 classes in
    let events = runs_few event_count (length (events_in classes)) 2 1 classes in
    let properties = runs_few property_count (length (properties_in classes)) 2 1 classes in
    let layouts = layouts_few classes in
    let interfaces = interfaces_bring 2 classes in
    let counted = interfaces_count 2 classes in
    let scaled = sum_scaled interface_count 8 classes in
    let f = sum_flat field_weight class_fields classes in
    let m = sum_flat method_weight class_methods classes in
    let p = sum_flat property_weight class_properties classes in
    let e = sum_flat event_weight class_events classes in
    let all =
    totals_least (row_of ∷ layout_part ∷ base_part ∷ interface_part ∷ interface_rows ∷ own_generics ∷ own_attributes ∷ own_fields ∷ own_methods ∷ own_properties ∷ own_events ∷ []) class_weight class_fits classes
    in
    omega arith
