-- The attributes that rows own, with their rows: no more than what methods, fields and all else list.
use Rattle.std.proofs.Common.{◌≡◌, ap, ℕ, ◌+◌, ◌*◌, ◌≤◌, List, [], ◌∷◌, map, length, arith}
use Rattle.std.specs.Prelude.{sum_by}
use Rattle.assembly_tree.specs.declared.members.Attribute.{Attribute}
use Rattle.assembly_tree.specs.declared.members.Event.{Event}
use Rattle.assembly_tree.specs.declared.members.Field.{Field}
use Rattle.assembly_tree.specs.declared.members.Generic.{Generic}
use Rattle.assembly_tree.specs.declared.members.Method.{Method}
use Rattle.assembly_tree.specs.declared.members.Param.{Param}
use Rattle.assembly_tree.specs.declared.members.Property.{Property}
use Rattle.metadata_tables.specs.declared.coded.Coded.TheVariants.{HasCustomAttribute}
use Rattle.image_rows.specs.AttributeRows.{attribute_bytes}
use Rattle.image_members.specs.ByNumber.{by_number}
use Rattle.image_members.specs.Lists.{Owned, class_attributes}
use Rattle.image_members.specs.declared.classes.Class.{Class}
use Rattle.laws_tree_weights.proofs.NumberSums.{owned_most, lists_mapped, lists_behind, one_list}
use Rattle.laws_tree_weights.proofs.PartLemmas.{attribute_part, attributes_part}
use Rattle.laws_tree_weights.proofs.Sums.{sum_each}

abbrev pub method_attributes : Method → ℕ
method_attributes m = attributes_part m.attributes

abbrev pub field_attributes : Field → ℕ
field_attributes f = attributes_part f.attributes

abbrev pub own_attributes : Class → ℕ
own_attributes c = attributes_part (class_attributes c)

abbrev pub param_attributes : Param → ℕ
param_attributes p = attributes_part p.attributes

abbrev pub property_attributes : Property → ℕ
property_attributes p = attributes_part p.attributes

abbrev pub event_attributes : Event → ℕ
event_attributes e = attributes_part e.attributes

abbrev pub generic_attributes : Generic → ℕ
generic_attributes g = attributes_part g.attributes

attribute_rows : (items : List (ℕ × Attribute)) → sum_by attribute_bytes items + 12 * length items ≡ sum_by (λ e. attribute_part e.1) items
unfolding attribute_bytes
attribute_rows items = sum_each attribute_bytes 12 items

-- each list part of the tables
module _ (methods : List Method) (fields : List Field) (classes : List Class) (params : List Param) (of_module : List Attribute) (properties : List Property) (events : List Event)
    (of_assembly : List Attribute) (generics : List Generic) where
  abbrev tables : List (Owned Attribute)
  tables =
      (0x06, map (λ (m : Method). m.attributes) methods)
      ∷ (0x04, map (λ (f : Field). f.attributes) fields)
      ∷ (0x02, [] ∷ map class_attributes classes)
      ∷ (0x08, map (λ (p : Param). p.attributes) params)
      ∷ (0x00, of_module ∷ [])
      ∷ (0x17, map (λ (p : Property). p.attributes) properties)
      ∷ (0x14, map (λ (e : Event). e.attributes) events)
      ∷ (0x20, of_assembly ∷ [])
      ∷ (0x2A, map (λ (g : Generic). g.attributes) generics) ∷ []

  pub attributes_most : (n : ℕ) (items : List (ℕ × Attribute)) → items ≡ by_number HasCustomAttribute tables n
      → sum_by attribute_bytes items + 12 * length items
      ≤ sum_by method_attributes methods + sum_by field_attributes fields + sum_by own_attributes classes + sum_by param_attributes params + attributes_part of_module
      + sum_by property_attributes properties + sum_by event_attributes events + attributes_part of_assembly + sum_by generic_attributes generics
  attributes_most n items is =
      let rows = attribute_rows items in
      let same = ap (sum_by (λ (e : ℕ × Attribute). attribute_part e.1)) is in
      let most = owned_most attribute_part HasCustomAttribute tables n in
      let a = lists_mapped attribute_part (λ (m : Method). m.attributes) method_attributes (λ m. omega arith) methods in
      let b = lists_mapped attribute_part (λ (f : Field). f.attributes) field_attributes (λ f. omega arith) fields in
      let c = lists_mapped attribute_part class_attributes own_attributes (λ c. omega arith) classes in
      let first = lists_behind attribute_part (map class_attributes classes) in
      let d = lists_mapped attribute_part (λ (p : Param). p.attributes) param_attributes (λ p. omega arith) params in
      let e = one_list attribute_part of_module in
      let f = lists_mapped attribute_part (λ (p : Property). p.attributes) property_attributes (λ p. omega arith) properties in
      let g = lists_mapped attribute_part (λ (e : Event). e.attributes) event_attributes (λ e. omega arith) events in
      let h = one_list attribute_part of_assembly in
      let i = lists_mapped attribute_part (λ (g : Generic). g.attributes) generic_attributes (λ g. omega arith) generics in
      omega arith
