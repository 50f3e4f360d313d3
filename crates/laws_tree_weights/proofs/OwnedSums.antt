-- Constants, generic parameters with their bounds, and accessors, with their rows: no more than what fields and all else list.
use Rattle.std.proofs.Common.{◌≡◌, ap, ℕ, ◌+◌, ◌*◌, ◌≤◌, List, [], ◌∷◌, map, length, arith}
use Rattle.std.specs.Prelude.{sum_by}
use Rattle.std.specs.List.{enumerate_from, flat_map}
use Rattle.std.proofs.lemmas.List.Sums.{sum_by-append}
use Rattle.assembly_tree.specs.Weight.{optional, constant_weight, generic_weight}
use Rattle.assembly_tree.specs.declared.members.Accessor.{Accessor}
use Rattle.assembly_tree.specs.declared.members.Constant.{Constant}
use Rattle.assembly_tree.specs.declared.members.Event.{Event}
use Rattle.assembly_tree.specs.declared.members.Field.{Field}
use Rattle.assembly_tree.specs.declared.members.Generic.{Generic}
use Rattle.assembly_tree.specs.declared.members.Method.{Method}
use Rattle.assembly_tree.specs.declared.members.Param.{Param}
use Rattle.assembly_tree.specs.declared.members.Property.{Property}
use Rattle.metadata_tables.specs.declared.coded.Coded.TheVariants.{HasConstant, HasSemantics, TypeOrMethodDef}
use Rattle.type_terms.specs.declared.term.Owner.{Owner}
use Rattle.image_members.specs.ByNumber.{by_number}
use Rattle.image_members.specs.ConstantRows.{stated_constant, constant_bytes}
use Rattle.image_members.specs.DeclaredMembers.{class_methods}
use Rattle.image_members.specs.GenericRows.{generic_of, generic_bytes, bounds_in, bounds_from, bound_bytes}
use Rattle.image_members.specs.Lists.{Owned, class_generics, access_of, event_access, property_access, access_from, properties_in, events_in}
use Rattle.image_members.specs.Places.{class_properties, class_events}
use Rattle.image_members.specs.declared.classes.Class.{Class}
use Rattle.laws_tree_weights.proofs.AttributeSums.{generic_attributes}
use Rattle.laws_tree_weights.proofs.NumberSums.{lists_sum, owned_most, lists_mapped, lists_behind}
use Rattle.laws_tree_weights.proofs.PartLemmas.{constant_part, stated_fits, bound_part, generic_part, generic_fits}
use Rattle.laws_tree_weights.proofs.Sums.{sum_mapped, sum_both, sum_least, sum_each, sum_same, sum_numbered, sum_counted}

-- ---- constants

abbrev pub field_constant : Field → ℕ
field_constant f = optional constant_weight f.constant

abbrev pub param_constant : Param → ℕ
param_constant p = optional constant_weight p.constant

abbrev pub property_constant : Property → ℕ
property_constant p = optional constant_weight p.constant

constant_rows : (items : List (ℕ × Constant)) → sum_by constant_bytes items + 10 * length items ≡ sum_by (λ e. constant_part e.1) items
unfolding constant_bytes
constant_rows items = sum_each constant_bytes 10 items

module _ (fields : List Field) (params : List Param) (properties : List Property) where
  abbrev constant_tables : List (Owned Constant)
  constant_tables =
      (0x04, map (λ (f : Field). stated_constant f.constant) fields)
      ∷ (0x08, map (λ (p : Param). stated_constant p.constant) params)
      ∷ (0x17, map (λ (p : Property). stated_constant p.constant) properties) ∷ []

  pub constants_most : (n : ℕ) (items : List (ℕ × Constant)) → items ≡ by_number HasConstant constant_tables n
      → sum_by constant_bytes items + 10 * length items ≤ sum_by field_constant fields + sum_by param_constant params + sum_by property_constant properties
  constants_most n items is =
      let rows = constant_rows items in
      let same = ap (sum_by (λ (e : ℕ × Constant). constant_part e.1)) is in
      let most = owned_most constant_part HasConstant constant_tables n in
      let a = lists_mapped constant_part (λ (f : Field). stated_constant f.constant) field_constant (λ f. stated_fits f.constant) fields in
      let b = lists_mapped constant_part (λ (p : Param). stated_constant p.constant) param_constant (λ p. stated_fits p.constant) params in
      let c = lists_mapped constant_part (λ (p : Property). stated_constant p.constant) property_constant (λ p. stated_fits p.constant) properties in
      omega arith

-- ---- generic parameters

abbrev pub method_generics : Method → ℕ
method_generics m = sum_by generic_weight m.generics

abbrev pub own_generics : Class → ℕ
own_generics c = sum_by generic_weight (class_generics c)

abbrev counted_weight : ℕ × Generic → ℕ
counted_weight g = generic_weight g.1

numbered_generics : (gs : List Generic) → sum_by counted_weight (enumerate_from 0 gs) ≤ sum_by generic_weight gs
numbered_generics gs = let same = sum_counted generic_weight 0 gs in omega arith

-- what all weigh
module _ (classes : List Class) (methods : List Method) where
  abbrev generic_tables : List (Owned (ℕ × Generic))
  generic_tables =
      (0x02, [] ∷ map (λ c. enumerate_from 0 (class_generics c)) classes) ∷ (0x06, map (λ (m : Method). enumerate_from 0 m.generics) methods) ∷ []

  generics_weigh : (n : ℕ) (items : List (ℕ × (ℕ × Generic))) → items ≡ by_number TypeOrMethodDef generic_tables n
      → sum_by (λ e. counted_weight e.1) items ≤ sum_by own_generics classes + sum_by method_generics methods
  generics_weigh n items is =
      let same = ap (sum_by (λ (e : ℕ × (ℕ × Generic)). counted_weight e.1)) is in
      let most = owned_most counted_weight TypeOrMethodDef generic_tables n in
      let a = lists_mapped counted_weight (λ (c : Class). enumerate_from 0 (class_generics c)) own_generics (λ c. numbered_generics (class_generics c)) classes in
      let first = lists_behind counted_weight (map (λ (c : Class). enumerate_from 0 (class_generics c)) classes) in
      let b = lists_mapped counted_weight (λ (m : Method). enumerate_from 0 m.generics) method_generics (λ m. numbered_generics m.generics) methods in
      omega arith

generic_rows : (items : List (ℕ × (ℕ × Generic))) → sum_by generic_bytes items + 12 * length items ≡ sum_by (λ g. length g.name + 1 + 12) (map generic_of items)
unfolding generic_bytes
generic_rows items =
    let rows = sum_each generic_bytes 12 items in
    let mapped = sum_mapped (λ (g : Generic). length g.name + 1 + 12) generic_of items in
    omega arith

bounds_of : (row : ℕ) (g : Generic) → sum_by (λ b. bound_bytes b + 8) (bounds_in (row, g)) ≤ sum_by bound_part g.bounds
bounds_of row g = let mapped = sum_mapped (λ (b : ℕ × Owner). bound_bytes b + 8) (λ (o : Owner). (row, o)) g.bounds in omega arith

bound_rows : (gs : List Generic) (bounds : List (ℕ × Owner)) → bounds ≡ bounds_from 1 gs → sum_by bound_bytes bounds + 8 * length bounds ≤ sum_by (λ g. sum_by bound_part g.bounds) gs
bound_rows gs bounds is =
    let rows = sum_each bound_bytes 8 bounds in
    let same = ap (sum_by (λ (b : ℕ × Owner). bound_bytes b + 8)) is in
    let most = sum_numbered (λ (b : ℕ × Owner). bound_bytes b + 8) bounds_in (λ g. sum_by bound_part g.bounds) bounds_of 1 gs in
    omega arith

generics_have : (gs : List Generic)
    → sum_by (λ g. length g.name + 1 + 12) gs + sum_by (λ g. sum_by bound_part g.bounds) gs + sum_by generic_attributes gs ≤ sum_by generic_weight gs
generics_have gs =
    let first = sum_both (λ g. length g.name + 1 + 12) (λ g. sum_by bound_part g.bounds) gs in
    let both = sum_both (λ (g : Generic). length g.name + 1 + 12 + sum_by bound_part g.bounds) generic_attributes gs in
    let fits = sum_least generic_part generic_weight generic_fits gs in
    omega arith

-- with their bounds and what their attributes bring
pub generics_most : (classes : List Class) (methods : List Method) (n : ℕ) (items : List (ℕ × (ℕ × Generic))) (bounds : List (ℕ × Owner)) → items ≡ by_number TypeOrMethodDef (generic_tables classes methods) n
    → bounds ≡ bounds_from 1 (map generic_of items)
    → sum_by generic_bytes items + 12 * length items + (sum_by bound_bytes bounds + 8 * length bounds) + sum_by generic_attributes (map generic_of items)
    ≤ sum_by own_generics classes + sum_by method_generics methods
generics_most classes methods n items bounds is are =
    let gs = map generic_of items in
    let rows = generic_rows items in
    let more = bound_rows gs bounds are in
    let have = generics_have gs in
    let mapped = sum_mapped generic_weight generic_of items in
    let weigh = generics_weigh classes methods n items is in
    omega arith

-- ---- accessors

abbrev pub event_accessors : Event → ℕ
event_accessors e = 10 * length e.accessors

abbrev pub property_accessors : Property → ℕ
property_accessors p = 10 * length p.accessors

abbrev ten : ℕ × ℕ → ℕ
ten a = 10

accessor_rows : (first : ℕ) (accessors : List Accessor) → sum_by ten (access_of first accessors) ≤ 10 * length accessors
accessor_rows first accessors =
    let mapped = sum_mapped ten (λ (x : Accessor). (x.kind, first + x.method)) accessors in
    let each = sum_same 10 accessors in
    omega arith

class_events_have : (first : ℕ) (c : Class) → lists_sum ten (event_access first c) ≤ sum_by event_accessors (class_events c)
class_events_have first c = lists_mapped ten (λ (e : Event). access_of first e.accessors) event_accessors (λ e. accessor_rows first e.accessors) (class_events c)

class_properties_have : (first : ℕ) (c : Class) → lists_sum ten (property_access first c) ≤ sum_by property_accessors (class_properties c)
class_properties_have first c = lists_mapped ten (λ (p : Property). access_of first p.accessors) property_accessors (λ p. accessor_rows first p.accessors) (class_properties c)

all_have : {X : Type 0} (access : ℕ → Class → List (List (ℕ × ℕ))) (f : Class → List X) (h : X → ℕ) → ((first : ℕ) (c : Class) → lists_sum ten (access first c) ≤ sum_by h (f c))
    → (first : ℕ) (classes : List Class) → lists_sum ten (access_from access first classes) ≤ sum_by h (flat_map f classes)
all_have access f h each first [] = omega arith
all_have access f h each first (c ∷ cs) =
    let rest = all_have access f h each (first + length (class_methods c)) cs in
    let one = each first c in
    let left = sum_by-append (λ xs. sum_by ten xs) (access first c) (access_from access (first + length (class_methods c)) cs) in
    let right = sum_by-append h (f c) (flat_map f cs) in
    omega arith

pub accessors_most : (first : ℕ) (classes : List Class) (n : ℕ) (items : List (ℕ × (ℕ × ℕ)))
    → items ≡ by_number HasSemantics ((0x14, access_from event_access first classes) ∷ (0x17, access_from property_access first classes) ∷ []) n
    → 10 * length items ≤ sum_by event_accessors (events_in classes) + sum_by property_accessors (properties_in classes)
accessors_most first classes n items is =
    let each = sum_same 10 items in
    let same = ap (sum_by (λ (e : ℕ × (ℕ × ℕ)). ten e.1)) is in
    let most = owned_most ten HasSemantics ((0x14, access_from event_access first classes) ∷ (0x17, access_from property_access first classes) ∷ []) n in
    let events = all_have event_access class_events event_accessors class_events_have first classes in
    let properties = all_have property_access class_properties property_accessors class_properties_have first classes in
    omega arith
