-- No table has too many rows: each row is of 8 bytes at least.
use Rattle.std.proofs.Common.{◌≡◌, refl, ℕ, ◌+◌, ◌<◌, ◌≤◌, ◌^◌, List, [], ◌∷◌, ◌++◌, map, length, length-append, arith}
use Rattle.std.proofs.lemmas.List.{length-map}
use Rattle.std.specs.Prelude.{sum_by, max}
use Rattle.std.specs.List.{AllByRecursion, enumerate_from, flat_map}
use Rattle.std.proofs.lemmas.List.Concat.{length-flat_map}
use Rattle.assembly_tree.specs.Weight.{weight_of}
use Rattle.assembly_tree.specs.declared.assembly.Assembly.{Assembly}
use Rattle.assembly_tree.specs.declared.members.Event.{Event}
use Rattle.assembly_tree.specs.declared.members.Field.{Field}
use Rattle.assembly_tree.specs.declared.members.Generic.{Generic}
use Rattle.assembly_tree.specs.declared.members.Method.{Method}
use Rattle.assembly_tree.specs.declared.members.Param.{Param}
use Rattle.assembly_tree.specs.declared.members.Property.{Property}
use Rattle.image_members.specs.Classes.{AreClasses}
use Rattle.image_members.specs.ConstantRows.{stated_constant}
use Rattle.image_members.specs.DataRows.{all_data}
use Rattle.image_members.specs.DeclaredMembers.{class_fields, class_methods}
use Rattle.image_members.specs.GenericRows.{generic_of, bounds_from}
use Rattle.image_rows.specs.InterfaceRows.{interfaces_from, count_interfaces}
use Rattle.image_members.specs.Lists.{Owned, longest_of, class_generics, class_attributes, attribute_items, constant_items, accessor_items, attribute_lists, constant_lists, accessor_lists, generic_lists, event_access, property_access, access_from, access_of, generics_in, params_in, properties_in, events_in, generic_items}
use Rattle.image_members.specs.Places.{all_fields, all_methods, class_properties, class_events, params_of}
use Rattle.image_members.specs.declared.classes.Class.{Class}
use Rattle.laws_tree_weights.specs.ImageBytes.{overrides_count, manifest_row_bytes, type_row_bytes, field_row_bytes, method_row_bytes, property_row_bytes, owned_row_bytes, row_bytes}
use Rattle.laws_tree_weights.specs.Laws.{RowsAreFew}
use Rattle.laws_tree_weights.proofs.WholeLemmas.{enough}

-- ---- the longest of several tables

max_below : (a b n : ℕ) → a < n → b < n → max a b < n
max_below a b n p q = omega arith

longest_below : {X : Type 0} (n : ℕ) → 0 < n → (tables : List (Owned X)) → AllByRecursion (λ t. length t.1 < n) tables → longest_of tables < n
longest_below n some [] h = some
longest_below n some ((table, lists) ∷ more) h = max_below (length lists) (longest_of more) n h.0 (longest_below n some more h.1)

-- a list for each of so many items
mapped_low : {A B : Type 0} (f : A → B) (xs : List A) (n : ℕ) → length xs < n → length (map f xs) < n
mapped_low f xs n low = let same = length-map xs f in omega arith

behind_low : {A B : Type 0} (f : A → List B) (xs : List A) (n : ℕ) → length xs + 1 < n → length ([] ∷ map f xs) < n
behind_low f xs n low = let same = length-map xs f in omega arith

access_long : {X : Type 0} (access : ℕ → Class → List (List (ℕ × ℕ))) (f : Class → List X) → ((first : ℕ) (c : Class) → length (access first c) ≡ length (f c))
    → (first : ℕ) (classes : List Class) → length (access_from access first classes) ≡ length (flat_map f classes)
access_long access f each first [] = refl
access_long access f each first (c ∷ cs) =
    let rest = access_long access f each (first + length (class_methods c)) cs in
    let one = each first c in
    let left = length-append (access first c) (access_from access (first + length (class_methods c)) cs) in
    let right = length-append (f c) (flat_map f cs) in
    omega arith

events_long : (first : ℕ) (classes : List Class) → length (access_from event_access first classes) ≡ length (events_in classes)
events_long = access_long event_access class_events (λ first c. length-map (class_events c) (λ (e : Event). access_of first e.accessors))

properties_long : (first : ℕ) (classes : List Class) → length (access_from property_access first classes) ≡ length (properties_in classes)
properties_long = access_long property_access class_properties (λ first c. length-map (class_properties c) (λ (p : Property). access_of first p.accessors))

-- ---- each table

types_low : (classes : List Class) → type_row_bytes classes < 2 ^ 26 → (length classes + 1 < 2 ^ 23) × (sum_by count_interfaces (interfaces_from 2 classes) < 2 ^ 23)
unfolding type_row_bytes
types_low classes h = (omega arith, omega arith)

externs_low : (a : Assembly) → manifest_row_bytes a < 2 ^ 26 → length a.externs < 2 ^ 23
unfolding manifest_row_bytes
externs_low a h = omega arith

fields_low : (a : Assembly) (classes : List Class) → field_row_bytes a classes < 2 ^ 26 → (length (all_fields a classes) < 2 ^ 23) × (length (all_data 1 (all_fields a classes)) < 2 ^ 23)
unfolding field_row_bytes
fields_low a classes h = (omega arith, omega arith)

methods_low : (a : Assembly) (classes : List Class) → method_row_bytes a classes < 2 ^ 26
    → (length (all_methods a classes) < 2 ^ 23) × (length (params_in a classes) < 2 ^ 23) × (overrides_count (all_methods a classes) < 2 ^ 23)
unfolding method_row_bytes
methods_low a classes h = (omega arith, omega arith, omega arith)

properties_low : (a : Assembly) (classes : List Class) → property_row_bytes a classes < 2 ^ 26
    → (length (properties_in classes) < 2 ^ 23) × (length (events_in classes) < 2 ^ 23) × (length (accessor_items a classes) < 2 ^ 23)
unfolding property_row_bytes
properties_low a classes h = (omega arith, omega arith, omega arith)

owned_low : (a : Assembly) (classes : List Class) → owned_row_bytes a classes < 2 ^ 26
    → (length (generic_items a classes) < 2 ^ 23) × (length (bounds_from 1 (generics_in a classes)) < 2 ^ 23) × (length (constant_items a classes) < 2 ^ 23)
    × (length (attribute_items a classes) < 2 ^ 23)
unfolding owned_row_bytes
owned_low a classes h = (omega arith, omega arith, omega arith, omega arith)

-- ---- all of them

members_counted : {X : Type 0} (globals : List X) (f : Class → List X) (classes : List Class) → length (globals ++ flat_map f classes) ≡ length globals + sum_by (λ c. length (f c)) classes
members_counted globals f classes =
    let both = length-append globals (flat_map f classes) in
    let own = length-flat_map f classes in
    omega arith

-- the rows of each group take less than 2 ^ 26 bytes
light : (a : Assembly) (classes : List Class) → weight_of a ≤ 2 ^ 26 → AreClasses 0 2 a.types classes → row_bytes a classes < 2 ^ 26
light a classes less are = let total = enough a classes are in omega arith

pub few : RowsAreFew
few a classes less are =
    let rows = light a classes less are in
    let t = types_low classes (omega arith) in
    let f = fields_low a classes (omega arith) in
    let m = methods_low a classes (omega arith) in
    let p = properties_low a classes (omega arith) in
    let o = owned_low a classes (omega arith) in
    let first = 1 + length a.methods in
    record {
      classes_few = (let low = t.0 in omega arith);
      externs = externs_low a (omega arith);
      interfaces = t.1;
      fields = f.0;
      fields_counted = (let same = members_counted a.fields class_fields classes in let low = f.0 in omega arith);
      contents = f.1;
      methods = m.0;
      methods_counted = (let same = members_counted a.methods class_methods classes in let low = m.0 in omega arith);
      params = m.1;
      param_runs = (let same = length-flat_map params_of (all_methods a classes) in let low = m.1 in omega arith);
      overrides = m.2;
      properties = p.0;
      property_runs = (let same = length-flat_map class_properties classes in let low = p.0 in omega arith);
      events = p.1;
      event_runs = (let same = length-flat_map class_events classes in let low = p.1 in omega arith);
      accessors = p.2;
      generics = o.0;
      bounds = o.1;
      constants = o.2;
      attributes = o.3;
      accessor_owners = longest_below (2 ^ 23) (omega arith) (accessor_lists a classes)
          ((let long = events_long first classes in let low = p.1 in omega arith), ((let long = properties_long first classes in let low = p.0 in omega arith), tt));
      generic_owners = longest_below (2 ^ 23) (omega arith) (generic_lists a classes)
          (behind_low (λ c. enumerate_from 0 (class_generics c)) classes (2 ^ 23) t.0, (mapped_low (λ (x : Method). enumerate_from 0 x.generics) (all_methods a classes) (2 ^ 23) m.0, tt));
      constant_owners = longest_below (2 ^ 23) (omega arith) (constant_lists a classes) (
        mapped_low (λ (x : Field). stated_constant x.constant) (all_fields a classes) (2 ^ 23) f.0,
        (
          mapped_low (λ (x : Param). stated_constant x.constant) (params_in a classes) (2 ^ 23) m.1,
          (mapped_low (λ (x : Property). stated_constant x.constant) (properties_in classes) (2 ^ 23) p.0, tt),
        ),
      );
      attribute_owners = longest_below (2 ^ 23) (omega arith) (attribute_lists a classes) (
        mapped_low (λ (x : Method). x.attributes) (all_methods a classes) (2 ^ 23) m.0,
        (
          mapped_low (λ (x : Field). x.attributes) (all_fields a classes) (2 ^ 23) f.0,
          (
            behind_low class_attributes classes (2 ^ 23) t.0,
            (
              mapped_low (λ (x : Param). x.attributes) (params_in a classes) (2 ^ 23) m.1,
              (
                omega arith,
                (
                  mapped_low (λ (x : Property). x.attributes) (properties_in classes) (2 ^ 23) p.0,
                  (
                    mapped_low (λ (x : Event). x.attributes) (events_in classes) (2 ^ 23) p.1,
                    (
                      omega arith,
                      (mapped_low (λ (x : Generic). x.attributes) (generics_in a classes) (2 ^ 23) (mapped_low generic_of (generic_items a classes) (2 ^ 23) o.0), tt),
                    ),
                  ),
                ),
              ),
            ),
          ),
        ),
      );
    }
