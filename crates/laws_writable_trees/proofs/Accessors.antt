-- The rows of accessors' methods are small numbers, since an accessor is a method of its type.
use Rattle.std.proofs.Common.{ℕ, ◌+◌, ◌^◌, ◌<◌, ◌≤◌, List, [], ◌∷◌, length, arith}
use Rattle.std.specs.Prelude.{IsTrue}
use Rattle.std.specs.List.{AllByRecursion, flat_map, list_all}
use Rattle.std.proofs.lemmas.Bool.{ltb-true}
use Rattle.std.proofs.lemmas.List.{length-append}
use Rattle.assembly_tree.specs.Weight.{weight_of}
use Rattle.assembly_tree.specs.WellFormedMembers.{is_accessor_of}
use Rattle.assembly_tree.specs.WellFormedTypes.{has_accessors_of_property, has_accessors_of_event}
use Rattle.assembly_tree.specs.declared.assembly.Assembly.{Assembly}
use Rattle.assembly_tree.specs.declared.members.Accessor.{Accessor}
use Rattle.assembly_tree.specs.declared.members.Event.{Event}
use Rattle.assembly_tree.specs.declared.members.Property.{Property}
use Rattle.assembly_tree.specs.declared.typedef.TypeDef.TheViews.{out-TypeDef}
use Rattle.assembly_tree.proofs.FormedFacts.{types_named}
use Rattle.metadata_tables.specs.declared.coded.Coded.TheVariants.{HasSemantics}
use Rattle.image_members.specs.Classes.{AreClasses}
use Rattle.image_members.specs.DeclaredMembers.{class_methods}
use Rattle.image_members.specs.Lists.{longest_of, access_of, event_access, property_access, access_from, accessor_lists, accessor_items}
use Rattle.image_members.specs.Places.{all_methods, class_properties, class_events}
use Rattle.image_members.specs.declared.classes.Class.{Class}
use Rattle.image_rows.proofs.CountLemmas.{rows_few}
use Rattle.laws_writable_trees.proofs.Each.{each_by_number, each_from, each_joined, each_mapped, each_true}
use Rattle.laws_writable_trees.proofs.Parts.{IsFineClass}

-- the row of a method, with what it does, is below this one
abbrev IsBelow : ℕ → ℕ × ℕ → Type 0
IsBelow high x = x.1 < high

-- those of one member
access_low : (first count high : ℕ) (xs : List Accessor) → first + count ≤ high → IsTrue (list_all (is_accessor_of count) xs) → AllByRecursion (IsBelow high) (access_of first xs)
access_low first count high xs few h =
    each_mapped (IsBelow high) (λ (x : Accessor). (x.kind, first + x.method)) xs
    (each_from (λ x. IsTrue (is_accessor_of count x)) (λ (x : Accessor). first + x.method < high) (λ x t. let low = ltb-true x.method count t in omega arith) xs (each_true (is_accessor_of count) xs h))

module _ (a : Assembly) where
  -- those of a type
  events_low : (first high : ℕ) (c : Class) → IsFineClass a c → first + length (class_methods c) ≤ high → AllByRecursion (AllByRecursion (IsBelow high)) (event_access first c)
  events_low first high c h few =
      let count = length (class_methods c) in
      each_mapped (AllByRecursion (IsBelow high)) (λ (e : Event). access_of first e.accessors) (class_events c)
      (each_from (λ e. IsTrue (has_accessors_of_event count e)) (λ (e : Event). AllByRecursion (IsBelow high) (access_of first e.accessors)) (λ e t. access_low first count high e.accessors few t) (class_events c)
      (each_true (has_accessors_of_event count) (class_events c) ((types_named a h.top (out-TypeDef c.of.now)).0 h.own).event_accessors))

  properties_low : (first high : ℕ) (c : Class) → IsFineClass a c → first + length (class_methods c) ≤ high → AllByRecursion (AllByRecursion (IsBelow high)) (property_access first c)
  properties_low first high c h few =
      let count = length (class_methods c) in
      each_mapped (AllByRecursion (IsBelow high)) (λ (p : Property). access_of first p.accessors) (class_properties c)
      (each_from (λ p. IsTrue (has_accessors_of_property count p)) (λ (p : Property). AllByRecursion (IsBelow high) (access_of first p.accessors)) (λ p t. access_low first count high p.accessors few t) (class_properties c)
      (each_true (has_accessors_of_property count) (class_properties c) ((types_named a h.top (out-TypeDef c.of.now)).0 h.own).property_accessors))

  -- those of all types, whose methods follow one another
  all_low : (access : ℕ → Class → List (List (ℕ × ℕ))) (high : ℕ)
      → ((first : ℕ) (c : Class) → IsFineClass a c → first + length (class_methods c) ≤ high → AllByRecursion (AllByRecursion (IsBelow high)) (access first c))
      → (first : ℕ) (classes : List Class) → AllByRecursion (IsFineClass a) classes → first + length (flat_map class_methods classes) ≤ high
      → AllByRecursion (AllByRecursion (IsBelow high)) (access_from access first classes)
  all_low access high f first [] h few = tt
  all_low access high f first (c ∷ cs) h few =
      let long = length-append (class_methods c) (flat_map class_methods cs) in
      each_joined (AllByRecursion (IsBelow high)) (access first c) (access_from access (first + length (class_methods c)) cs) (f first c h.0 (omega arith))
      (all_low access high f (first + length (class_methods c)) cs h.1 (omega arith))

  -- those of all members, with the rows of what they belong to
  accessors_below : (high : ℕ) (classes : List Class) → 1 + length (all_methods a classes) ≤ high → AllByRecursion (IsFineClass a) classes
      → AllByRecursion (λ x. x.1.1 < high) (accessor_items a classes)
  accessors_below high classes few own =
      let long = length-append a.methods (flat_map class_methods classes) in
      let first = 1 + length a.methods in
      each_by_number (IsBelow high) HasSemantics (accessor_lists a classes) (longest_of (accessor_lists a classes)) (
        all_low event_access high (λ k c h few. events_low k high c h few) first classes own (omega arith),
        (all_low property_access high (λ k c h few. properties_low k high c h few) first classes own (omega arith), tt),
      )

  pub accessors_low : (classes : List Class) → AreClasses 0 2 a.types classes → weight_of a ≤ 2 ^ 26 → AllByRecursion (IsFineClass a) classes
      → AllByRecursion (λ x. x.1.1 < 2 ^ 24) (accessor_items a classes)
  accessors_low classes are light own =
      let rows = rows_few a classes are in
      let long = length-append a.methods (flat_map class_methods classes) in
      accessors_below (2 ^ 24) classes (omega arith) own

  -- their methods have rows
  pub accessors_there : (classes : List Class) → AllByRecursion (IsFineClass a) classes → AllByRecursion (λ x. x.1.1 ≤ length (all_methods a classes)) (accessor_items a classes)
  accessors_there classes own =
      let high = 1 + length (all_methods a classes) in
      each_from (λ x. x.1.1 < high) (λ x. x.1.1 ≤ length (all_methods a classes)) (λ x h. omega arith) (accessor_items a classes) (accessors_below high classes (omega arith) own)
