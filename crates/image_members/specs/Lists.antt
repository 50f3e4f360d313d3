-- What the rows of an image's tables own, as lists with an entry for each row: attributes, generic parameters, constants and
-- accessors. Tables stand in the order of their tags in the coded index by which rows are found (ECMA-335 II.22, II.24.2.6).
use Rattle.std.specs.Prelude.{ℕ, ◌+◌, List, [], ◌∷◌, ◌++◌, map, length, max}
use Rattle.std.specs.List.{enumerate_from, flat_map}
use Rattle.assembly_tree.specs.declared.assembly.Assembly.{Assembly}
use Rattle.assembly_tree.specs.declared.members.Accessor.{Accessor}
use Rattle.assembly_tree.specs.declared.members.Attribute.{Attribute}
use Rattle.assembly_tree.specs.declared.members.Constant.{Constant}
use Rattle.assembly_tree.specs.declared.members.Event.{Event}
use Rattle.assembly_tree.specs.declared.members.Field.{Field}
use Rattle.assembly_tree.specs.declared.members.Generic.{Generic}
use Rattle.assembly_tree.specs.declared.members.Method.{Method}
use Rattle.assembly_tree.specs.declared.members.Param.{Param}
use Rattle.assembly_tree.specs.declared.members.Property.{Property}
use Rattle.assembly_tree.specs.declared.typedef.TypeDef.{TypeDef}
use Rattle.assembly_tree.specs.declared.typedef.TypeDef.TheViews.{out-TypeDef}
use Rattle.metadata_tables.specs.declared.coded.Coded.TheVariants.{HasConstant, HasCustomAttribute, HasSemantics, TypeOrMethodDef}
use Rattle.image_members.specs.ByNumber.{by_number}
use Rattle.image_members.specs.ConstantRows.{stated_constant}
use Rattle.image_members.specs.DeclaredMembers.{class_methods}
use Rattle.image_members.specs.GenericRows.{generic_of}
use Rattle.image_members.specs.Places.{all_fields, all_methods, class_properties, class_events, params_of}
use Rattle.image_members.specs.declared.classes.Class.{Class}

-- an entry for each row of a table
abbrev pub Owned : Type 0 → Type 0
Owned X = ℕ × List (List X)

-- how many rows the longest of the tables has
abbrev pub longest_of : {X : Type 0} → List (Owned X) → ℕ
longest_of [] = 0
longest_of ((table, lists) ∷ more) = max (length lists) (longest_of more)

-- all parameters, properties and events in the order of their rows
abbrev pub params_in : Assembly → List Class → List Param
params_in a classes = flat_map params_of (all_methods a classes)

abbrev pub properties_in : List Class → List Property
properties_in classes = flat_map class_properties classes

abbrev pub events_in : List Class → List Event
events_in classes = flat_map class_events classes

-- ---- generic parameters (II.22.20): those of types and of methods; `<Module>` has none

abbrev pub type_generics : TypeDef → List Generic
type_generics t = (out-TypeDef t).generics

abbrev pub class_generics : Class → List Generic
class_generics c = type_generics c.of.now

abbrev pub generic_lists : Assembly → List Class → List (Owned (ℕ × Generic))
generic_lists a classes =
    (0x02, [] ∷ map (λ c. enumerate_from 0 (class_generics c)) classes)
    ∷ (0x06, map (λ (m : Method). enumerate_from 0 m.generics) (all_methods a classes)) ∷ []

-- in the order of their rows
abbrev pub generic_items : Assembly → List Class → List (ℕ × (ℕ × Generic))
generic_items a classes = by_number TypeOrMethodDef (generic_lists a classes) (longest_of (generic_lists a classes))

abbrev pub generics_in : Assembly → List Class → List Generic
generics_in a classes = map generic_of (generic_items a classes)

-- ---- attributes (II.22.10)

abbrev pub type_attributes : TypeDef → List Attribute
type_attributes t = (out-TypeDef t).attributes

abbrev pub class_attributes : Class → List Attribute
class_attributes c = type_attributes c.of.now

abbrev pub attribute_lists : Assembly → List Class → List (Owned Attribute)
attribute_lists a classes =
    (0x06, map (λ (m : Method). m.attributes) (all_methods a classes))
    ∷ (0x04, map (λ (f : Field). f.attributes) (all_fields a classes))
    ∷ (0x02, [] ∷ map class_attributes classes)
    ∷ (0x08, map (λ (p : Param). p.attributes) (params_in a classes))
    ∷ (0x00, a.manifest.module_attributes ∷ [])
    ∷ (0x17, map (λ (p : Property). p.attributes) (properties_in classes))
    ∷ (0x14, map (λ (e : Event). e.attributes) (events_in classes))
    ∷ (0x20, a.manifest.attributes ∷ [])
    ∷ (0x2A, map (λ (g : Generic). g.attributes) (generics_in a classes)) ∷ []

abbrev pub attribute_items : Assembly → List Class → List (ℕ × Attribute)
attribute_items a classes = by_number HasCustomAttribute (attribute_lists a classes) (longest_of (attribute_lists a classes))

-- ---- constants (II.22.9)

abbrev pub constant_lists : Assembly → List Class → List (Owned Constant)
constant_lists a classes =
    (0x04, map (λ (f : Field). stated_constant f.constant) (all_fields a classes))
    ∷ (0x08, map (λ (p : Param). stated_constant p.constant) (params_in a classes))
    ∷ (0x17, map (λ (p : Property). stated_constant p.constant) (properties_in classes)) ∷ []

abbrev pub constant_items : Assembly → List Class → List (ℕ × Constant)
constant_items a classes = by_number HasConstant (constant_lists a classes) (longest_of (constant_lists a classes))

-- ---- accessors (II.22.28)

-- what an accessor does, and the row of its method, where the first method of its type has row `first`
abbrev pub access_of : ℕ → List Accessor → List (ℕ × ℕ)
access_of first accessors = map (λ (x : Accessor). (x.kind, first + x.method)) accessors

abbrev pub event_access : ℕ → Class → List (List (ℕ × ℕ))
event_access first c = map (λ (e : Event). access_of first e.accessors) (class_events c)

abbrev pub property_access : ℕ → Class → List (List (ℕ × ℕ))
property_access first c = map (λ (p : Property). access_of first p.accessors) (class_properties c)

-- for types whose methods follow one another, from this row of MethodDef on
abbrev pub access_from : (ℕ → Class → List (List (ℕ × ℕ))) → ℕ → List Class → List (List (ℕ × ℕ))
access_from access first [] = []
access_from access first (c ∷ cs) = access first c ++ access_from access (first + length (class_methods c)) cs

abbrev pub accessor_lists : Assembly → List Class → List (Owned (ℕ × ℕ))
accessor_lists a classes =
    (0x14, access_from event_access (1 + length a.methods) classes)
    ∷ (0x17, access_from property_access (1 + length a.methods) classes) ∷ []

abbrev pub accessor_items : Assembly → List Class → List (ℕ × (ℕ × ℕ))
accessor_items a classes = by_number HasSemantics (accessor_lists a classes) (longest_of (accessor_lists a classes))
