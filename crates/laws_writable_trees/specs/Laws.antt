-- What follows of a well-formed assembly: it can be written.
use Rattle.std.specs.Prelude.{◌≡◌, ◌≤◌, ◌^◌, true, List, length}
use Rattle.std.specs.List.{AllByRecursion}
use Rattle.assembly_tree.specs.Room.{texts}
use Rattle.assembly_tree.specs.Weight.{weight_of}
use Rattle.assembly_tree.specs.WellFormed.{is_well_formed}
use Rattle.assembly_tree.specs.declared.assembly.Assembly.{Assembly}
use Rattle.image_tokens.specs.Bounds.{IsTypeInBounds, IsMethodInBounds}
use Rattle.image_tokens.specs.Units.{IsLoadable}
use Rattle.image_tokens.specs.declared.references.References.{References}
use Rattle.image_rows.specs.CanFill.{AreDeclarableTypes, CanFill}
use Rattle.image_members.specs.Classes.{AreClasses}
use Rattle.image_members.specs.Declaring.{places, AreDeclared}
use Rattle.image_members.specs.Lists.{accessor_items, properties_in}
use Rattle.image_members.specs.Places.{all_fields, all_methods}
use Rattle.image_members.specs.declared.classes.Class.{Class}
use Rattle.laws_writable_trees.specs.Ranges.{IsMethodInRange}

-- its types can be declared
abbrev pub TypesAreDeclarable : Type 0
TypesAreDeclarable =
    (a : Assembly) (classes : List Class) → is_well_formed a ≡ true → AreClasses 0 2 a.types classes → AreDeclarableTypes classes

-- the rest of it can be written, where its types are declared and its externs counted, each text that it loads has an index, and
-- the numbers in its instructions are in the ranges of their fields
abbrev pub FormedCanFill : Type 0
FormedCanFill =
    (a : Assembly) (classes : List Class) (r : References) → is_well_formed a ≡ true → weight_of a ≤ 2 ^ 26 → AreClasses 0 2 a.types classes
    → AreDeclared r.heaps.strings r.declared.types (places classes) → r.declared.externs ≡ length a.externs
    → AllByRecursion (IsLoadable r.heaps.user) (texts a)
    → AllByRecursion IsMethodInRange (all_methods a classes) → CanFill a classes r

-- the method of each of its accessors has a row (II.22.28)
abbrev pub AccessorsHaveRows : Type 0
AccessorsHaveRows =
    (a : Assembly) (classes : List Class) → is_well_formed a ≡ true → weight_of a ≤ 2 ^ 26 → AreClasses 0 2 a.types classes
    → AllByRecursion (λ x. x.1.1 ≤ length (all_methods a classes)) (accessor_items a classes)

-- the signatures of its fields, methods and properties are in bounds
pub record HasMembersInBounds (a : Assembly) (classes : List Class) : Type 0 where
  pub fields : AllByRecursion (λ f. IsTypeInBounds f.of) (all_fields a classes)
  pub methods : AllByRecursion (λ m. IsMethodInBounds m.sig) (all_methods a classes)
  pub properties : AllByRecursion (λ p. IsMethodInBounds p.sig) (properties_in classes)

abbrev pub MembersAreInBounds : Type 0
MembersAreInBounds =
    (a : Assembly) (classes : List Class) → is_well_formed a ≡ true → weight_of a ≤ 2 ^ 26 → AreClasses 0 2 a.types classes → HasMembersInBounds a classes
