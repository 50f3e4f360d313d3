-- The rows of Event, in the order in which events are declared (ECMA-335 II.22.13).
use Rattle.std.specs.Prelude.{◌≡◌, ℕ, ◌+◌, List, [], ◌∷◌, length}
use Rattle.assembly_tree.specs.Weight.{owner_weight}
use Rattle.assembly_tree.specs.declared.members.Event.{Event}
use Rattle.image_tokens.specs.Texts.{HasNoZero, HoldsText}
use Rattle.image_members.specs.TypeIndexes.{IsTypeIndex}
use Rattle.image_tokens.specs.Writable.{IsOwnerWritable}
use Rattle.image_tokens.specs.declared.references.References.{References}

-- flags, name and type
pub record IsEventRow (r : References) (cells : List ℕ) (e : Event) : Type 0 where
  pub name : ℕ
  pub type : ℕ
  pub are : cells ≡ e.flags ∷ name ∷ type ∷ []
  pub name_is : HoldsText r.heaps.strings e.name name
  pub type_is : IsTypeIndex e.of r type

-- the bytes of a name, with the zero that ends it, and what a type brings
unfoldable pub event_bytes : Event → ℕ
event_bytes e = length e.name + 1 + owner_weight e.of

pub record CanPushEvent (r : References) (e : Event) : Type 0 where
  pub name : HasNoZero e.name
  pub of : IsOwnerWritable r e.of
