-- What the keys that a world gave mean as it goes on.
use Rattle.std.specs.Prelude.{◌≡◌, ℕ, ◌<◌, length}
use Rattle.type_hierarchy.specs.declared.stack_type.StackType.{StackType}
use Rattle.type_hierarchy.specs.Meaning.{meant, IsWithin}
use Rattle.type_hierarchy.specs.World.{Content, type_at}

-- each id and each stack type that `old` has means the same in `new`
pub record KeepsKeys (old new : Content) : Type 0 where
  pub ids : (k : ℕ) → k < length old.nodes → (k < length new.nodes) × (type_at new k ≡ type_at old k)
  pub stacks : (s : StackType) → IsWithin (length old.nodes) s → IsWithin (length new.nodes) s × (meant new.nodes s ≡ meant old.nodes s)
