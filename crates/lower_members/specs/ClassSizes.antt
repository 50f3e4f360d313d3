-- The sizes of classes in data, by their numbers (ECMA-335 II.10.7, II.22.8).
use Rattle.std.specs.Prelude.{◌≡◌, ℕ, List, Option, None, Some, slice_get}
use Rattle.type_terms.specs.declared.name.TypeId.{TypeId}
use Rattle.assembly_tree.specs.DataSize.{layout_size}
use Rattle.source_model.specs.Data.{class_layout}
use Rattle.source_model.specs.Names.{class_at}
use Rattle.source_model.specs.Source.{Source}
use Rattle.source_syntax.specs.ClassNumbers.{class_numbered}
use Rattle.lower_members.specs.declared.class_sizes.ClassSizes.{ClassSizes}

abbrev pub or_none : Option (Option ℕ) → Option ℕ
or_none None = None
or_none (Some size) = size

-- the size of the class of a number
abbrev pub size_at : List (Option ℕ) → ℕ → Option ℕ
size_at sizes n = or_none (slice_get sizes n)

abbrev pub size_numbered : List (Option ℕ) → Option ℕ → Option ℕ
size_numbered sizes None = None
size_numbered sizes (Some n) = size_at sizes n

-- each path leads to the size of the first class with it, and to none where there is no such class
pub record AreSizes (s : Source) (c : ClassSizes) : Type 0 where
  pub are : (path : List TypeId) → size_numbered c.sizes (class_numbered c.paths path) ≡ layout_size (class_layout s (class_at s path))
