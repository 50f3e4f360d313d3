-- Classes whose texts stand one after the other in one list of bytes, each space right in front of its name.
use Rattle.std.specs.Prelude.{◌≡◌, ℕ, ◌+◌, ◌≤◌, List, Option, Some, length, map, take, drop, slice_get}
use Rattle.source_syntax.specs.ClassNumbers.{AreFound, class_of}
use Rattle.source_nodes.specs.NameTexts.{id_with}
use Rattle.source_syntax.specs.declared.class_paths.ClassName.{ClassName}
use Rattle.source_syntax.specs.declared.class_paths.KeptClass.{KeptClass}

abbrev pub space_at : List ℕ → KeptClass → List ℕ
space_at texts c = take c.space (drop c.start texts)

abbrev pub name_at : List ℕ → KeptClass → List ℕ
name_at texts c = take c.name (drop (c.start + c.space) texts)

abbrev pub class_at : List ℕ → KeptClass → ClassName
class_at texts c = class_of c.outer (id_with (space_at texts c) (name_at texts c))

abbrev pub older_of : KeptClass → Option ℕ
older_of c = c.next

abbrev pub classes_in : List ℕ → List KeptClass → List ClassName
classes_in texts classes = map (class_at texts) classes

-- the texts of each class stand among the bytes
abbrev pub AreWithin : List ℕ → List KeptClass → Type 0
AreWithin texts classes = (k : ℕ) (c : KeptClass) → slice_get classes k ≡ Some c → c.start + c.space + c.name ≤ length texts

pub record AreKept (newest : ℕ → Option ℕ) (texts : List ℕ) (classes : List KeptClass) : Type 0 where
  pub found : AreFound newest (classes_in texts classes) (map older_of classes)
  pub within : AreWithin texts classes
