-- The bytes of a text, wherever they lie.
use Rattle.std.specs.Prelude.{ℕ, List, string_bytes}
use Rattle.il_lists.specs.declared.text.Held.{Held}
use Rattle.il_lists.specs.declared.text.Held.TheVariants.{Short, Long}

abbrev pub held_bytes : Held → List ℕ
held_bytes (Short text alloc) = text
held_bytes (Long text) = string_bytes text.value
