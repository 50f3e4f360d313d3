-- The bytes of what a file is to hold, however they were made.
use Rattle.std.specs.Prelude.{ℕ, List}
use Rattle.run_endings.specs.declared.written.Held.{Held}
use Rattle.run_endings.specs.declared.written.Held.TheVariants.{Plain, Lines}

abbrev pub held_bytes : Held → List ℕ
held_bytes (Plain bytes) = bytes
held_bytes (Lines text) = text
