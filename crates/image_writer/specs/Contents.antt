-- What an image is made of before it is laid out (ECMA-335 II.22, II.24.2, II.25.4).
use Rattle.std.specs.Prelude.{◌≡◌, ℕ, ◌+◌, ◌≤◌, List, [], length}
use Rattle.assembly_tree.specs.declared.assembly.Assembly.{Assembly}
use Rattle.image_tokens.specs.References.{size}
use Rattle.image_tokens.specs.declared.references.References.{References}
use Rattle.image_rows.specs.Filled.{IsFilled}
use Rattle.image_members.specs.Pushing.{Tables}
use Rattle.image_members.specs.declared.classes.Class.{Class}
use Rattle.metadata_tables.specs.Encoding.{rows_of}
use Rattle.laws_tree_weights.specs.ImageBytes.{heap_bytes, code_bytes}

-- no table has rows
abbrev pub HasNoRows : Tables → Type 0
HasNoRows tables = (table : ℕ) → rows_of tables table ≡ []

-- they are those of an assembly with these types, and have no more bytes than are counted for it
pub record IsContents (a : Assembly) (classes : List Class) (r : References) (tables : Tables) (code : List ℕ) : Type 0 where
  pub filled : IsFilled a classes r tables code
  pub externs_are : r.declared.externs ≡ length a.externs
  pub room : size r ≤ 3 + heap_bytes a classes
  pub long : length code ≤ code_bytes a classes
