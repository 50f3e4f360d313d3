-- An image into which an assembly is laid out, as far as its tables and heaps go.
use Rattle.std.specs.Prelude.{ℕ, List}
use Rattle.assembly_tree.specs.declared.assembly.Assembly.{Assembly}
use Rattle.image_tokens.specs.declared.references.References.{References}
use Rattle.image_rows.specs.Filled.{IsFilled}
use Rattle.image_members.specs.Pushing.{Tables}
use Rattle.image_members.specs.declared.classes.Class.{Class}
use Rattle.pe_layout.specs.declared.parts.Kind.{Kind}
use Rattle.image_layout.specs.LaidOut.{IsLaidOut}
use Rattle.image_layout.specs.Laws.{ReadsTables, ReadsHeaps}

-- rows and heaps are those of the assembly, and the image holds them
pub record IsWritten (a : Assembly) (classes : List Class) (r : References) (tables : Tables) (code image : List ℕ) : Type 0 where
  pub filled : IsFilled a classes r tables code
  pub reads : ReadsTables r tables image
  pub heaps : ReadsHeaps r image

-- ---- the law: what is laid out is written

abbrev pub LaidOutIsWritten : Type 0
LaidOutIsWritten =
    (a : Assembly) (classes : List Class) (r : References) (tables : Tables) (code : List ℕ) (entry : ℕ) (id : List ℕ) (kind : Kind) (image : List ℕ)
    → IsFilled a classes r tables code → IsLaidOut a.manifest r tables code entry id kind image → IsWritten a classes r tables code image
