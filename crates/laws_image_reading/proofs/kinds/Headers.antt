-- The flags of methods in their rows (ECMA-335 II.23.1.11).
use Rattle.std.proofs.Common.{◌≡◌, subst, ℕ, ◌+◌, true, List, length}
use Rattle.std.specs.Prelude.{IsTrue}
use Rattle.std.specs.List.{AllByRecursion}
use Rattle.assembly_tree.specs.WellFormedMembers.{are_impl_flags, is_method}
use Rattle.assembly_tree.specs.declared.assembly.Assembly.{Assembly}
use Rattle.assembly_tree.proofs.FormedFacts.{methods_named}
use Rattle.body_codec.specs.Names.{NameMap}
use Rattle.image_tokens.specs.declared.references.References.{References}
use Rattle.image_members.specs.Places.{all_methods}
use Rattle.image_members.specs.declared.classes.Class.{Class}
use Rattle.image_layout.specs.Laws.{ReadsHeaps}
use Rattle.image_model.specs.Bodies.{HasCodeType}
use Rattle.image_model.specs.Columns.{method_impl_flags}
use Rattle.image_model.specs.Faults.{Holds, header}
use Rattle.image_model.specs.Rows.{HasRow, count_of}
use Rattle.laws_image_parts.specs.PartsRead.{PartsAreRead}
use Rattle.laws_image_parts.specs.RunsRead.{RunsRead}
use Rattle.laws_image_reading.specs.demands.OnBodies.{BodiesMeet}
use Rattle.laws_image_reading.proofs.kinds.Bits.{code_flags}
use Rattle.laws_image_reading.proofs.kinds.General.{all_at}
use Rattle.laws_image_reading.proofs.kinds.Rows.{by_row}

module _ (parts : PartsAreRead) (a : Assembly) (classes : List Class) (r : References) (code image : List ℕ) (heaps : ReadsHeaps r image) (runs : RunsRead a classes r code image)
    (count : count_of image 0x06 ≡ length (all_methods a classes)) (formed : AllByRecursion (λ m. IsTrue (is_method a m)) (all_methods a classes)) where
  code_type : (row : ℕ) → HasRow image 0x06 row → HasCodeType image row
  code_type row there =
      by_row (HasCodeType image) image 0x06 row (all_methods a classes) count there
      (λ k m at.
      let head = parts.method a classes r code image (1 + k) m heaps (runs.method_rows k m at) in
      let f = (methods_named a m).0 (all_at (λ x. IsTrue (is_method a x)) (all_methods a classes) k m formed at) in
      let flags = code_flags (method_impl_flags image (1 + k)) (subst (λ n. are_impl_flags n ≡ true) head.impl_flags f.impl_flags) in
      record { code_type = flags.0; managed = flags.1 })

  pub headers_meet : (names : NameMap) → BodiesMeet image names → Holds image names header
  headers_meet names bodies = λ table row. record { code_type = λ is there. code_type row there; header = λ is there has. bodies.headers row there has }
