-- The header fields of a laid-out image, and the identifier of its module (ECMA-335 II.22.30, II.24.2, II.25).
use Rattle.std.specs.Prelude.{◌≡◌, ℕ, List, true}
use Rattle.assembly_tree.specs.WellFormed.{is_manifest}
use Rattle.assembly_tree.specs.declared.assembly.Assembly.{Assembly}
use Rattle.pe_layout.specs.declared.parts.Kind.{Kind}
use Rattle.image_tokens.specs.declared.references.References.{References}
use Rattle.image_rows.specs.Filled.{IsFilled}
use Rattle.image_members.specs.Pushing.{Tables}
use Rattle.image_members.specs.declared.classes.Class.{Class}
use Rattle.image_layout.specs.LaidOut.{IsLaidOut}
use Rattle.image_model.specs.Tidy.{HasWrittenFields}

-- ---- the law

abbrev pub FieldsAreWritten : Type 0
FieldsAreWritten =
    (a : Assembly) (classes : List Class) (r : References) (tables : Tables) (code : List ℕ) (entry : ℕ) (id : List ℕ) (kind : Kind) (image : List ℕ)
    → IsFilled a classes r tables code → IsLaidOut a.manifest r tables code entry id kind image → is_manifest a a.manifest ≡ true
    → HasWrittenFields image kind id
