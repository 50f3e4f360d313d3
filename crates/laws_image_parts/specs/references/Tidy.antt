-- References of a well-formed assembly are tidy (ECMA-335 II.22, II.23.2).
use Rattle.std.specs.Prelude.{◌≡◌, ℕ, ◌^◌, ◌≤◌, true, List}
use Rattle.assembly_tree.specs.Weight.{weight_of}
use Rattle.assembly_tree.specs.WellFormed.{is_well_formed}
use Rattle.assembly_tree.specs.declared.assembly.Assembly.{Assembly}
use Rattle.pe_layout.specs.declared.parts.Kind.{Kind}
use Rattle.image_tokens.specs.declared.references.References.{References}
use Rattle.image_rows.specs.Filled.{IsFilled}
use Rattle.image_members.specs.Pushing.{Tables}
use Rattle.image_members.specs.declared.classes.Class.{Class}
use Rattle.image_layout.specs.LaidOut.{IsLaidOut}
use Rattle.laws_image_parts.specs.tidiness.Distinct.{HasDistinctContents, HasDistinctRows}
use Rattle.laws_image_parts.specs.tidy.Tidy.{AreTidy}

-- ---- the law

abbrev pub ReferencesAreTidy : Type 0
ReferencesAreTidy =
    (a : Assembly) (classes : List Class) (r : References) (tables : Tables) (code : List ℕ) (entry : ℕ) (id : List ℕ) (kind : Kind) (image : List ℕ)
    → IsFilled a classes r tables code → IsLaidOut a.manifest r tables code entry id kind image → is_well_formed a ≡ true → weight_of a ≤ 2 ^ 26
    → HasDistinctContents r → HasDistinctRows r → AreTidy r
