-- A laid-out image of a well-formed manifest is tidy (ECMA-335 II.22, II.23.2, II.24, II.25).
use Rattle.std.specs.Prelude.{◌≡◌, ℕ, List, true}
use Rattle.assembly_tree.specs.WellFormed.{is_manifest}
use Rattle.assembly_tree.specs.declared.assembly.Assembly.{Assembly}
use Rattle.pe_layout.specs.declared.parts.Kind.{Kind}
use Rattle.image_tokens.specs.declared.references.References.{References}
use Rattle.image_rows.specs.Filled.{IsFilled}
use Rattle.image_members.specs.Pushing.{Tables}
use Rattle.image_members.specs.declared.classes.Class.{Class}
use Rattle.image_layout.specs.LaidOut.{IsLaidOut}
use Rattle.image_model.specs.Tidy.{IsTidy}
use Rattle.laws_image_parts.specs.namings.Readable.{IsReadable}
use Rattle.laws_image_parts.specs.tidiness.Distinct.{HasDistinctContents, HasDistinctRows, HasTwoCells}

-- what references are besides: no content and no row stands twice, and a reader takes what they hold
pub record AreTidy (r : References) : Type 0 where
  pub contents : HasDistinctContents r
  pub rows : HasDistinctRows r
  pub two_cells : HasTwoCells r
  pub readable : IsReadable r

-- ---- the law

abbrev pub ImagesAreTidy : Type 0
ImagesAreTidy =
    (a : Assembly) (classes : List Class) (r : References) (tables : Tables) (code : List ℕ) (entry : ℕ) (id : List ℕ) (kind : Kind) (image : List ℕ)
    → IsFilled a classes r tables code → IsLaidOut a.manifest r tables code entry id kind image → is_manifest a a.manifest ≡ true
    → AreTidy r → IsTidy image kind id
