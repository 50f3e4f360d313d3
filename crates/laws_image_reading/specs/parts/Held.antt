-- An image that holds a well-formed assembly, and a namer of its tokens.
use Rattle.std.specs.Prelude.{◌≡◌, ℕ, ◌^◌, ◌≤◌, true, List}
use Rattle.assembly_tree.specs.Weight.{weight_of}
use Rattle.assembly_tree.specs.WellFormed.{is_well_formed}
use Rattle.assembly_tree.specs.declared.assembly.Assembly.{Assembly}
use Rattle.body_codec.specs.Back.{NamesBack}
use Rattle.body_codec.specs.Names.{NameMap}
use Rattle.pe_layout.specs.declared.parts.Kind.{Kind}
use Rattle.image_tokens.specs.declared.references.References.{References}
use Rattle.image_members.specs.CodeBytes.{all_tokens}
use Rattle.image_rows.specs.Filled.{IsFilled, entry_token}
use Rattle.image_members.specs.Pushing.{Tables}
use Rattle.image_members.specs.declared.classes.Class.{Class}
use Rattle.image_layout.specs.LaidOut.{IsLaidOut}
use Rattle.image_model.specs.Namings.{AreNamings}
use Rattle.laws_image_reading.specs.parts.Ranges.{AreInRange}

-- The assembly is laid out in the image, well formed, and not too heavy. The namer tells exactly what the image's tokens name, and
-- gives back all that was given one.
pub record IsHeld (a : Assembly) (classes : List Class) (r : References) (tables : Tables) (code id : List ℕ) (kind : Kind) (image : List ℕ) (names : NameMap) : Type 0 where
  pub filled : IsFilled a classes r tables code
  pub laid_out : IsLaidOut a.manifest r tables code (entry_token a classes) id kind image
  pub formed : is_well_formed a ≡ true
  pub light : weight_of a ≤ 2 ^ 26
  pub ranges : AreInRange a classes
  pub named : AreNamings image names
  pub back : NamesBack (all_tokens r) names

-- what holds of each such image
abbrev pub WhereHeld : (Assembly → List Class → List ℕ → NameMap → Type 0) → Type 0
WhereHeld Holds =
    (a : Assembly) (classes : List Class) (r : References) (tables : Tables) (code id : List ℕ) (kind : Kind) (image : List ℕ) (names : NameMap)
    → IsHeld a classes r tables code id kind image names → Holds a classes image names
