-- The tokens that the bodies of an image name, and the user strings that they load (ECMA-335 II.24.2.4, II.25.4, III.4.16).
use Rattle.std.specs.Prelude.{ℕ, List}
use Rattle.assembly_tree.specs.declared.assembly.Assembly.{Assembly}
use Rattle.laws_image_parts.specs.in_code.Given.{IsGiven}
use Rattle.heaps.specs.Content.{HasUnits}
use Rattle.heaps.specs.Written.{HasWrittenUnits}
use Rattle.pe_layout.specs.declared.parts.Kind.{Kind}
use Rattle.image_tokens.specs.declared.references.References.{References}
use Rattle.image_members.specs.CodeBytes.{all_tokens}
use Rattle.image_rows.specs.Filled.{IsFilled}
use Rattle.image_members.specs.Pushing.{Tables}
use Rattle.image_members.specs.declared.classes.Class.{Class}
use Rattle.image_layout.specs.LaidOut.{IsLaidOut}
use Rattle.image_model.specs.Bodies.{BodyNames}
use Rattle.image_model.specs.Rows.{HasRow}
use Rattle.image_model.specs.Streams.{user_of}
use Rattle.image_model.specs.Tidy.{HoldsOnce, IsLoaded}
use Rattle.laws_image_parts.specs.tidiness.Distinct.{HasDistinctContents}

-- no two of the indexes that bodies load have one text, and each has the last byte that belongs there and the shortest length
pub record LoadsTidily (image : List ℕ) : Type 0 where
  pub once : HoldsOnce (IsLoaded image) (HasUnits (user_of image))
  pub short : (index : ℕ) → IsLoaded image index → (units : List ℕ) × HasWrittenUnits (user_of image) index units

-- ---- laws

-- each token that a body names was given to what it names
abbrev pub TokensAreGiven : Type 0
TokensAreGiven =
    (a : Assembly) (classes : List Class) (r : References) (tables : Tables) (code : List ℕ) (entry : ℕ) (id : List ℕ) (kind : Kind) (image : List ℕ)
    → IsFilled a classes r tables code → IsLaidOut a.manifest r tables code entry id kind image
    → (method token : ℕ) → HasRow image 0x06 method → BodyNames image method token → IsGiven (all_tokens r) token

abbrev pub LoadedAreTidy : Type 0
LoadedAreTidy =
    (a : Assembly) (classes : List Class) (r : References) (tables : Tables) (code : List ℕ) (entry : ℕ) (id : List ℕ) (kind : Kind) (image : List ℕ)
    → IsFilled a classes r tables code → IsLaidOut a.manifest r tables code entry id kind image → HasDistinctContents r → LoadsTidily image
