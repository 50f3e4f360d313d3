-- The bodies of methods are read where the rows of methods say (ECMA-335 II.22.26, II.25.4).
use Rattle.std.specs.Prelude.{ℕ, List}
use Rattle.assembly_tree.specs.declared.assembly.Assembly.{Assembly}
use Rattle.assembly_tree.specs.declared.members.Method.{Method}
use Rattle.body_codec.specs.Back.{NamesBack}
use Rattle.body_codec.specs.Names.{NameMap}
use Rattle.pe_layout.specs.declared.parts.Kind.{Kind}
use Rattle.image_tokens.specs.declared.references.References.{References}
use Rattle.image_members.specs.CodeBytes.{all_tokens}
use Rattle.image_rows.specs.Filled.{IsFilled}
use Rattle.image_members.specs.Places.{all_methods}
use Rattle.image_members.specs.Pushing.{Tables}
use Rattle.image_members.specs.declared.classes.Class.{Class}
use Rattle.image_layout.specs.LaidOut.{IsLaidOut}
use Rattle.image_model.specs.Bodies.{HasBody, IsShortestBody}
use Rattle.image_model.specs.Columns.{method_rva}
use Rattle.image_model.specs.Reading.{BodyIs}
use Rattle.image_model.specs.Rows.{HasRow}
use Rattle.laws_image_parts.specs.AtRows.{AtEach}

-- by a namer that gives back what was given a token, each method has its body, with a tiny header where that serves
pub record BodiesRead (a : Assembly) (classes : List Class) (image : List ℕ) (names : NameMap) : Type 0 where
  pub bodies : AtEach (λ row (m : Method). BodyIs image names (method_rva image row) m.body) 1 (all_methods a classes)
  pub shortest : (method : ℕ) → HasRow image 0x06 method → HasBody image method → IsShortestBody image names method

-- ---- the law

abbrev pub BodiesAreRead : Type 0
BodiesAreRead =
    (a : Assembly) (classes : List Class) (r : References) (tables : Tables) (code : List ℕ) (entry : ℕ) (id : List ℕ) (kind : Kind) (image : List ℕ)
    → IsFilled a classes r tables code → IsLaidOut a.manifest r tables code entry id kind image
    → (names : NameMap) → NamesBack (all_tokens r) names → BodiesRead a classes image names
