-- All tokens of an image name what they were given to (ECMA-335 II.22, III.1.9).
use Rattle.std.specs.Prelude.{ℕ, List}
use Rattle.assembly_tree.specs.declared.assembly.Assembly.{Assembly}
use Rattle.body_codec.specs.Back.{NamesBack}
use Rattle.body_codec.specs.Names.{NameMap}
use Rattle.image_tokens.specs.declared.references.References.{References}
use Rattle.image_members.specs.CodeBytes.{all_tokens}
use Rattle.image_members.specs.Pushing.{Tables}
use Rattle.image_members.specs.declared.classes.Class.{Class}
use Rattle.image_model.specs.Namings.{AreNamings}
use Rattle.laws_image_parts.specs.names.Written.{IsWritten}
use Rattle.laws_image_parts.specs.namings.Readable.{IsReadable}

-- the maps of a namer tell exactly what the tokens name, and give back all that was given one
pub record NamesAreRead (r : References) (image : List ℕ) : Type 0 where
  pub names : NameMap
  pub tells : AreNamings image names
  pub back : NamesBack (all_tokens r) names

-- ---- the law

abbrev pub NamingsAreRead : Type 0
NamingsAreRead =
    (a : Assembly) (classes : List Class) (r : References) (tables : Tables) (code image : List ℕ) → IsWritten a classes r tables code image
    → IsReadable r → NamesAreRead r image
