-- Types are enclosed as the tree nests them (ECMA-335 II.22.32, II.22.37).
use Rattle.std.specs.Prelude.{◌≡◌, ℕ, ◌+◌, List, length}
use Rattle.assembly_tree.specs.declared.assembly.Assembly.{Assembly}
use Rattle.assembly_tree.specs.declared.typedef.TypeDef.TheViews.{out-TypeDef}
use Rattle.body_codec.specs.Names.{NameMap}
use Rattle.image_tokens.specs.declared.references.References.{References}
use Rattle.image_members.specs.Classes.{AreClasses}
use Rattle.image_members.specs.declared.classes.Class.{Class}
use Rattle.image_model.specs.Reading.{IsTypeButNested, AreTypes}
use Rattle.image_model.specs.Rows.{count_of, enclosing, types_in}
use Rattle.laws_image_parts.specs.AtRows.{AtEach}
use Rattle.laws_image_parts.specs.RowsRead.{ReadsTypes}

-- each type is enclosed by its encloser, and `<Module>` by none
pub record AreEnclosed (classes : List Class) (image : List ℕ) : Type 0 where
  pub count : count_of image 0x02 ≡ 1 + length classes
  pub module_row : enclosing image 1 ≡ 0
  pub each : AtEach (λ type c. enclosing image type ≡ c.encloser) 2 classes

-- ---- laws

abbrev pub EnclosersAreRead : Type 0
EnclosersAreRead = (a : Assembly) (classes : List Class) (r : References) (image : List ℕ) → ReadsTypes a classes r image → AreEnclosed classes image

-- where each type, but for those that it nests, is what its row gives, the types of the assembly are those that the image nests at
-- the top
abbrev pub TypesAreNested : Type 0
TypesAreNested =
    (a : Assembly) (classes : List Class) (names : NameMap) (image : List ℕ) → AreClasses 0 2 a.types classes → AreEnclosed classes image
    → AtEach (λ type c. IsTypeButNested image names type (out-TypeDef c.of.now)) 2 classes → AreTypes image names (types_in image 0) a.types
