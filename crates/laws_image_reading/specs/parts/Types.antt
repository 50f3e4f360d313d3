-- Types, but for those that they nest, are what their rows give (ECMA-335 II.22.8, II.22.23, II.22.37).
use Rattle.assembly_tree.specs.declared.typedef.TypeDef.TheViews.{out-TypeDef}
use Rattle.image_model.specs.Reading.{IsTypeButNested}
use Rattle.laws_image_parts.specs.AtRows.{AtEach}
use Rattle.laws_image_reading.specs.parts.Held.{WhereHeld}

-- ---- the law

abbrev pub TypesAreNamed : Type 0
TypesAreNamed = WhereHeld (λ a classes image names. AtEach (λ type c. IsTypeButNested image names type (out-TypeDef c.of.now)) 2 classes)
