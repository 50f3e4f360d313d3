-- Generic parameters are what their rows give, with their bounds and their attributes (ECMA-335 II.22.20, II.22.21).
use Rattle.std.specs.Prelude.{ℕ, List}
use Rattle.assembly_tree.specs.declared.assembly.Assembly.{Assembly}
use Rattle.assembly_tree.specs.declared.members.Method.{Method}
use Rattle.body_codec.specs.Names.{NameMap}
use Rattle.image_members.specs.Lists.{class_generics}
use Rattle.image_members.specs.Places.{all_methods}
use Rattle.image_members.specs.declared.classes.Class.{Class}
use Rattle.image_model.specs.Reading.{GenericsAre}
use Rattle.laws_image_parts.specs.AtRows.{AtEach}
use Rattle.laws_image_reading.specs.parts.Held.{WhereHeld}

-- those of types and of methods
pub record GenericsNamed (a : Assembly) (classes : List Class) (image : List ℕ) (names : NameMap) : Type 0 where
  pub types : AtEach (λ type c. GenericsAre image names 0x02 type (class_generics c)) 2 classes
  pub methods : AtEach (λ row (m : Method). GenericsAre image names 0x06 row m.generics) 1 (all_methods a classes)

-- ---- the law

abbrev pub GenericsAreNamed : Type 0
GenericsAreNamed = WhereHeld GenericsNamed
