-- What is known of a source where the sizes of its types are asked (ECMA-335 II.16.3).
use Rattle.source_model.specs.Nodes.{nothing_around}
use Rattle.source_model.specs.Source.{Source}
use Rattle.source_syntax.specs.Places.{IsAt}
use Rattle.check_data.specs.DeclaredSizes.{AreSizes}
use Rattle.check_data.specs.declared.type_sizes.Measure.{Measure}

-- what names stand for outside of all classes, and the class sizes
pub record Measures (m : Measure) (s : Source) : Type 0 where
  pub place : IsAt m.place s nothing_around
  pub sizes : AreSizes s m.classes.now m.sizes.now
