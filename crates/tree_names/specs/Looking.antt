-- What one that looks at names one by one has seen.
use Rattle.std.specs.Prelude.{List, fold}
use Rattle.type_terms.specs.declared.name.TypeName.{TypeName}

-- after all of some names, in order
unfoldable pub seen_all : {X : Type 0} → (X → TypeName → X) → X → List TypeName → X
seen_all seen x names = fold seen x names
