-- The outside of all classes, by its path.
use Rattle.std.specs.Prelude.{Bool, true, false, List, [], ◌∷◌}
use Rattle.type_terms.specs.declared.name.TypeId.{TypeId}

abbrev pub is_outside : List TypeId → Bool
is_outside [] = true
is_outside (id ∷ ids) = false
