-- The ids of a path, wherever they lie.
use Rattle.std.specs.Prelude.{List, [], ◌∷◌}
use Rattle.type_terms.specs.declared.name.TypeId.{TypeId}
use Rattle.type_terms.specs.declared.path.Held.{Held}
use Rattle.type_terms.specs.declared.path.Held.TheVariants.{One, Nested}

abbrev pub held_ids : Held → List TypeId
held_ids (One id alloc) = id ∷ []
held_ids (Nested ids) = ids
