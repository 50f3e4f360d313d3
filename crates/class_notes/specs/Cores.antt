-- What the scope of the core means.
use Rattle.std.specs.Prelude.{◌≡◌}
use Rattle.type_hierarchy.specs.Hierarchy.{Hierarchy}

-- where the image names the core, it means the core
abbrev pub IsCored : Hierarchy → Type 0
IsCored w = w.scope w.core ≡ w.core
