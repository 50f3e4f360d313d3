-- The offsets of instructions, one after the other.
use Rattle.std.specs.Prelude.{ℕ, ◌+◌, List, [], ◌∷◌}
use Rattle.assembly_tree.specs.WellFormedBodies.{size_of}
use Rattle.assembly_tree.specs.declared.body.Ins.{Ins}

-- the offsets of instructions, the first of which has this one, and that of the end
abbrev pub offsets_from : ℕ → List Ins → List ℕ
offsets_from offset [] = offset ∷ []
offsets_from offset (i ∷ is) = offset ∷ offsets_from (offset + size_of i) is
