-- Whether a text is loaded (ECMA-335 III.4.16).
use Rattle.std.specs.Prelude.{Bool, true, false, List, [], ◌∷◌}
use Rattle.assembly_tree.specs.Room.{Units}

-- whether there is a text
abbrev pub has_text : List Units → Bool
has_text [] = false
has_text (t ∷ ts) = true
