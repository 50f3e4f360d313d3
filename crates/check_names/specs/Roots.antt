-- Classes that would have `System.Object` as their base, by what the code knows of each (ECMA-335 II.10.1.3).
use Rattle.std.specs.Prelude.{ℕ, ◌==◌, ◌&&◌, ◌||◌, Bool, not, if◌then◌else◌, List, [], ◌∷◌, length}
use Rattle.ilasm_grammar.specs.declared.productions.TheConstants.{CLASS, EXTENDS, EXTENDS_OPT_SOME}
use Rattle.source_model.specs.Classes.{is_interface, is_root}
use Rattle.source_model.specs.Forest.{child, has}
use Rattle.source_model.specs.Nodes.{Node, class_token, type_id}
use Rattle.source_model.specs.Source.{Source}

-- the class that stands in so many classes and has this name is the root of all others
abbrev pub is_root_named : Source → ℕ → ℕ → Bool
is_root_named s depth token = (depth == 1) && is_root (type_id s token ∷ [])

-- a class without a base of its own, which isn't that root
abbrev pub is_rootless : Source → Node → Bool
is_rootless s n =
    not (is_interface s n.below || has EXTENDS (child (EXTENDS_OPT_SOME ∷ []) n.below)
    || is_root_named s (length n.around.path) (class_token n.below))

-- its name
abbrev pub rootless : Source → Node → List ℕ
rootless s n = if n.production == CLASS then (if is_rootless s n then class_token n.below ∷ [] else []) else []
