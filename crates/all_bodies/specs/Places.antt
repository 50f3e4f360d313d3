-- The places of the methods with a body in types that stand side by side, on the way through an assembly.
use Rattle.std.specs.Prelude.{ℕ, ◌+◌, List, [], ◌∷◌, ◌++◌}
use Rattle.assembly_tree.specs.declared.typedef.MethodPath.{MethodPath}
use Rattle.assembly_tree.specs.declared.typedef.TypeDef.{TypeDef}
use Rattle.assembly_tree.specs.declared.typedef.TypeDef.TheFolds.{fold-TypeDef}
use Rattle.code_flow.specs.Methods.{preorder}

-- those of a type to which these places lead, and of the types that it nests
abbrev pub places_of : TypeDef → List ℕ → List MethodPath
places_of t = fold-TypeDef (List ℕ → List MethodPath) preorder t

-- those of the types with the numbers from `k` on in what the places `outer` lead to
abbrev pub places_from : List ℕ → ℕ → List TypeDef → List MethodPath
places_from outer k [] = []
places_from outer k (t ∷ ts) = places_of t (outer ++ k ∷ []) ++ places_from outer (k + 1) ts
