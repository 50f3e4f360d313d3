-- Where places lead to from a list of types.
use Rattle.std.specs.Prelude.{ℕ, List, [], ◌∷◌, ◌++◌, slice_get, option_and_then, Option, Some}
use Rattle.type_terms.specs.declared.name.TypeId.{TypeId}
use Rattle.assembly_tree.specs.declared.members.Method.{Method}
use Rattle.assembly_tree.specs.declared.typedef.TypeDef.{TypeDef}
use Rattle.assembly_tree.specs.declared.typedef.TypeDef.TheViews.{out-TypeDef}
use Rattle.listing_model.specs.Canon.{Placed}

-- from the types and methods of a type with this path on
abbrev pub onward : List TypeDef → List Method → List TypeId → List ℕ → Option Placed
onward types methods path [] = Some (record { path = path; methods = methods })
onward types methods path (k ∷ ks) =
    option_and_then (λ t. onward (out-TypeDef t).nested (out-TypeDef t).methods (path ++ (out-TypeDef t).id ∷ []) ks) (slice_get types k)
