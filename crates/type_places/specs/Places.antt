-- The types of a tree by their paths, each before those that it nests (ECMA-335 II.10, II.22.32).
use Rattle.std.specs.Prelude.{Bool, List, [], ◌∷◌, ◌++◌, map, find, option_map, Option}
use lib.Pointwise.{pointwise}
use Rattle.type_terms.specs.declared.name.TypeId.{TypeId}
use Rattle.assembly_tree.specs.DataSize.{is_id}
use Rattle.assembly_tree.specs.declared.typedef.Layout.{Layout}
use Rattle.assembly_tree.specs.declared.typedef.TypeDef.{TypeDef}
use Rattle.assembly_tree.specs.declared.typedef.TypeDef.TheOpen.{TypeDef-F}
use Rattle.assembly_tree.specs.declared.typedef.TypeDef.TheFolds.{fold-TypeDef}
use Rattle.assembly_tree.specs.declared.typedef.TypeDef.TheViews.{out-TypeDef}

-- a type by its path, with its layout
pub record Placed : Type 0 where
  pub path : List TypeId
  pub layout : Option Layout

-- types one after another, nested in those of a path
abbrev pub all_places : List TypeId → List (List TypeId → List Placed) → List Placed
all_places outer [] = []
all_places outer (p ∷ ps) = p outer ++ all_places outer ps

abbrev pub places_step : TypeDef-F (List TypeId → List Placed) → List TypeId → List Placed
places_step t outer = record { path = outer ++ t.id ∷ []; layout = t.layout } ∷ all_places (outer ++ t.id ∷ []) t.nested

-- a type and those that it nests
unfoldable pub places_of : TypeDef → List TypeId → List Placed
places_of t = fold-TypeDef (List TypeId → List Placed) places_step t

-- those of types side by side
abbrev pub places : List TypeId → List TypeDef → List Placed
places outer ts = all_places outer (map places_of ts)

-- ---- the first of a path

abbrev pub has_path : List TypeId → Placed → Bool
has_path path q = pointwise is_id q.path path

-- its layout, where there is one
abbrev pub layout_found : List TypeId → List Placed → Option (Option Layout)
layout_found path qs = option_map (λ (q : Placed). q.layout) (find (has_path path) qs)

-- that of a type
abbrev pub layout_of : Option TypeDef → Option (Option Layout)
layout_of t = option_map (λ u. (out-TypeDef u).layout) t
