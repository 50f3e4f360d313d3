-- The types that a type holds in itself (ECMA-335 II.10.6, II.22.32).
use Rattle.std.specs.Prelude.{ℕ, ◌+◌, List, sum}
use Rattle.assembly_tree.specs.declared.typedef.TypeDef.{TypeDef}
use Rattle.assembly_tree.specs.declared.typedef.TypeDef.TheOpen.{TypeDef-F}
use Rattle.assembly_tree.specs.declared.typedef.TypeDef.TheFolds.{fold-TypeDef}
use Rattle.assembly_tree.specs.declared.typedef.TypeDef.TheViews.{out-TypeDef}

-- the types directly in it
abbrev pub nested_in : TypeDef → List TypeDef
nested_in t = (out-TypeDef t).nested

-- the number of types that it is, with those in it at any depth
abbrev pub types_step : TypeDef-F ℕ → ℕ
types_step t = 1 + sum t.nested

abbrev pub types_in : TypeDef → ℕ
types_in t = fold-TypeDef ℕ types_step t
