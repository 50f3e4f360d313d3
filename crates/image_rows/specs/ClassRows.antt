-- The rows of tables that have at most one for each type: NestedClass and ClassLayout (ECMA-335 II.22.32, II.22.8). The first
-- type has row 2 of TypeDef.
use Rattle.std.specs.Prelude.{ℕ, ◌==◌, if◌then◌else◌, List, [], ◌∷◌, Option, Some, None}
use Rattle.std.specs.List.{flat_map, enumerate_from}
use Rattle.assembly_tree.specs.declared.typedef.Layout.{Layout}
use Rattle.assembly_tree.specs.declared.typedef.TypeDef.TheViews.{out-TypeDef}
use Rattle.image_members.specs.declared.classes.Class.{Class}

-- those of each type in turn, by its row and the type
abbrev pub class_rows : (ℕ × Class → List (List ℕ)) → List Class → List (List ℕ)
class_rows rows classes = flat_map rows (enumerate_from 2 classes)

-- NestedClass: the row of a type, and that of its encloser where it has one
abbrev pub encloser_rows : ℕ → ℕ → List (List ℕ)
encloser_rows row encloser = if encloser == 0 then [] else ((row ∷ encloser ∷ []) ∷ [])

abbrev pub nested_rows : ℕ × Class → List (List ℕ)
nested_rows (row, c) = encloser_rows row c.encloser

-- ClassLayout: packing size, class size, and the row of the type, where it has a layout
abbrev pub stated_rows : ℕ → Option Layout → List (List ℕ)
stated_rows row None = []
stated_rows row (Some l) = (l.pack ∷ l.size ∷ row ∷ []) ∷ []

abbrev pub layout_rows : ℕ × Class → List (List ℕ)
layout_rows (row, c) = stated_rows row (out-TypeDef c.of.now).layout
