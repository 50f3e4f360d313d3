-- The rows of declared types, by encloser, name and space: row 1 is that of `<Module>` (ECMA-335 II.10.8, II.22.32, II.22.37).
use Rattle.std.specs.Prelude.{◌≡◌, ℕ, ◌+◌, ◌≤◌, List, [], ◌∷◌, ◌++◌, map, length, sum_by, codes, Some, slice_get}
use Rattle.std.specs.List.{AllZip}
use Rattle.assembly_tree.specs.declared.typedef.TypeDef.TheViews.{out-TypeDef}
use Rattle.heaps.specs.Heap.{Heap}
use Rattle.type_terms.specs.declared.name.TypeId.{TypeId}
use Rattle.image_tokens.specs.Texts.{KeepsTexts, HoldsId, id_size}
use Rattle.image_members.specs.declared.classes.Class.{Class}
use Rattle.image_tokens.specs.declared.row_set.Cells.{Cells}

-- where a type is declared: the row of its encloser, or 0 at the top, and its name and space
pub record Place : Type 0 where
  pub encloser : ℕ
  pub id : TypeId

-- the type that holds what is declared outside of any class
abbrev pub module_id : TypeId
module_id = record { space = []; name = codes "<Module>" }

abbrev pub module_place : Place
module_place = record { encloser = 0; id = module_id }

abbrev pub class_id : Class → TypeId
class_id c = (out-TypeDef c.of.now).id

abbrev pub class_place : Class → Place
class_place c = record { encloser = c.encloser; id = class_id c }

-- `<Module>`, and then the types
abbrev pub places : List Class → List Place
places classes = module_place ∷ map class_place classes

-- no two types have one encloser and one name
abbrev pub AreApart : List Place → Type 0
AreApart ps = (j k : ℕ) (p : Place) → slice_get ps j ≡ Some p → slice_get ps k ≡ Some p → j ≡ k

-- the cells of a row are those of a place
pub record HoldsPlace (strings : Heap) (cells : Cells) (p : Place) : Type 0 where
  pub encloser_is : cells.first ≡ p.encloser
  pub id_is : HoldsId strings p.id cells.second cells.third

-- the rows are those of the places, in order
abbrev pub AreDeclared : Heap → List Cells → List Place → Type 0
AreDeclared strings rows ps = AllZip (HoldsPlace strings) rows ps

-- rows have been added for these places, where no two of all are one; so many bytes of texts came at most
pub record Declares (ps : List Place) (size : ℕ) (old new : Heap) (rows more : List Cells) : Type 0 where
  pub declared : (before : List Place) → AreApart (before ++ ps) → AreDeclared old rows before → AreDeclared new more (before ++ ps)
  pub keeps : KeepsTexts old new
  pub size-is : length new.bytes ≤ length old.bytes + size
  pub count : length more ≤ length rows + length ps

-- the bytes that the texts of a type take
abbrev pub class_size : Class → ℕ
class_size c = id_size (class_id c)

-- `<Module>` and the types have their rows, and so many bytes of texts came at most
pub record IsDeclaring (classes : List Class) (old new : Heap) (rows : List Cells) : Type 0 where
  pub declared : AreDeclared new rows (places classes)
  pub keeps : KeepsTexts old new
  pub size-is : length new.bytes ≤ length old.bytes + (10 + sum_by class_size classes)
