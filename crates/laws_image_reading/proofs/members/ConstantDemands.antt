-- The constants of fields, parameters and properties.
use Rattle.std.proofs.Common.{◌≡◌, ap, refl, sym, ◌∙◌, subst, ℕ, ◌+◌, ◌*◌, ◌≤◌, List, [], ◌∷◌, length, Option, Some, None, arith}
use Rattle.std.specs.Prelude.{IsTrue, slice_index, option_map}
use Rattle.std.specs.Int.{byte_at, to_le_bytes, w16, w32, w64}
use Rattle.std.specs.List.{AllByRecursion}
use Rattle.std.proofs.lemmas.List.Elements.{All-from_recursion}
use Rattle.byteorder.specs.Endian.{little_number}
use Rattle.heaps.specs.Content.{HasBlob}
use Rattle.metadata_tables.specs.declared.coded.Coded.TheVariants.{HasConstant}
use Rattle.assembly_tree.specs.WellFormedMembers.{is_constant}
use Rattle.assembly_tree.specs.WellFormedNames.{option_all}
use Rattle.assembly_tree.specs.declared.members.Constant.{Constant}
use Rattle.assembly_tree.specs.declared.members.Constant.TheVariants as constant
use Rattle.image_tokens.specs.Indexes.{index_of}
use Rattle.image_tokens.specs.Units.{bytes_of_units}
use Rattle.image_tokens.specs.declared.references.References.{References}
use Rattle.image_members.specs.ConstantRows.{IsConstantRow, stated_constant}
use Rattle.image_members.specs.Constants.{element_of, value_of}
use Rattle.image_layout.specs.Laws.{ReadsHeaps}
use Rattle.image_model.specs.Constants.{constant_of}
use Rattle.image_model.specs.Members.{ConstantIs, HasConstants, constants_of}
use Rattle.image_model.specs.Streams.{blobs_of}
use Rattle.image_model.specs.Units.{units_of}
use Rattle.laws_image_parts.specs.ConstantsRead.{ConstantsAreRead}
use Rattle.laws_image_parts.specs.OwnedRows.{ConstantOf}
use Rattle.laws_image_parts.specs.RowCells.{constant_cells}
use Rattle.laws_image_parts.proofs.CellLemmas.{zip_long}
use Rattle.laws_image_reading.proofs.members.Lists.{zip_left}

-- a value of an element type is a constant
abbrev IsSome : Constant → Type 0
IsSome c = (d : Constant) × (constant_of (element_of c) (value_of c) ≡ Some d)

some_units : (units : List ℕ) → (us : List ℕ) × (units_of (bytes_of_units units) ≡ Some us)
some_units [] = ([], refl)
some_units (u ∷ units) =
    let rest = some_units units in
    ((byte_at 0 u + 256 * byte_at 1 u) ∷ rest.0, ap (option_map (λ (us : List ℕ). (byte_at 0 u + 256 * byte_at 1 u) ∷ us)) rest.1)

some_char : (unit : ℕ) → IsSome (constant.Char unit)
unfolding constant_of element_of value_of
some_char unit = (constant.Char (little_number 2 (to_le_bytes w16 unit)), refl)

some_real4 : (bits : ℕ) → IsSome (constant.Real4 bits)
unfolding constant_of element_of value_of
some_real4 bits = (constant.Real4 (little_number 4 (to_le_bytes w32 bits)), refl)

some_real8 : (bits : ℕ) → IsSome (constant.Real8 bits)
unfolding constant_of element_of value_of
some_real8 bits = (constant.Real8 (little_number 8 (to_le_bytes w64 bits)), refl)

some_text : (units : List ℕ) → IsSome (constant.Str units)
unfolding constant_of element_of value_of
some_text units = let us = some_units units in (constant.Str us.0, ap (option_map constant.Str) us.1)

module _ (read : ConstantsAreRead) where
  some_constant : (c : Constant) → IsTrue (is_constant c) → IsSome c
  some_constant (constant.Bool b) h = (constant.Bool b, read.back (constant.Bool b) tt)
  some_constant (constant.Char unit) h = some_char unit
  some_constant (constant.Int of n) h = (constant.Int of n, read.back (constant.Int of n) h)
  some_constant (constant.Real4 bits) h = some_real4 bits
  some_constant (constant.Real8 bits) h = some_real8 bits
  some_constant (constant.Str units) h = some_text units
  some_constant constant.Null h = (constant.Null, read.back constant.Null tt)

  few_stated : (o : Option Constant) → length (stated_constant o) ≤ 1
  few_stated None = omega arith
  few_stated (Some c) = omega arith

  formed_stated : (o : Option Constant) → IsTrue (option_all is_constant o) → AllByRecursion (λ c. IsTrue (is_constant c)) (stated_constant o)
  formed_stated None h = tt
  formed_stated (Some c) h = (h, tt)

  pub constants_fit : (r : References) (image : List ℕ) (table row : ℕ) (o : Option Constant) → ReadsHeaps r image → ConstantOf r image table row (stated_constant o)
      → IsTrue (option_all is_constant o) → HasConstants image table row
  constants_fit r image table row o heaps h formed =
      let R : ℕ → Constant → Type 0 = (λ k x. IsConstantRow r (constant_cells image k) (index_of HasConstant table row, x)) in
      let long = zip_long R (constants_of image table row) (stated_constant o) h in
      let few = few_stated o in
      record {
        one = omega arith;
        each = All-from_recursion (λ k. (c : Constant) × ConstantIs image k c) (constants_of image table row)
            (zip_left R (λ c. IsTrue (is_constant c)) (λ k. (c : Constant) × ConstantIs image k c) (constant_row r image (index_of HasConstant table row) heaps)
            (constants_of image table row) (stated_constant o) h (formed_stated o formed));
      }
    where
      constant_row : (r : References) (image : List ℕ) (parent : ℕ) → ReadsHeaps r image → (k : ℕ) (c : Constant) → IsConstantRow r (constant_cells image k) (parent, c) → IsTrue (is_constant c)
          → (d : Constant) × ConstantIs image k d
      constant_row r image parent heaps k c is fine =
          let at = ap (λ (cs : List ℕ). slice_index cs 3) is.are in
          let typed = ap (λ (cs : List ℕ). slice_index cs 0) is.are in
          let some = some_constant c fine in (
            some.0,
            (
              value_of c,
              subst (λ n. HasBlob (blobs_of image) n (value_of c)) (sym at) (heaps.blobs is.value (value_of c) is.value_is.there),
              ap (λ e. constant_of e (value_of c)) typed ∙ some.1,
            ),
          )
