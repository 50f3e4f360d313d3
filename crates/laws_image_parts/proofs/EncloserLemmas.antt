-- The enclosers of types as the image tells them, and the types in each.
use Rattle.std.proofs.Common.{◌≡◌, ap, refl, sym, ◌∙◌, subst, ℕ, ◌+◌, ◌-◌, ◌==◌, Bool, true, false, cond, List, [], ◌∷◌, length, Some, arith, ⊎_elim}
use Rattle.std.specs.Prelude.{slice_get, slice_index, find, filter}
use Rattle.std.specs.Option.{option_map_or}
use Rattle.std.proofs.lemmas.Bool.{eqb-true}
use Rattle.std.specs.List.{AllByRecursion, AllZip, range_with_len}
use Rattle.assembly_tree.specs.declared.assembly.Assembly.{Assembly}
use Rattle.assembly_tree.specs.declared.typedef.TypeDef.{TypeDef}
use Rattle.assembly_tree.specs.declared.typedef.TypeDef.TheViews.{out-TypeDef}
use Rattle.body_codec.specs.Names.{NameMap}
use Rattle.image_tokens.specs.declared.references.References.{References}
use Rattle.image_rows.specs.ClassRows.{class_rows, nested_rows, encloser_rows}
use Rattle.image_members.specs.Classes.{AreClasses}
use Rattle.image_members.specs.declared.classes.Class.{Class}
use Rattle.image_model.specs.Columns.{nested_class, enclosing_class}
use Rattle.image_model.specs.Reading.{IsTypeButNested, AreTypes, made, none, more}
use Rattle.image_model.specs.Rows.{count_of, rows_of, rows_with, enclosing, types_in}
use Rattle.laws_image_parts.specs.AtRows.{AtEach, IsItem}
use Rattle.laws_image_parts.specs.NestingRead.{AreEnclosed}
use Rattle.laws_image_parts.specs.RowCells.{nested_cells}
use Rattle.laws_image_parts.specs.RowsRead.{IsMade, row_itself, ReadsTypes}
use Rattle.laws_image_parts.proofs.GroupLemmas.{has_key, made_at, none_made}
use Rattle.laws_image_parts.proofs.NestingLemmas.{types_found}
use Rattle.laws_image_parts.proofs.OwnedLemmas.{reads_with}

-- the first that passes is the first of all that pass
find_is : (f : ℕ → Bool) (rows : List ℕ) (first : ℕ → ℕ) → option_map_or first (find f rows) 0 ≡ option_map_or first (slice_get (filter f rows) 0) 0
find_is f [] first = refl
find_is f (row ∷ rows) first = by_test (f row) (find_is f rows first)
  where
    by_test : (b : Bool) → option_map_or first (find f rows) 0 ≡ option_map_or first (slice_get (filter f rows) 0) 0
        → option_map_or first (cond b (Some row) (find f rows)) 0 ≡ option_map_or first (slice_get (cond b (row ∷ filter f rows) (filter f rows)) 0) 0
    by_test true e = refl
    by_test false e = e

module _ (a : Assembly) (classes : List Class) (r : References) (image : List ℕ) (h : ReadsTypes a classes r image) where
  abbrev IsNested : ℕ → List ℕ → Type 0
  IsNested row cells = IsMade row_itself (nested_cells image row) cells × IsItem (class_rows nested_rows classes) row cells

  abbrev key : List ℕ → ℕ
  key cells = slice_index cells 0

  found : (v : ℕ) → AllZip IsNested (rows_with image 0x29 nested_class v) (filter (has_key key v) (class_rows nested_rows classes))
  found v = reads_with 0x29 nested_cells (IsMade row_itself) (class_rows nested_rows classes) image h.nested nested_class v (has_key key v)
      (λ j cells is. ap (λ (cs : List ℕ). slice_index cs 0 == v) is)

  nested_keyed : (row : ℕ) (c : Class) → AllByRecursion (λ cells. key cells ≡ row) (nested_rows (row, c))
  nested_keyed row c = by_test (c.encloser == 0)
    where
      by_test : (b : Bool) → AllByRecursion (λ cells. key cells ≡ row) (cond b [] ((row ∷ c.encloser ∷ []) ∷ []))
      by_test true = tt
      by_test false = (refl, tt)

  -- the encloser of a type, by the rows that are the type's
  encloser_by : (v encloser : ℕ) (rows : List ℕ) → rows_with image 0x29 nested_class v ≡ rows
      → option_map_or (enclosing_class image) (slice_get rows 0) 0 ≡ encloser → enclosing image v ≡ encloser
  unfolding enclosing rows_with
  encloser_by v encloser rows e is =
      find_is (λ row. nested_class image row == v) (rows_of image 0x29) (enclosing_class image)
      ∙ ap (λ (rs : List ℕ). option_map_or (enclosing_class image) (slice_get rs 0) 0) e ∙ is

  read_encloser : (row encloser : ℕ) (rows : List ℕ) → AllZip IsNested rows (encloser_rows row encloser) → option_map_or (enclosing_class image) (slice_get rows 0) 0 ≡ encloser
  read_encloser row encloser rows p = by_test (encloser == 0) refl rows p
    where
      by_test : (b : Bool) → (encloser == 0) ≡ b → (rs : List ℕ) → AllZip IsNested rs (cond b [] ((row ∷ encloser ∷ []) ∷ []))
          → option_map_or (enclosing_class image) (slice_get rs 0) 0 ≡ encloser
      by_test true e [] q = sym (eqb-true encloser 0 e)
      by_test true e (k ∷ ks) q = absurd q
      by_test false e [] q = absurd q
      by_test false e (k ∷ ks) q = ap (λ (cs : List ℕ). slice_index cs 1) q.0.0

  nothing : (rows : List ℕ) (xs : List (List ℕ)) → xs ≡ [] → AllZip IsNested rows xs → option_map_or (enclosing_class image) (slice_get rows 0) 0 ≡ 0
  nothing [] xs e p = refl
  nothing (k ∷ ks) [] e p = absurd p
  nothing (k ∷ ks) (x ∷ xs) e p = absurd cc

  pub are_enclosed : AreEnclosed classes image
  are_enclosed = record {
    count = h.types.count;
    module_row = encloser_by 1 0 (rows_with image 0x29 nested_class 1) refl
        (nothing (rows_with image 0x29 nested_class 1) _ (none_made nested_rows key nested_keyed 2 1 classes (omega arith)) (found 1));
    each = λ k c at.
        encloser_by (2 + k) c.encloser (rows_with image 0x29 nested_class (2 + k)) refl
        (read_encloser (2 + k) c.encloser (rows_with image 0x29 nested_class (2 + k))
        (subst (AllZip IsNested (rows_with image 0x29 nested_class (2 + k))) (made_at nested_rows key nested_keyed 2 k classes c at) (found (2 + k))));
  }

pub types_nested : (a : Assembly) (classes : List Class) (names : NameMap) (image : List ℕ) → AreClasses 0 2 a.types classes → AreEnclosed classes image
    → AtEach (λ type c. IsTypeButNested image names type (out-TypeDef c.of.now)) 2 classes → AreTypes image names (types_in image 0) a.types
unfolding types_in
types_nested a classes names image are h each =
    let count : count_of image 0x02 - 1 ≡ length classes = (let e = h.count in omega arith) in
    let inside : ℕ → ℕ → List ℕ = (λ n v. filter (λ q. enclosing image q == v) (range_with_len 2 n)) in
    let cons : (row : ℕ) (rows : List ℕ) (t : TypeDef) (ts : List TypeDef) → IsTypeButNested image names row (out-TypeDef t)
    → AreTypes image names (filter (λ q. enclosing image q == row) (range_with_len 2 (length classes))) (out-TypeDef t).nested
    → AreTypes image names rows ts → AreTypes image names (row ∷ rows) (t ∷ ts) =
    (λ row rows t ts is nested rest. more (made is (subst (λ n. AreTypes image names (inside n row) (out-TypeDef t).nested) (sym count) nested)) rest) in
    subst (λ n. AreTypes image names (inside n 0) a.types) (sym count)
    (types_found (enclosing image) (length classes) (AreTypes image names) (λ row t. IsTypeButNested image names row (out-TypeDef t)) none cons
    0 2 a.types classes are (omega arith) (omega arith) (omega arith) h.each each (λ q low high out. absurd (⊎_elim (λ b. omega arith) (λ b. omega arith) out)))
