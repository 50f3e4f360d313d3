-- The generic parameters and the layouts of types, and the generic parameters of methods.
use Rattle.std.proofs.Common.{◌≡◌, ap, refl, sym, ◌∙◌, subst, ℕ, zero, suc, ◌+◌, ◌≤◌, ◌==◌, List, [], ◌∷◌, All, Contains, length, Option, Some, None, inl, inr, arith}
use Rattle.std.specs.Prelude.{IsTrue, ◌⊎◌, slice_get, slice_index}
use Rattle.std.specs.List.{AllByRecursion, AllZip, enumerate_from, filter}
use Rattle.std.proofs.lemmas.Bool.{or_cases, eqb-true}
use Rattle.std.proofs.lemmas.List.Elements.{All-from_recursion}
use Rattle.metadata_tables.specs.CodedIndex.{tag_of}
use Rattle.metadata_tables.specs.declared.coded.Coded.TheVariants.{TypeOrMethodDef}
use Rattle.assembly_tree.specs.WellFormedTypes.{is_layout, is_pack}
use Rattle.assembly_tree.specs.declared.assembly.Assembly.{Assembly}
use Rattle.assembly_tree.specs.declared.members.Generic.{Generic}
use Rattle.assembly_tree.specs.declared.typedef.Layout.{Layout}
use Rattle.image_tokens.specs.Indexes.{index_of}
use Rattle.image_tokens.specs.declared.references.References.{References}
use Rattle.image_members.specs.GenericRows.{IsGenericRow}
use Rattle.image_members.specs.Lists.{generic_lists, generic_items, generics_in, longest_of}
use Rattle.image_members.specs.declared.classes.Class.{Class}
use Rattle.image_model.specs.Columns.{generic_owner, layout_pack, layout_parent}
use Rattle.image_model.specs.Members.{HasGenerics, HasLayout, generics_of, layouts_of, packings}
use Rattle.image_model.specs.Rows.{HasRow, count_of, rows_with}
use Rattle.laws_image_parts.specs.AtRows.{IsItem}
use Rattle.laws_image_parts.specs.ItemRows.{LayoutOf, stated}
use Rattle.laws_image_parts.specs.OwnedRows.{GenericsOf}
use Rattle.laws_image_parts.specs.RowCells.{generic_cells, layout_cells}
use Rattle.laws_image_parts.specs.RowsRead.{ReadsOwned}
use Rattle.laws_image_parts.proofs.ByNumberLemmas.{HaveTags, owns, own_items}
use Rattle.laws_image_parts.proofs.CellLemmas.{zip_long}
use Rattle.laws_image_parts.proofs.OwnedLemmas.{reads_with}
use Rattle.laws_image_parts.proofs.names.General.{get_some, zip_beside}
use Rattle.laws_image_reading.proofs.members.Lists.{zip_left, zip_none, stated_one, number_at, numbered_long}

-- a row of TypeDef is that of `<Module>`, or of a class
pub type_row : (image : List ℕ) (classes : List Class) (row : ℕ) → count_of image 0x02 ≡ 1 + length classes → HasRow image 0x02 row
    → (row ≡ 1) ⊎ ((k : ℕ) × (c : Class) × (slice_get classes k ≡ Some c) × (2 + k ≡ row))
type_row image classes zero count there = absurd (let some = there.0 in omega arith)
type_row image classes (suc zero) count there = inl refl
type_row image classes (suc (suc k)) count there =
    let high = there.1 in
    let found = get_some classes k (omega arith) in
    inr (k, found.0, found.1, omega arith)

-- ---- generic parameters

pub generics_fit : (a : Assembly) (classes : List Class) (r : References) (image : List ℕ) (table row : ℕ) (gs : List Generic) → GenericsOf a classes r image table row gs
    → length gs ≤ 65535 → HasGenerics image table row
generics_fit a classes r image table row gs h few =
    let R : ℕ → ℕ × Generic → Type 0 = (λ k x. IsGenericRow r (generic_cells image k) (index_of TypeOrMethodDef table row, x) × IsItem (generics_in a classes) k x.1) in
    let long = zip_long R (generics_of image table row) (enumerate_from 0 gs) h in
    let all = numbered_long 0 gs in
    record {
      numbered = λ k parameter at.
          let beside = zip_beside R (generics_of image table row) (enumerate_from 0 gs) k parameter h at in
          ap (λ (cs : List ℕ). slice_index cs 0) beside.2.0.are ∙ number_at 0 gs k beside.0 beside.1 ∙ (let none : 0 + k ≡ k = omega arith in none);
      few = omega arith;
    }

pub generics_count : (a : Assembly) (classes : List Class) (r : References) (image : List ℕ) (table row : ℕ) (gs : List Generic) → GenericsOf a classes r image table row gs
    → length (generics_of image table row) ≡ length gs
generics_count a classes r image table row gs h =
    let R : ℕ → ℕ × Generic → Type 0 = (λ k x. IsGenericRow r (generic_cells image k) (index_of TypeOrMethodDef table row, x) × IsItem (generics_in a classes) k x.1) in
    zip_long R (generics_of image table row) (enumerate_from 0 gs) h ∙ numbered_long 0 gs

-- `<Module>` has none
no_generics : (a : Assembly) (classes : List Class) (r : References) (image : List ℕ) → ReadsOwned a classes r image → generics_of image 0x02 1 ≡ []
unfolding tag_of
no_generics a classes r image h =
    let lists = generic_lists a classes in
    let v = index_of TypeOrMethodDef 0x02 (0 + 1) in
    let P : ℕ → ℕ × (ℕ × Generic) → Type 0 = (λ j x. IsGenericRow r (generic_cells image j) x × IsItem (generic_items a classes) j x) in
    let tags : HaveTags TypeOrMethodDef lists = ((0, refl), ((1, refl), tt)) in
    let found = reads_with 0x2A generic_cells (IsGenericRow r) (generic_items a classes) image h.generics generic_owner v (owns v)
    (λ j x is. ap (λ n. n == v) (ap (λ (cs : List ℕ). slice_index cs 2) is.are)) in
    let none : filter (owns v) (generic_items a classes) ≡ [] = own_items TypeOrMethodDef 0x02 0 (0, refl) lists tags refl (longest_of lists) (omega arith) in
    zip_none P (generics_of image 0x02 1) (subst (AllZip P (generics_of image 0x02 1)) none found)

pub module_generics : (a : Assembly) (classes : List Class) (r : References) (image : List ℕ) → ReadsOwned a classes r image → HasGenerics image 0x02 1
module_generics a classes r image h =
    let none = no_generics a classes r image h in
    record {
      numbered = λ k parameter at. absurd (no_place (generics_of image 0x02 1) k parameter none at);
      few = let long : length (generics_of image 0x02 1) ≡ 0 = ap (length {A = ℕ}) none in omega arith;
    }
  where
    no_place : (xs : List ℕ) (k x : ℕ) → xs ≡ [] → slice_get xs k ≡ Some x → ⊥
    no_place [] k x e at = cc
    no_place (y ∷ xs) k x e at = cc

-- ---- layouts

pack_among : (n : ℕ) → IsTrue (is_pack n) → Contains packings n
pack_among n h = elim (or_cases _ (n == 128) h) [
  | inr e ↦ (8, omega arith, sym (eqb-true n 128 e))
  | inl h ↦ elim (or_cases _ (n == 64) h) [
    | inr e ↦ (7, omega arith, sym (eqb-true n 64 e))
    | inl h ↦ elim (or_cases _ (n == 32) h) [
      | inr e ↦ (6, omega arith, sym (eqb-true n 32 e))
      | inl h ↦ elim (or_cases _ (n == 16) h) [
        | inr e ↦ (5, omega arith, sym (eqb-true n 16 e))
        | inl h ↦ elim (or_cases _ (n == 8) h) [
          | inr e ↦ (4, omega arith, sym (eqb-true n 8 e))
          | inl h ↦ elim (or_cases _ (n == 4) h) [
            | inr e ↦ (3, omega arith, sym (eqb-true n 4 e))
            | inl h ↦ elim (or_cases _ (n == 2) h) [
              | inr e ↦ (2, omega arith, sym (eqb-true n 2 e))
              | inl h ↦ elim (or_cases (n == 0) (n == 1) h) [
                | inr e ↦ (1, omega arith, sym (eqb-true n 1 e))
                | inl e ↦ (0, omega arith, sym (eqb-true n 0 e))
              ]
            ]
          ]
        ]
      ]
    ]
  ]
]

packs : (o : Option Layout) → IsTrue (is_layout o) → AllByRecursion (λ (l : Layout). Contains packings l.pack) (stated o)
packs None h = tt
packs (Some l) h = (pack_among l.pack h, tt)

pub layout_fits : (image : List ℕ) (k : ℕ) (o : Option Layout) → LayoutOf image (2 + k) o → IsTrue (is_layout o) → HasLayout image (2 + k)
layout_fits image k o h formed =
    let R : ℕ → Layout → Type 0 = (λ j l. layout_cells image j ≡ l.pack ∷ l.size ∷ (2 + k) ∷ []) in
    let long = zip_long R (layouts_of image (2 + k)) (stated o) h in
    let few = stated_one o in
    record {
      one = omega arith;
      not_module = λ e. absurd (omega arith);
      packing = All-from_recursion (λ j. Contains packings (layout_pack image j)) (layouts_of image (2 + k))
          (zip_left R (λ (l : Layout). Contains packings l.pack) (λ j. Contains packings (layout_pack image j))
          (λ j l is has. subst (Contains packings) (sym (ap (λ (cs : List ℕ). slice_index cs 0) is)) has) (layouts_of image (2 + k)) (stated o) h (packs o formed));
    }

pub no_layout_fits : (image : List ℕ) → rows_with image 0x0F layout_parent 1 ≡ [] → HasLayout image 1
no_layout_fits image none =
    let long : length (layouts_of image 1) ≡ 0 = ap (length {A = ℕ}) none in
    record {
      one = omega arith;
      not_module = λ e. none;
      packing = subst (λ (rows : List ℕ). All (λ j. Contains packings (layout_pack image j)) rows) (sym none) (All-from_recursion (λ j. Contains packings (layout_pack image j)) [] tt);
    }
