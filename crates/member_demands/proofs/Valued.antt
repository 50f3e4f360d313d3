-- What is asked of the rows that belong to one owner, where they stand side by side.
use Rattle.std.proofs.Common.{◌≡◌, ℕ, zero, suc, ◌+◌, ◌*◌, ◌<◌, ◌≤◌, List, [], ◌∷◌, Some, length, refl, sym, ◌∙◌, ap, subst, arith}
use Rattle.std.specs.Prelude.{◌↔◌, All, Contains, slice_get}
use Rattle.std.specs.List.{range_with_len}
use Rattle.std.proofs.lemmas.List.FromFn.{length-range_with_len, get_or-range_with_len}
use Rattle.std.proofs.lemmas.Option.{slice_get_within, get_or_from_slice_get, slice_get-get_or}
use Rattle.metadata_tables.specs.CodedIndex.{tag_of}
use Rattle.metadata_tables.specs.declared.coded.Coded.TheVariants.{TypeOrMethodDef}
use Rattle.image_model.specs.Columns.{generic_number, layout_pack, semantics_kind}
use Rattle.image_model.specs.Members.{HasGenerics, generics_of, HasLayout, layouts_of, packings, HasKinds, semantics_of}
use Rattle.image_model.specs.Rows.{index_of}
use Rattle.member_demands.specs.Groups.{AreNumbered}

-- ---- generic parameters

pub type_index : (row : ℕ) → index_of TypeOrMethodDef 0x02 row ≡ row * 2
unfolding tag_of
type_index row = omega arith

pub method_index : (row : ℕ) → index_of TypeOrMethodDef 0x06 row ≡ row * 2 + 1
unfolding tag_of
method_index row = refl

at_range : (first count k parameter : ℕ) → slice_get (range_with_len first count) k ≡ Some parameter → (k < count) × (parameter ≡ first + k)
at_range first count k parameter e =
    let w = slice_get_within (range_with_len first count) k parameter e in
    let l = length-range_with_len first count in
    let less : k < count = omega arith in
    (less, sym (get_or_from_slice_get (range_with_len first count) k parameter 0 e) ∙ get_or-range_with_len first count k 0 less)

range_at : (first count k : ℕ) → k < count → slice_get (range_with_len first count) k ≡ Some (first + k)
range_at first count k less =
    slice_get-get_or (range_with_len first count) k 0 (let l = length-range_with_len first count in omega arith) ∙ ap Some (get_or-range_with_len first count k 0 less)

pub generics_told : (image : List ℕ) (table row first count : ℕ) → generics_of image table row ≡ range_with_len first count
    → ((count ≤ 65535) × AreNumbered image first count) ↔ HasGenerics image table row
generics_told image table row first count rows =
    let l : length (generics_of image table row) ≡ count = ap length rows ∙ length-range_with_len first count in (
      λ h. record {
        numbered = λ k parameter at.
            let a = at_range first count k parameter (ap (λ rs. slice_get rs k) (sym rows) ∙ at) in
            ap (generic_number image) a.1 ∙ h.1 k a.0;
        few = let f = h.0 in omega arith;
      },
      λ h. (let f = h.few in omega arith, λ k less. h.numbered k (first + k) (ap (λ rs. slice_get rs k) rows ∙ range_at first count k less)),
    )

-- ---- layouts

pub layout_none : (image : List ℕ) (type first count : ℕ) → layouts_of image type ≡ range_with_len first count → count ≡ 0 → HasLayout image type
layout_none image type first count rows none =
    let empty : layouts_of image type ≡ [] = rows ∙ ap (range_with_len first) none in
    record {
      one = let l = ap length empty in omega arith;
      not_module = λ e. empty;
      packing = subst (All (λ k. Contains packings (layout_pack image k))) (sym empty) (λ k d less. absurd (omega arith));
    }

pub layout_many : (image : List ℕ) (type first count : ℕ) → layouts_of image type ≡ range_with_len first count → 1 < count → HasLayout image type → ⊥
layout_many image type first count rows many h =
    let l : length (layouts_of image type) ≡ count = ap length rows ∙ length-range_with_len first count in
    let o = h.one in
    absurd (omega arith)

pub layout_one : (image : List ℕ) (type first count : ℕ) → layouts_of image type ≡ range_with_len first count → count ≡ 1
    → ((type ≡ 1 → ⊥) × Contains packings (layout_pack image first)) ↔ HasLayout image type
layout_one image type first count rows one =
    let is : layouts_of image type ≡ first ∷ [] = rows ∙ ap (range_with_len first) one in (
      λ h. record {
        one = let l : length (layouts_of image type) ≡ 1 = ap length is in omega arith;
        not_module = λ e. absurd (h.0 e);
        packing = subst (All (λ k. Contains packings (layout_pack image k))) (sym is) (single image first h.1);
      },
      λ h. (
        λ e. let l : length (first ∷ []) ≡ 0 = ap length (sym is ∙ h.not_module e) in absurd (omega arith),
        subst (All (λ k. Contains packings (layout_pack image k))) is h.packing 0 0 (omega arith),
      ),
    ) where
      single : (image : List ℕ) (first : ℕ) → Contains packings (layout_pack image first) → All (λ k. Contains packings (layout_pack image k)) (first ∷ [])
      single image first h zero d less = h
      single image first h (suc k) d less = absurd (omega arith)

-- ---- kinds of accessors

all_in_range : (P : ℕ → Type 0) (first count : ℕ) → All P (range_with_len first count) ↔ ((k : ℕ) → k < count → P (first + k))
all_in_range P first count =
    let l = length-range_with_len first count in (
      λ all k less. subst P (get_or-range_with_len first count k 0 less) (all k 0 (omega arith)),
      λ each k d less. subst P (sym (get_or-range_with_len first count k d (omega arith))) (each k (omega arith)),
    )

pub kinds_told : (image kinds : List ℕ) (table row first count : ℕ) → semantics_of image table row ≡ range_with_len first count
    → ((k : ℕ) → k < count → Contains kinds (semantics_kind image (first + k))) ↔ HasKinds image kinds table row
kinds_told image kinds table row first count rows =
    let r = all_in_range (λ k. Contains kinds (semantics_kind image k)) first count in (
      λ each. subst (All (λ k. Contains kinds (semantics_kind image k))) (sym rows) (r.1 each),
      λ all. r.0 (subst (All (λ k. Contains kinds (semantics_kind image k))) rows all),
    )
