-- Rows of declared types, some after others.
use Rattle.std.proofs.Common.{◌≡◌, ◌⊎◌, inl, inr, ap, refl, sym, ◌∙◌, subst, ℕ, zero, suc, ◌+◌, ◌-◌, ◌<◌, ◌≤◌, ◌^◌, List, [], ◌∷◌, ◌++◌, map, length, Some, Result, Ok, Err, arith}
use Rattle.std.specs.Prelude.{slice_get, sum_by, IfOk, OnOk}
use Rattle.std.specs.List.{AllByRecursion}
use Rattle.std.proofs.lemmas.List.{append-nil, append_assoc, length-append}
use Rattle.std.proofs.lemmas.List.Sums.{sum_by-cons}
use Rattle.std.proofs.lemmas.Option.{slice_get_within}
use Rattle.heaps.specs.Content.{HasText}
use Rattle.heaps.specs.Heap.{Heap}
use Rattle.type_terms.specs.declared.name.TypeId.{TypeId}
use Rattle.image_members.specs.Declaring.{Place, class_id, class_place, class_size, module_place, places, AreApart, HoldsPlace, AreDeclared, Declares, IsDeclaring}
use Rattle.image_tokens.specs.Rows.{IsRowAt, Lacks}
use Rattle.image_tokens.specs.Texts.{KeepsTexts, IsPlainId, HoldsId, id_size}
use Rattle.image_members.specs.declared.classes.Class.{Class}
use Rattle.image_tokens.specs.declared.row_set.Cells.{Cells}
use Rattle.image_tokens.proofs.ChainLemmas.{snoc_old, snoc_new}
use Rattle.image_tokens.proofs.LoadedLemmas.{front}
use Rattle.image_tokens.proofs.PathLemmas.{text_kept, keeps_trans}
use Rattle.image_members.proofs.ZipLemmas.{zip_both, zip_at, zip_long, zip_later}

-- at most one text stands at an index
abbrev pub OneText : Type 0
OneText = (heap : List ℕ) (index : ℕ) (text other : List ℕ) → HasText heap index text → HasText heap index other → text ≡ other

-- ---- one place

pub place_kept : (old new : Heap) → KeepsTexts old new → (cells : Cells) (p : Place) → HoldsPlace old cells p → HoldsPlace new cells p
place_kept old new k cells p h = record {
  encloser_is = h.encloser_is;
  id_is = record { name_is = text_kept old new p.id.name cells.second k h.id_is.name_is; space_is = text_kept old new p.id.space cells.third k h.id_is.space_is };
}

-- the cells of a row tell its place
one_place : OneText → (strings : Heap) (cells : Cells) (p q : Place) → HoldsPlace strings cells p → HoldsPlace strings cells q → p ≡ q
one_place one strings cells p q h g =
    let encloser : p.encloser ≡ q.encloser = sym h.encloser_is ∙ g.encloser_is in
    let name = one strings.bytes cells.second p.id.name q.id.name h.id_is.name_is.there g.id_is.name_is.there in
    let space = one strings.bytes cells.third p.id.space q.id.space h.id_is.space_is.there g.id_is.space_is.there in
    λ i. record { encloser = encloser i; id = record { space = space i; name = name i } }

-- it isn't among those before
not_before : (before : List Place) (p : Place) → AreApart (before ++ p ∷ []) → (k : ℕ) → slice_get before k ≡ Some p → ⊥
not_before before p apart k at =
    let same = apart k (length before) p (snoc_old before p p k at) (snoc_new before p (length before) refl) in
    let within = slice_get_within before k p at in
    omega arith

module _ (one : OneText) (old new : Heap) (rows more : List Cells) (cells : Cells) (p : Place) (row : ℕ) (keeps : KeepsTexts old new) (holds : HoldsPlace new cells p) (at : IsRowAt more cells row) where
  declared_new : (before : List Place) → AreApart (before ++ p ∷ []) → AreDeclared old rows before → (more ≡ rows) ⊎ ((more ≡ rows ++ cells ∷ []) × Lacks rows cells)
      → AreDeclared new more (before ++ p ∷ [])
  declared_new before apart d (inl same) =
      let now = zip_later (HoldsPlace old) (HoldsPlace new) rows before (place_kept old new keeps) d in
      let there : slice_get rows (row - 1) ≡ Some cells = subst (λ xs. slice_get xs (row - 1) ≡ Some cells) same at.at in
      let other = zip_at (HoldsPlace new) rows before (row - 1) cells now there in
      absurd (not_before before p apart (row - 1) (other.1 ∙ ap Some (one_place one new cells other.0 p other.2 holds)))
  declared_new before apart d (inr added) =
      let now = zip_later (HoldsPlace old) (HoldsPlace new) rows before (place_kept old new keeps) d in
      subst (λ xs. AreDeclared new xs (before ++ p ∷ [])) (sym added.0) (zip_both (HoldsPlace new) rows (cells ∷ []) before (p ∷ []) now (holds, tt))

  rows_more : (more ≡ rows) ⊎ ((more ≡ rows ++ cells ∷ []) × Lacks rows cells) → length more ≤ length rows + 1
  rows_more (inl same) = omega (arith, ap (length {A = Cells}) same)
  rows_more (inr added) = omega (arith, ap (length {A = Cells}) added.0 ∙ length-append rows (cells ∷ []))

  pub declares_one : (size : ℕ) → length new.bytes ≤ length old.bytes + size → (more ≡ rows) ⊎ ((more ≡ rows ++ cells ∷ []) × Lacks rows cells) → Declares (p ∷ []) size old new rows more
  declares_one size fits kept = record { declared = λ before apart d. declared_new before apart d kept; keeps = keeps; size-is = fits; count = rows_more kept }

-- ---- more

pub declares_none : (strings : Heap) (rows : List Cells) → Declares [] 0 strings strings rows rows
declares_none strings rows = record {
  declared = λ before apart d. subst (λ ps. AreDeclared strings rows ps) (sym (append-nil before)) d;
  keeps = record { texts = λ i t h. h; used = λ i h. h };
  size-is = omega arith;
  count = omega arith;
}

apart_front : (ps qs : List Place) → AreApart (ps ++ qs) → AreApart ps
apart_front ps qs apart j k p at also = apart j k p (front ps qs p j at) (front ps qs p k also)

pub declares_both : (ps qs : List Place) (m n : ℕ) (s0 s1 s2 : Heap) (r0 r1 r2 : List Cells) → Declares ps m s0 s1 r0 r1 → Declares qs n s1 s2 r1 r2 → Declares (ps ++ qs) (m + n) s0 s2 r0 r2
declares_both ps qs m n s0 s1 s2 r0 r1 r2 a b = record {
  declared = λ before apart d.
      let whole : AreApart ((before ++ ps) ++ qs) = subst AreApart (sym (append_assoc before ps qs)) apart in
      subst (λ xs. AreDeclared s2 r2 xs) (append_assoc before ps qs) (b.declared (before ++ ps) whole (a.declared before (apart_front (before ++ ps) qs whole) d));
  keeps = keeps_trans s0 s1 s2 a.keeps b.keeps;
  size-is = (let p = a.size-is in let q = b.size-is in omega arith);
  count = (let p = a.count in let q = b.count in let both = length-append ps qs in omega arith);
}

-- ---- classes in turn

abbrev pub ArePlain : List Class → Type 0
ArePlain cs = AllByRecursion (λ c. IsPlainId (class_id c)) cs

-- those before `rest` are declared
pub record DeclaresTo (s0 s1 : Heap) (r0 r1 : List Cells) (cs rest : List Class) : Type 0 where
  pub on : (s2 : Heap) (r2 : List Cells) → Declares (map class_place rest) (sum_by class_size rest) s1 s2 r1 r2
      → Declares (map class_place cs) (sum_by class_size cs) s0 s2 r0 r2
  pub room : length s1.bytes + sum_by class_size rest + 8 < 2 ^ 29
  pub few : length r1 + length rest < 2 ^ 24 - 1
  pub plain : ArePlain rest

pub declares_begin : (s : Heap) (r : List Cells) (cs : List Class) → length s.bytes + sum_by class_size cs + 8 < 2 ^ 29 → length r + length cs < 2 ^ 24 - 1 → ArePlain cs
    → DeclaresTo s s r r cs cs
declares_begin s r cs room few plain = record { on = λ s2 r2 h. h; room = room; few = few; plain = plain }

pub declares_plain : (s0 s1 : Heap) (r0 r1 : List Cells) (cs rest more : List Class) (c : Class) → rest ≡ c ∷ more → DeclaresTo s0 s1 r0 r1 cs rest → IsPlainId (class_id c)
declares_plain s0 s1 r0 r1 cs rest more c e d = (subst ArePlain e d.plain).0

pub declares_room : (s0 s1 : Heap) (r0 r1 : List Cells) (cs rest more : List Class) (c : Class) → rest ≡ c ∷ more → DeclaresTo s0 s1 r0 r1 cs rest
    → length s1.bytes + id_size (class_id c) + 8 < 2 ^ 29
declares_room s0 s1 r0 r1 cs rest more c e d =
    let all = ap (sum_by class_size) e ∙ sum_by-cons class_size c more in
    let room = d.room in
    omega arith

pub declares_few : (s0 s1 : Heap) (r0 r1 : List Cells) (cs rest more : List Class) (c : Class) → rest ≡ c ∷ more → DeclaresTo s0 s1 r0 r1 cs rest → length r1 < 2 ^ 24 - 1
declares_few s0 s1 r0 r1 cs rest more c e d = let few = d.few in omega arith

pub declares_on : (s0 s1 s2 : Heap) (r0 r1 r2 : List Cells) (cs rest more : List Class) (c : Class) → rest ≡ c ∷ more → DeclaresTo s0 s1 r0 r1 cs rest
    → Declares (class_place c ∷ []) (id_size (class_id c)) s1 s2 r1 r2 → DeclaresTo s0 s2 r0 r2 cs more
declares_on s0 s1 s2 r0 r1 r2 cs rest more c e d one =
    let all = ap (sum_by class_size) e ∙ sum_by-cons class_size c more in
    let long = ap (length {A = Class}) e in
    record {
      on = λ s3 r3 h.
          let both = declares_both (class_place c ∷ []) (map class_place more) (id_size (class_id c)) (sum_by class_size more) s1 s2 s3 r1 r2 r3 one h in
          d.on s3 r3 (subst (λ (n : ℕ). Declares (map class_place rest) n s1 s3 r1 r3) (sym all)
          (subst (λ (xs : List Class). Declares (map class_place xs) (id_size (class_id c) + sum_by class_size more) s1 s3 r1 r3) (sym e) both));
      room = (let room = d.room in let size = one.size-is in omega arith);
      few = (let few = d.few in let count = one.count in omega arith);
      plain = (subst ArePlain e d.plain).1;
    }

pub declares_end : (s0 s1 : Heap) (r0 r1 : List Cells) (cs rest : List Class) → rest ≡ [] → DeclaresTo s0 s1 r0 r1 cs rest
    → Declares (map class_place cs) (sum_by class_size cs) s0 s1 r0 r1
declares_end s0 s1 r0 r1 cs rest e d =
    d.on s1 r1 (subst (λ (xs : List Class). Declares (map class_place xs) (sum_by class_size xs) s1 s1 r1 r1) (sym e) (declares_none s1 r1))

-- ---- all

pub declares_all : (cs : List Class) (s0 s1 s2 : Heap) (r0 r1 r2 : List Cells) → r0 ≡ [] → AreApart (places cs) → Declares (module_place ∷ []) 10 s0 s1 r0 r1
    → Declares (map class_place cs) (sum_by class_size cs) s1 s2 r1 r2 → IsDeclaring cs s0 s2 r2
declares_all cs s0 s1 s2 r0 r1 r2 e apart a b =
    let both = declares_both (module_place ∷ []) (map class_place cs) 10 (sum_by class_size cs) s0 s1 s2 r0 r1 r2 a b in
    record { declared = both.declared [] apart (subst (λ (xs : List Cells). AreDeclared s0 xs []) (sym e) tt); keeps = both.keeps; size-is = both.size-is }
