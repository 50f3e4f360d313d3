-- Rows of types: found by their cells, and kept as texts and rows are added.
use Rattle.std.proofs.Common.{◌≡◌, ap, refl, sym, ◌∙◌, subst, ℕ, zero, suc, ◌<◌, ◌⊎◌, inl, inr, ◌-◌, List, [], ◌∷◌, ◌++◌, Some, Ok, Err, Result, length, arith}
use Rattle.std.specs.Prelude.{slice_get, OnOk, OnErr}
use Rattle.std.proofs.lemmas.List.{append-nil, append_assoc}
use Rattle.heaps.specs.Heap.{Heap}
use Rattle.type_terms.specs.declared.name.TypeId.{TypeId}
use Rattle.image_tokens.specs.Rows.{IsRowAt, Lacks}
use Rattle.image_tokens.specs.Texts.{HoldsText, KeepsTexts}
use Rattle.image_tokens.specs.TypePaths.{IsTypeRow, Follows, last, on, GoesOn}
use Rattle.image_tokens.specs.declared.row_set.Cells.{Cells}

-- one row more, or none
pub goes_on : (old new : List Cells) (cells : Cells) → (new ≡ old) ⊎ ((new ≡ old ++ cells ∷ []) × Lacks old cells) → GoesOn old new
goes_on old new cells (inl e) = record { more = []; is = e ∙ sym (append-nil old) }
goes_on old new cells (inr e) = record { more = cells ∷ []; is = e.0 }

-- the cells of a row that has the id, once the indexes of its texts are known
pub declared_at : (strings : Heap) (rows : List Cells) (outer row : ℕ) (id : TypeId) (t : IsTypeRow strings rows outer id row)
    → IsRowAt rows (record { first = outer; second = t.cells.second; third = t.cells.third }) row
declared_at strings rows outer row id t =
    let whole : t.cells ≡ record { first = outer; second = t.cells.second; third = t.cells.third } = λ i. record { first = t.scope_is i; second = t.cells.second; third = t.cells.third } in
    subst (λ (x : Cells). IsRowAt rows x row) whole t.at

at_front : (xs ys : List Cells) (x : Cells) (k : ℕ) → slice_get xs k ≡ Some x → slice_get (xs ++ ys) k ≡ Some x
at_front [] ys x k h = absurd cc
at_front (z ∷ xs) ys x zero h = h
at_front (z ∷ xs) ys x (suc k) h = at_front xs ys x k h

-- a row stays where it is as rows are added
pub row_kept : (rows more : List Cells) (cells : Cells) (row : ℕ) → GoesOn rows more → IsRowAt rows cells row → IsRowAt more cells row
row_kept rows more cells row g at = record { counted = at.counted; at = rw g.is (at_front rows g.more cells (row - 1) at.at) }

pub text_kept : (old new : Heap) (text : List ℕ) (index : ℕ) → KeepsTexts old new → HoldsText old text index → HoldsText new text index
text_kept old new text index k h = record { there = k.texts index text h.there; used = k.used index h.used }

pub type_row_kept : (old new : Heap) (rows more : List Cells) (scope row : ℕ) (id : TypeId) → KeepsTexts old new → GoesOn rows more
    → IsTypeRow old rows scope id row → IsTypeRow new more scope id row
type_row_kept old new rows more scope row id k g t = record {
  cells = t.cells;
  at = record { counted = t.at.counted; at = rw g.is (at_front rows g.more t.cells (row - 1) t.at.at) };
  scope_is = t.scope_is;
  id_is = record { name_is = text_kept old new id.name t.cells.second k t.id_is.name_is; space_is = text_kept old new id.space t.cells.third k t.id_is.space_is };
}

pub keeps_trans : (a b c : Heap) → KeepsTexts a b → KeepsTexts b c → KeepsTexts a c
keeps_trans a b c p q = record { texts = λ i t h. q.texts i t (p.texts i t h); used = λ i h. q.used i (p.used i h) }

pub goes_on_trans : (a b c : List Cells) → GoesOn a b → GoesOn b c → GoesOn a c
goes_on_trans a b c p q = record { more = p.more ++ q.more; is = q.is ∙ ap (λ xs. xs ++ q.more) p.is ∙ append_assoc a p.more q.more }

-- ---- a whole path

pub follows_last : (strings : Heap) (rows : List Cells) (inner : ℕ → ℕ) (scope row : ℕ) (id : TypeId) (path rest : List TypeId) → path ≡ id ∷ rest → rest ≡ []
    → IsTypeRow strings rows scope id row → Follows strings rows inner scope path row
follows_last strings rows inner scope row id path rest is none t = last t (is ∙ ap (λ ids. id ∷ ids) none)

pub follows_on : (strings : Heap) (rows : List Cells) (inner : ℕ → ℕ) (scope row end : ℕ) (id : TypeId) (path rest : List TypeId) → path ≡ id ∷ rest
    → IsTypeRow strings rows scope id row → Follows strings rows inner (inner row) rest end → Follows strings rows inner scope path end
follows_on strings rows inner scope row end id path rest is t more = on t is more

-- a path stays where it leads as texts and rows are added
pub follows_kept : (old new : Heap) (rows more : List Cells) (inner : ℕ → ℕ) (scope end : ℕ) (path : List TypeId) → KeepsTexts old new → GoesOn rows more
    → Follows old rows inner scope path end → Follows new more inner scope path end
follows_kept old new rows more inner scope end path k g (last {row = row} {id = id} t is) = last (type_row_kept old new rows more scope row id k g t) is
follows_kept old new rows more inner scope end path k g (on {row = row} {id = id} {rest = rest} t is f) =
    on (type_row_kept old new rows more scope row id k g t) is (follows_kept old new rows more inner (inner row) end rest k g f)

-- what an addition leaves, whether it went well or not
pub goes_on_either : {E : Type 0} (old new : List Cells) (cells : Cells) (r : Result ℕ E) → OnOk r ((new ≡ old) ⊎ ((new ≡ old ++ cells ∷ []) × Lacks old cells)) → OnErr r (new ≡ old)
    → GoesOn old new
goes_on_either old new cells (Ok x) h e = goes_on old new cells h
goes_on_either old new cells (Err x) h e = goes_on old new cells (inl e)

-- ---- where a path leads

pub nil_by_length : {A : Type 0} (xs : List A) → length xs ≡ 0 → xs ≡ []
nil_by_length [] h = refl
nil_by_length (x ∷ xs) h = absurd (omega arith)

follows_some : (strings : Heap) (rows : List Cells) (inner : ℕ → ℕ) (scope end : ℕ) (path : List TypeId) → Follows strings rows inner scope path end → 0 < length path
follows_some strings rows inner scope end path (last t is) = omega (arith, ap length is)
follows_some strings rows inner scope end path (on t is f) = omega (arith, ap length is)

-- a path of one type leads to its row
pub follows_end : (strings : Heap) (rows : List Cells) (inner : ℕ → ℕ) (scope end : ℕ) (id : TypeId) (path rest : List TypeId) → path ≡ id ∷ rest → length rest ≡ 0
    → Follows strings rows inner scope path end → IsTypeRow strings rows scope id end
follows_end strings rows inner scope end id path rest whole none (last {id = i} t is) =
    let same : i ≡ id = cc in
    subst (λ (x : TypeId). IsTypeRow strings rows scope x end) same t
follows_end strings rows inner scope end id path rest whole none (on {row = row} {id = i} {rest = r} t is f) =
    let same : r ≡ rest = cc in
    let some = follows_some strings rows inner (inner row) end r f in
    absurd (omega (arith, ap length same))

-- a longer one leads through the row of its first type
pub follows_in : (strings : Heap) (rows : List Cells) (inner : ℕ → ℕ) (scope end : ℕ) (id : TypeId) (path rest : List TypeId) → path ≡ id ∷ rest → (length rest ≡ 0 → ⊥)
    → Follows strings rows inner scope path end → (row : ℕ) × IsTypeRow strings rows scope id row × Follows strings rows inner (inner row) rest end
follows_in strings rows inner scope end id path rest whole some (last {id = i} t is) =
    let none : rest ≡ [] = cc in
    absurd (some (ap length none))
follows_in strings rows inner scope end id path rest whole some (on {row = row} {id = i} {rest = r} t is f) =
    let same : i ≡ id = cc in
    let also : r ≡ rest = cc in
    (row, subst (λ (x : TypeId). IsTypeRow strings rows scope x row) same t, subst (λ (xs : List TypeId). Follows strings rows inner (inner row) xs end) also f)

pub follows_first : (strings : Heap) (rows : List Cells) (inner : ℕ → ℕ) (scope end : ℕ) (id : TypeId) (path rest : List TypeId) → path ≡ id ∷ rest
    → Follows strings rows inner scope path end → (row : ℕ) × IsTypeRow strings rows scope id row
follows_first strings rows inner scope end id path rest whole (last {id = i} t is) =
    let same : i ≡ id = cc in
    (end, subst (λ (x : TypeId). IsTypeRow strings rows scope x end) same t)
follows_first strings rows inner scope end id path rest whole (on {row = row} {id = i} {rest = r} t is f) =
    let same : i ≡ id = cc in
    (row, subst (λ (x : TypeId). IsTypeRow strings rows scope x row) same t)
