-- Rows of which each is what it should be, as rows, texts and names come.
use Rattle.std.proofs.Common.{◌≡◌, ◌⊎◌, inl, inr, ap, refl, sym, ◌∙◌, subst, ℕ, List, [], ◌∷◌, ◌++◌, Some, Result, Ok, Err}
use Rattle.std.specs.Prelude.{slice_get, OnOk, OnErr}
use Rattle.std.proofs.lemmas.List.{append_assoc}
use Rattle.heaps.specs.Heap.{Heap}
use Rattle.type_terms.specs.declared.name.Scope.TheVariants.{Extern}
use Rattle.type_terms.specs.declared.name.TypeId.{TypeId}
use Rattle.type_terms.specs.declared.name.TypeName.{TypeName}
use Rattle.image_tokens.specs.NameTokens.{LiesOn, AddsName, in_extern}
use Rattle.image_tokens.specs.Rows.{EachRow, AddsOneAtMost, Lacks}
use Rattle.image_tokens.specs.Texts.{KeepsTexts, HoldsId}
use Rattle.image_tokens.specs.TypePaths.{IsTypeRow, LeadsIn, LiesOnPath, AddsPath, GoesOn, in_reference}
use Rattle.image_tokens.specs.declared.row_set.Cells.{Cells}
use Rattle.image_tokens.proofs.PathLemmas.{text_kept, type_row_kept}
use Rattle.image_tokens.proofs.RowLemmas.{snoc_cases}

pub each_weaker : (P Q : Cells → Type 0) (rows : List Cells) → ((c : Cells) → P c → Q c) → EachRow P rows → EachRow Q rows
each_weaker P Q rows f h k c at = f c (h k c at)

pub each_more : (P : Cells → Type 0) (old new : List Cells) (x : Cells) → AddsOneAtMost x old new → EachRow P old → P x → EachRow P new
each_more P old new x (inl e) h p = subst (EachRow P) (sym e) h
each_more P old new x (inr e) h p = subst (EachRow P) (sym e) (λ k c at. elim (snoc_cases old x c k at) [
  | inl before ↦ h k c before
  | inr here ↦ subst P (sym here.1) p
])

-- what an addition to a set leaves, whether it went well or not
pub one_at_most : {E : Type 0} (old new : List Cells) (x : Cells) (r : Result ℕ E) → OnOk r ((new ≡ old) ⊎ ((new ≡ old ++ x ∷ []) × Lacks old x)) → OnErr r (new ≡ old)
    → AddsOneAtMost x old new
one_at_most old new x (Ok n) (inl e) err = inl e
one_at_most old new x (Ok n) (inr e) err = inr e.0
one_at_most old new x (Err e) ok err = inl err

pub one_of : (old new : List Cells) (x : Cells) → (new ≡ old) ⊎ ((new ≡ old ++ x ∷ []) × Lacks old x) → AddsOneAtMost x old new
one_of old new x (inl e) = inl e
one_of old new x (inr e) = inr e.0

-- ---- paths

pub id_kept : (old new : Heap) (id : TypeId) (name space : ℕ) → KeepsTexts old new → HoldsId old id name space → HoldsId new id name space
id_kept old new id name space k h = record { name_is = text_kept old new id.name name k h.name_is; space_is = text_kept old new id.space space k h.space_is }

leads_kept : (old new : Heap) (rows more : List Cells) (scope inner : ℕ) (ids : List TypeId) → KeepsTexts old new → GoesOn rows more
    → LeadsIn old rows scope ids inner → LeadsIn new more scope ids inner
leads_kept old new rows more scope inner [] k g h = h
leads_kept old new rows more scope inner (id ∷ ids) k g h =
    (h.0, type_row_kept old new rows more scope h.0 id k g h.1, leads_kept old new rows more (in_reference h.0) inner ids k g h.2)

pub lies_kept : (old new : Heap) (rows more : List Cells) (scope : ℕ) (path : List TypeId) (c : Cells) → KeepsTexts old new → GoesOn rows more
    → LiesOnPath old rows scope path c → LiesOnPath new more scope path c
lies_kept old new rows more scope path c k g h = record {
  before = h.before;
  id = h.id;
  after = h.after;
  is = h.is;
  leads = leads_kept old new rows more scope c.first h.before k g h.leads;
  id_is = id_kept old new h.id c.second c.third k h.id_is;
}

pub name_lies_kept : (old new : Heap) (rows more : List Cells) (name : TypeName) (c : Cells) → KeepsTexts old new → GoesOn rows more
    → LiesOn old rows name c → LiesOn new more name c
name_lies_kept old new rows more name c k g h = record { number = h.number; scope = h.scope; path = lies_kept old new rows more (in_extern h.number) name.path c k g h.path }

-- a row with the scope and the id of the first type of a path
first_lies : (strings : Heap) (rows : List Cells) (scope name space : ℕ) (id : TypeId) → HoldsId strings id name space
    → LiesOnPath strings rows scope (id ∷ []) (record { first = scope; second = name; third = space })
first_lies strings rows scope name space id h = record { before = []; id = id; after = []; is = refl; leads = refl; id_is = h }

pub path_none : (strings : Heap) (scope : ℕ) (path : List TypeId) (rows new : List Cells) → new ≡ rows → AddsPath strings scope path rows new
path_none strings scope path rows new e k c at = inl (subst (λ xs. slice_get xs k ≡ Some c) e at)

pub path_one : (strings : Heap) (scope name space : ℕ) (id : TypeId) (old new : List Cells) → HoldsId strings id name space
    → AddsOneAtMost (record { first = scope; second = name; third = space }) old new → AddsPath strings scope (id ∷ []) old new
path_one strings scope name space id old new h (inl e) = path_none strings scope (id ∷ []) old new e
path_one strings scope name space id old new h (inr e) = λ k c at.
    elim (snoc_cases old (record { first = scope; second = name; third = space }) c k (subst (λ xs. slice_get xs k ≡ Some c) e at)) [
      | inl before ↦ inl before
      | inr here ↦ inr (subst (LiesOnPath strings new scope (id ∷ [])) (sym here.1) (first_lies strings new scope name space id h))
    ]

-- a longer path begins with it
longer : (strings : Heap) (rows : List Cells) (scope : ℕ) (id : TypeId) (path rest : List TypeId) (c : Cells) → path ≡ id ∷ rest
    → LiesOnPath strings rows scope (id ∷ []) c → LiesOnPath strings rows scope path c
longer strings rows scope id path rest c e h = record {
  before = h.before;
  id = h.id;
  after = h.after ++ rest;
  is = e ∙ ap (λ ids. ids ++ rest) h.is ∙ append_assoc h.before (h.id ∷ h.after) rest;
  leads = h.leads;
  id_is = h.id_is;
}

-- the rest of it lies behind the row of its first type
behind : (strings : Heap) (rows : List Cells) (scope row : ℕ) (id : TypeId) (path rest : List TypeId) (c : Cells) → path ≡ id ∷ rest → IsTypeRow strings rows scope id row
    → LiesOnPath strings rows (in_reference row) rest c → LiesOnPath strings rows scope path c
behind strings rows scope row id path rest c e t h = record {
  before = id ∷ h.before;
  id = h.id;
  after = h.after;
  is = e ∙ ap (λ ids. id ∷ ids) h.is;
  leads = (row, t, h.leads);
  id_is = h.id_is;
}

pub path_first : (strings : Heap) (scope : ℕ) (id : TypeId) (path rest : List TypeId) (old new : List Cells) → path ≡ id ∷ rest
    → AddsPath strings scope (id ∷ []) old new → AddsPath strings scope path old new
path_first strings scope id path rest old new e h k c at = elim (h k c at) [
  | inl before ↦ inl before
  | inr lies ↦ inr (longer strings new scope id path rest c e lies)
]

pub path_both : (s0 s1 : Heap) (scope row : ℕ) (id : TypeId) (path rest : List TypeId) (old via new : List Cells) → path ≡ id ∷ rest → KeepsTexts s0 s1 → GoesOn via new
    → IsTypeRow s0 via scope id row → AddsPath s0 scope (id ∷ []) old via → AddsPath s1 (in_reference row) rest via new → AddsPath s1 scope path old new
path_both s0 s1 scope row id path rest old via new e k g t p q n c at = elim (q n c at) [
  | inl before ↦ elim (p n c before) [
    | inl first ↦ inl first
    | inr lies ↦ inr (longer s1 new scope id path rest c e (lies_kept s0 s1 via new scope (id ∷ []) c k g lies))
  ]
  | inr lies ↦ inr (behind s1 new scope row id path rest c e (type_row_kept s0 s1 via new scope row id k g t) lies)
]

-- ---- names

pub name_none : (strings : Heap) (name : TypeName) (rows new : List Cells) → new ≡ rows → AddsName strings name rows new
name_none strings name rows new e k c at = inl (subst (λ xs. slice_get xs k ≡ Some c) e at)

pub name_path : (strings : Heap) (name : TypeName) (number : ℕ) (old new : List Cells) → name.scope ≡ Extern number → AddsPath strings (in_extern number) name.path old new
    → AddsName strings name old new
name_path strings name number old new is h k c at = elim (h k c at) [
  | inl before ↦ inl before
  | inr lies ↦ inr (record { number = number; scope = is; path = lies })
]
