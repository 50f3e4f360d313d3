-- The names of rows, gathered from the last row on.
use Rattle.std.proofs.Common.{◌≡◌, ℕ, zero, suc, ◌+◌, ◌-◌, ◌<◌, ◌≤◌, inl, inr, List, [], ◌∷◌, ◌++◌, length, drop, get_or, Result, Ok, IfOk, refl, sym, ◌∙◌, ap, subst, arith}
use Rattle.std.proofs.lemmas.List.{drop_more, drop_all}
use Rattle.std.specs.Prelude.{IsTrue}
use Rattle.metadata_tables.specs.Schema.{schema, columns_of}
use Rattle.metadata_tables.specs.Stream.{column_of}
use Rattle.il_lists.specs.declared.memory.NoMemory.{NoMemory}
use Rattle.row_parts.specs.Kinds.{is_strings}
use Rattle.type_terms.specs.declared.name.TypeId.{TypeId}
use Rattle.kept_owners.specs.Paths.{AreIds, HasRowId, IsTypeTable, last_of}

-- columns 1 and 2 of both tables hold texts
pub name_column : (table : ℕ) → IsTypeTable table → (1 < length (columns_of table)) × IsTrue (is_strings (column_of table 1))
unfolding schema
name_column table (inl e) = subst (λ (t : ℕ). (1 < length (columns_of t)) × IsTrue (is_strings (column_of t 1))) (sym e) (omega arith, refl)
name_column table (inr e) = subst (λ (t : ℕ). (1 < length (columns_of t)) × IsTrue (is_strings (column_of t 1))) (sym e) (omega arith, refl)

pub space_column : (table : ℕ) → IsTypeTable table → (2 < length (columns_of table)) × IsTrue (is_strings (column_of table 2))
unfolding schema
space_column table (inl e) = subst (λ (t : ℕ). (2 < length (columns_of t)) × IsTrue (is_strings (column_of t 2))) (sym e) (omega arith, refl)
space_column table (inr e) = subst (λ (t : ℕ). (2 < length (columns_of t)) × IsTrue (is_strings (column_of t 2))) (sym e) (omega arith, refl)

-- the last of some rows
pub last_is : (rows : List ℕ) (last d : ℕ) → length rows ≡ last + 1 → get_or rows last d ≡ last_of rows
last_is [] last d long = absurd (omega arith)
last_is (r ∷ []) zero d long = refl
last_is (r ∷ []) (suc last) d long = absurd (omega arith)
last_is (r ∷ s ∷ rows) zero d long = absurd (omega arith)
last_is (r ∷ s ∷ rows) (suc last) d long = last_is (s ∷ rows) last d (omega arith)

module _ (image : List ℕ) (table : ℕ) (rows : List ℕ) where
  -- the names of the rows behind the first so many
  abbrev pub IdsFrom : ℕ → List TypeId → Type 0
  IdsFrom from path = AreIds image table (drop from rows) path

  ids_start : (last : ℕ) (path : List TypeId) → last + 1 ≡ length rows → AreIds image table (get_or rows last 0 ∷ []) path → IdsFrom last path
  ids_start last path long ids =
      subst (λ (l : List ℕ). AreIds image table l path) (sym (drop_more rows last 0 (omega arith) ∙ ap (λ (l : List ℕ). get_or rows last 0 ∷ l) (drop_all (last + 1) rows (omega arith)))) ids

  pub ids_init : (last : ℕ) (path : List TypeId) → last + 1 ≡ length rows → AreIds image table (get_or rows last 0 ∷ []) path → IdsFrom (last - 0) path
  ids_init last path long ids = let e : last ≡ last - 0 = omega arith in subst (λ (j : ℕ). IdsFrom j path) e (ids_start last path long ids)

  pub ids_more : (from : ℕ) (path : List TypeId) (id : TypeId) → from < length rows → IdsFrom (from + 1) path → HasRowId image table (get_or rows from 0) id → IdsFrom from (path ++ id ∷ [])
  ids_more from path id lt ids has =
      subst (λ (l : List ℕ). AreIds image table l (path ++ id ∷ [])) (sym (drop_more rows from 0 lt)) (path, id, ids, has, refl)

  -- the row before, where its name was read
  pub ids_next : (last k : ℕ) (path new : List TypeId) (read : Result TypeId NoMemory) → last + 1 ≡ length rows → k < last → IdsFrom (last - k) path → IfOk read (HasRowId image table (get_or rows (last - 1 - k) 0))
      → (id : TypeId) × (read ≡ Ok id) × (new ≡ path ++ id ∷ []) → IdsFrom (last - (k + 1)) new
  ids_next last k path new read long lt ids has added =
      let here : last - 1 - k ≡ last - (k + 1) = omega arith in
      let from : last - k ≡ last - (k + 1) + 1 = omega arith in
      let id : HasRowId image table (get_or rows (last - (k + 1)) 0) added.0 =
      subst (λ (j : ℕ). HasRowId image table (get_or rows j 0) added.0) here (subst (λ (r : Result TypeId NoMemory). IfOk r (HasRowId image table (get_or rows (last - 1 - k) 0))) added.1 has) in
      subst (λ (p : List TypeId). IdsFrom (last - (k + 1)) p) (sym added.2) (ids_more (last - (k + 1)) path added.0 (omega arith) (subst (λ (j : ℕ). IdsFrom j path) from ids) id)

  pub ids_all : (last k : ℕ) (path : List TypeId) → last ≤ k → IdsFrom (last - k) path → AreIds image table rows path
  ids_all last k path end ids = let none : last - k ≡ 0 = omega arith in subst (λ (j : ℕ). IdsFrom j path) none ids
