-- A table whose rows are those of items, one after another.
use Rattle.std.proofs.Common.{◌≡◌, refl, sym, ◌∙◌, ap, subst, ℕ, zero, suc, ◌+◌, ◌<◌, ◌≤◌, List, [], ◌∷◌, length, arith}
use Rattle.std.specs.Prelude.{slice_index, slice_index_or}
use Rattle.std.specs.List.{AllByRecursion, AllZip}
use Rattle.metadata_tables.specs.Encoding.{rows_of, rows_in, cell_of}
use Rattle.metadata_tables.specs.Schema.{columns_of}
use Rattle.metadata_tables.specs.Stream.{column_of}
use Rattle.metadata_tables.specs.declared.schema.Column.{Column}
use Rattle.metadata_tables.specs.declared.schema.Column.TheVariants.{Number}
use Rattle.laws_image_indexes.specs.Laws.{LeadsFrom}
use Rattle.image_layout.specs.Indexes.{IsIndexIn, AreIndexesIn}
use Rattle.image_tokens.specs.declared.references.References.{References}
use Rattle.image_members.specs.Pushing.{Tables}

-- ---- lists

pub zip_all : {A B : Type 0} (R : A → B → Type 0) (Q : A → Type 0) (xs : List A) (ys : List B) → ((x : A) (y : B) → R x y → Q x) → AllZip R xs ys → AllByRecursion Q xs
zip_all R Q [] [] f h = tt
zip_all R Q [] (y ∷ ys) f h = absurd h
zip_all R Q (x ∷ xs) [] f h = absurd h
zip_all R Q (x ∷ xs) (y ∷ ys) f h = (f x y h.0, zip_all R Q xs ys f h.1)

-- where something is known of the items
pub zip_known : {A B : Type 0} (R : A → B → Type 0) (S : B → Type 0) (Q : A → Type 0) (xs : List A) (ys : List B) → ((x : A) (y : B) → R x y → S y → Q x)
    → AllZip R xs ys → AllByRecursion S ys → AllByRecursion Q xs
zip_known R S Q [] [] f h k = tt
zip_known R S Q [] (y ∷ ys) f h k = absurd h
zip_known R S Q (x ∷ xs) [] f h k = absurd h
zip_known R S Q (x ∷ xs) (y ∷ ys) f h k = (f x y h.0 k.0, zip_known R S Q xs ys f h.1 k.1)

pub zip_long : {A B : Type 0} (R : A → B → Type 0) (xs : List A) (ys : List B) → AllZip R xs ys → length xs ≡ length ys
zip_long R [] [] h = refl
zip_long R [] (y ∷ ys) h = absurd h
zip_long R (x ∷ xs) [] h = absurd h
zip_long R (x ∷ xs) (y ∷ ys) h = ap suc (zip_long R xs ys h.1)

all_at : (Q : List ℕ → Type 0) (rows : List (List ℕ)) (k : ℕ) → AllByRecursion Q rows → k < length rows → Q (slice_index_or rows k [])
all_at Q [] k all h = absurd (omega arith)
all_at Q (x ∷ rows) zero all h = all.0
all_at Q (x ∷ rows) (suc k) all h = all_at Q rows k all.1 (omega arith)

-- ---- cells

module _ (r : References) (tables : Tables) where
  cells_at : (columns : List Column) (cells : List ℕ) (k : ℕ) → AreIndexesIn r tables columns cells → k < length columns
      → IsIndexIn r tables (slice_index_or columns k (Number 0)) (slice_index cells k)
  cells_at [] cells k all h = absurd (omega arith)
  cells_at (c ∷ columns) [] k all h = absurd all
  cells_at (c ∷ columns) (x ∷ cells) zero all h = all.0
  cells_at (c ∷ columns) (x ∷ cells) (suc k) all h = cells_at columns cells k all.1 (omega arith)

  -- each row of a table leads to what is there
  pub leads : (table : ℕ) → AllByRecursion (AreIndexesIn r tables (columns_of table)) (rows_of tables table) → LeadsFrom r tables table
  leads table all row column in_row in_column =
      cells_at (columns_of table) (slice_index_or (rows_of tables table) row []) column
      (all_at (AreIndexesIn r tables (columns_of table)) (rows_of tables table) row all in_row) in_column
