-- Columns have 1, 2 or 4 bytes.
use Rattle.std.proofs.Common.{◌≡◌, ℕ, zero, suc, ◌<◌, ◌⊎◌, List, [], ◌∷◌, length, refl, ap, arith, inl, inr, Bool, true, false, ⊎_elim, eqb, ◌||◌, cond}
use Rattle.std.specs.List.{list_all}
use Rattle.std.specs.Prelude.{slice_index_or}
use Rattle.std.proofs.lemmas.Bool.{and_parts, agree_below, agree_below_at, eqb-true, or_cases, cases_lt}
use Rattle.metadata_tables.specs.Schema.{schema, columns_of}
use Rattle.metadata_tables.specs.Stream.{width, column_of, column_width, row_count, heap_sizes}
use Rattle.metadata_tables.specs.declared.schema.Column.{Column}
use Rattle.metadata_tables.specs.declared.schema.Column.TheVariants.{Number, Strings, Guids, Blobs, Row, Run, Tagged}
use Rattle.metadata_tables.proofs.Table.{columns_past}

-- a number that can be read as a cell
abbrev pub IsCellWidth : ℕ → Type 0
IsCellWidth w = (w ≡ 1) ⊎ ((w ≡ 2) ⊎ (w ≡ 4))

is_cell_width : ℕ → Bool
is_cell_width w = eqb w 1 || (eqb w 2 || eqb w 4)

cell_width : (w : ℕ) → is_cell_width w ≡ true → IsCellWidth w
unfolding is_cell_width
cell_width w h = ⊎_elim
    (λ a. inl (eqb-true w 1 a))
    (λ b. inr (⊎_elim (λ c. inl (eqb-true w 2 c)) (λ c. inr (eqb-true w 4 c)) (or_cases (eqb w 2) (eqb w 4) b)))
    (or_cases (eqb w 1) (eqb w 2 || eqb w 4) h)

-- whether a column of stated width can be read
stated : Column → Bool
stated (Number bytes) = is_cell_width bytes
stated _ = true

all_stated : agree_below (λ t. list_all stated (columns_of t)) (λ _. true) 45 ≡ true
unfolding stated is_cell_width schema
all_stated = refl

list_all_get : (columns : List Column) (k : ℕ) → list_all stated columns ≡ true → k < length columns → stated (slice_index_or columns k (Number 0)) ≡ true
list_all_get [] k all h = absurd (omega arith)
list_all_get (c ∷ cs) zero all h = (and_parts (stated c) (list_all stated cs) all).0
list_all_get (c ∷ cs) (suc k) all h =
    list_all_get cs k (and_parts (stated c) (list_all stated cs) all).1 (omega arith)

stated_column : (t k : ℕ) → k < length (columns_of t) → stated (column_of t k) ≡ true
stated_column t k h = ⊎_elim
    (λ inside. list_all_get (columns_of t) k (agree_below_at (λ t. list_all stated (columns_of t)) (λ _. true) 45 t all_stated inside) h)
    (λ past. let none = ap length (columns_past t past) in absurd (omega (arith, none, h)))
    (cases_lt t 45)

chosen : (b : Bool) → IsCellWidth (cond b 4 2)
chosen true = inr (inr refl)
chosen false = inr (inl refl)

chosen_small : (b : Bool) → IsCellWidth (cond b 2 4)
chosen_small true = inr (inl refl)
chosen_small false = inr (inr refl)

width_kind : (counts : ℕ → ℕ) (heaps : ℕ) (c : Column) → stated c ≡ true → IsCellWidth (width counts heaps c)
unfolding stated
width_kind counts heaps (Number bytes) h = cell_width bytes h
width_kind counts heaps (Strings nil) h = chosen _
width_kind counts heaps (Guids nil) h = chosen _
width_kind counts heaps (Blobs nil) h = chosen _
width_kind counts heaps (Row t) h = chosen_small _
width_kind counts heaps (Run t) h = chosen_small _
width_kind counts heaps (Tagged kind nil) h = chosen_small _

-- each column of a table
pub column_kind : (counts : ℕ → ℕ) (heaps t k : ℕ) → k < length (columns_of t) → IsCellWidth (width counts heaps (column_of t k))
column_kind counts heaps t k h = width_kind counts heaps (column_of t k) (stated_column t k h)

pub column_width_kind : (stream : List ℕ) (t k : ℕ) → k < length (columns_of t) → IsCellWidth (column_width stream t k)
unfolding column_width
column_width_kind stream t k h = column_kind (row_count stream) (heap_sizes stream) t k h
