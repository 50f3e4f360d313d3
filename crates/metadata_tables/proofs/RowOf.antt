-- Cells that fit the columns one after another fit them by number.
use Rattle.std.proofs.Common.{◌≡◌, ℕ, zero, suc, ◌<◌, List, [], ◌∷◌, length, refl, ap, arith}
use Rattle.std.specs.Prelude.{slice_index, slice_index_or}
use Rattle.metadata_tables.specs.Schema.{columns_of}
use Rattle.metadata_tables.specs.Encoding.{FitsNumber}
use Rattle.metadata_tables.specs.Laws.{FitColumns, RowOfColumns}
use Rattle.metadata_tables.specs.declared.schema.Column.{Column}
use Rattle.metadata_tables.specs.declared.schema.Column.TheVariants.{Number}

count : (columns : List Column) (cells : List ℕ) → FitColumns columns cells → length cells ≡ length columns
count [] [] fit = refl
count [] (x ∷ xs) fit = absurd fit
count (c ∷ cs) [] fit = absurd fit
count (c ∷ cs) (x ∷ xs) fit = ap suc (count cs xs fit.1)

each : (columns : List Column) (cells : List ℕ) (k : ℕ) → FitColumns columns cells → k < length cells → FitsNumber (slice_index_or columns k (Number 0)) (slice_index cells k)
each [] [] k fit h = absurd (omega arith)
each [] (x ∷ xs) k fit h = absurd fit
each (c ∷ cs) [] k fit h = absurd fit
each (c ∷ cs) (x ∷ xs) zero fit h = fit.0
each (c ∷ cs) (x ∷ xs) (suc k) fit h = each cs xs k fit.1 (omega arith)

pub row_of : RowOfColumns
row_of table cells some fit =
    let n = count (columns_of table) cells fit in
    record {
      known = omega (arith, n, some);
      cells_count = n;
      numbers = λ k h. each (columns_of table) cells k fit h;
    }
