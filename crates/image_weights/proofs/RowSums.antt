-- Rows that stand side by side, and the first of them.
use Rattle.std.proofs.Common.{◌≡◌, ◌≢◌, ℕ, zero, suc, ◌+◌, List, length, refl, ◌∙◌, ap, arith}
use Rattle.std.specs.Prelude.{sum_by}
use Rattle.std.specs.List.{range_with_len}
use Rattle.std.proofs.lemmas.List.FromFn.{length-range_with_len}
use Rattle.std.proofs.lemmas.List.Sums.{sum_by_push}
use Rattle.image_model.specs.Rows.{count_of, rows_of}
use Rattle.row_parts.proofs.Zips.{range_more}
use Rattle.image_weights.specs.RowWeights.{first_weight}

pub range_sum : (f : ℕ → ℕ) (a n : ℕ) → sum_by f (range_with_len a (n + 1)) ≡ sum_by f (range_with_len a n) + f (a + n)
range_sum f a n = ap (sum_by f) (range_more a n) ∙ sum_by_push f (range_with_len a n) (a + n)

first_none : (f : ℕ → ℕ) (a n : ℕ) → n ≡ 0 → first_weight f (range_with_len a n) ≡ 0
first_none f a n e = ap (λ (k : ℕ). first_weight f (range_with_len a k)) e

first_some : (f : ℕ → ℕ) (a n : ℕ) → n ≢ 0 → first_weight f (range_with_len a n) ≡ f a
first_some f a zero n = absurd (n (omega arith))
first_some f a (suc k) n = omega arith

pub none_first : (f : ℕ → ℕ) (rows : List ℕ) (a n : ℕ) → rows ≡ range_with_len a n → n ≡ 0 → first_weight f rows ≡ 0
none_first f rows a n e z = ap (first_weight f) e ∙ first_none f a n z

pub some_first : (f : ℕ → ℕ) (rows : List ℕ) (a n : ℕ) → rows ≡ range_with_len a n → n ≢ 0 → first_weight f rows ≡ f a
some_first f rows a n e z = ap (first_weight f) e ∙ first_some f a n z

pub long : (rows : List ℕ) (a n : ℕ) → rows ≡ range_with_len a n → length rows ≡ n
long rows a n e = ap length e ∙ length-range_with_len a n

pub rows_are : (image : List ℕ) (table : ℕ) → rows_of image table ≡ range_with_len 1 (count_of image table)
unfolding rows_of
rows_are image table = refl
