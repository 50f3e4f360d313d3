-- Layouts of rows, one column after another.
use Rattle.std.proofs.Common.{◌≡◌, ℕ, ◌-◌, ◌*◌, ◌/◌, ◌^◌, ◌<◌, ◌≤◌, List, length, take, refl, arith, Bool, true, eqb, cond}
use Rattle.std.specs.Prelude.{slice_index, slice_index_or, nat_lt}
use Rattle.std.specs.List.{list_all}
use Rattle.std.proofs.lemmas.Bool.{agree_below, agree_below_at, eqb-true}
use Rattle.metadata_tables.specs.Stream.{width, columns_size, coded_width}
use Rattle.metadata_tables.specs.declared.schema.Column.{Column}
use Rattle.metadata_tables.specs.declared.schema.Column.TheVariants.{Number}

-- the first n columns are laid out, and take this size
pub record IsLaidUpto (counts : ℕ → ℕ) (heaps : ℕ) (columns : List Column) (n size : ℕ) (places widths : List ℕ) : Type 0 where
  pub places_there : length places ≡ 9
  pub widths_there : length widths ≡ 9
  pub small : size ≤ 255 * n
  pub sized : size ≡ columns_size counts heaps (take n columns)
  pub placed : (k : ℕ) → k < n → slice_index places k ≡ columns_size counts heaps (take k columns)
  pub wide : (k : ℕ) → k < n → slice_index widths k ≡ width counts heaps (slice_index_or columns k (Number 0))

limits : ℕ → Bool
limits b = eqb (65536 / 2 ^ b) (2 ^ (16 - b))

limits_hold : agree_below limits (λ _. true) 6 ≡ true
unfolding limits
limits_hold = refl

-- 16 bits, less those of the tag
pub limit_is : (b : ℕ) → b ≤ 5 → 65536 / 2 ^ b ≡ 2 ^ (16 - b)
unfolding limits
limit_is b h = eqb-true _ _ (agree_below_at limits (λ _. true) 6 b limits_hold (omega arith))

-- the width of a coded index, by a test of its tables
pub coded_width_is : (counts : ℕ → ℕ) (bits all_bits : ℕ) (pairs all_pairs : List (ℕ × ℕ)) (below : Bool) → below ≡ list_all (λ pair. nat_lt (counts pair.0) (65536 / 2 ^ bits)) pairs → pairs ≡ all_pairs → bits ≡ all_bits → bits ≤ 5 → cond below 2 4 ≡ coded_width counts all_bits all_pairs
coded_width_is counts bits all_bits pairs all_pairs below e p b few =
    rw (← p, ← b, ← limit_is bits few, e) refl
