-- The code's table of columns against the schema, and facts of the schema that hold of each table.
use Rattle.std.proofs.Common.{◌≡◌, ℕ, ◌+◌, ◌-◌, ◌<◌, ◌≤◌, List, [], length, map, get_or, take, drop, refl, sym, ap, ◌∙◌, arith, Bool, true, ⊎_elim, leb, ◌&&◌}
use Rattle.std.specs.List.{range_with_len}
use Rattle.std.proofs.lemmas.List.{get_or_past}
use Rattle.std.proofs.lemmas.List.FromFn.{get_or-map-range_with_len}
use Rattle.std.proofs.lemmas.Bool.{agree_below, agree_below_at, leb-true, and_parts, cases_lt}
use Rattle.metadata_tables.specs.Schema.{schema, columns_of}
use Rattle.metadata_tables.specs.declared.schema.Column.{Column}
use Rattle.metadata_tables.specs.declared.schema.TheConstants.{COLUMNS, FIRST_COLUMN}

part : ℕ → List Column
part t = take (get_or FIRST_COLUMN (t + 1) 0 - get_or FIRST_COLUMN t 0) (drop (get_or FIRST_COLUMN t 0) COLUMNS)

parts_are : map part (range_with_len 0 45) ≡ schema
unfolding part schema
parts_are = refl

-- the part of the table between two starts has the columns of the table
pub part_is : (t : ℕ) → t < 45 → take (get_or FIRST_COLUMN (t + 1) 0 - get_or FIRST_COLUMN t 0) (drop (get_or FIRST_COLUMN t 0) COLUMNS) ≡ columns_of t
unfolding part
part_is t h = sym (get_or-map-range_with_len part 0 45 t t [] h (omega arith)) ∙ ap (λ (l : List (List Column)). get_or l t []) parts_are

in_order : ℕ → Bool
in_order t = leb (get_or FIRST_COLUMN t 0) (get_or FIRST_COLUMN (t + 1) 0) && leb (get_or FIRST_COLUMN (t + 1) 0) 91

all_in_order : agree_below in_order (λ _. true) 45 ≡ true
unfolding in_order
all_in_order = refl

-- the starts rise, and stay in the table
pub starts_rise : (t : ℕ) → t < 45 → (get_or FIRST_COLUMN t 0 ≤ get_or FIRST_COLUMN (t + 1) 0) × (get_or FIRST_COLUMN (t + 1) 0 ≤ 91)
unfolding in_order
starts_rise t h =
    let both = and_parts _ _ (agree_below_at in_order (λ _. true) 45 t all_in_order h) in
    (leb-true _ _ both.0, leb-true _ _ both.1)

-- no table from 2D on has columns
pub columns_past : (t : ℕ) → 45 ≤ t → columns_of t ≡ []
unfolding schema
columns_past t h = get_or_past schema t [] h

is_short : ℕ → Bool
is_short t = leb (length (columns_of t)) 9

all_short : agree_below is_short (λ _. true) 45 ≡ true
unfolding is_short schema
all_short = refl

-- no table has more than nine columns
pub columns_few : (t : ℕ) → length (columns_of t) ≤ 9
unfolding is_short
columns_few t = ⊎_elim
    (λ h. leb-true _ _ (agree_below_at is_short (λ _. true) 45 t all_short h))
    (λ h. let e = ap length (columns_past t h) in omega (arith, e))
    (cases_lt t 45)
