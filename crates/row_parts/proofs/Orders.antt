-- The order of tables (II.22) says that a column ascends, where the table is sorted by it first.
use Rattle.std.proofs.Common.{◌≡◌, ℕ, ◌-◌, ◌≤◌, inl, inr, List, [], ◌∷◌, map, refl, subst, arith}
use Rattle.metadata_tables.specs.Order.{sort_columns, IsNotAfter}
use Rattle.metadata_tables.specs.Stream.{cell}
use Rattle.image_model.specs.Streams.{tables_of}
use Rattle.row_demands.specs.Structured.{MeetStructure}
use Rattle.row_groups.specs.Ranges.{Ascends}

not_less : (x y : ℕ) (xs ys : List ℕ) → IsNotAfter (x ∷ xs) (y ∷ ys) → x ≤ y
not_less x y xs ys (inl less) = omega arith
not_less x y xs ys (inr same) = let e = same.0 in omega arith

ascends : (image : List ℕ) (table column : ℕ) (rest : List ℕ) → sort_columns table ≡ column ∷ rest → MeetStructure image → Ascends image table column
ascends image table column rest e meets row more within =
    let f : ℕ → ℕ → ℕ = cell (tables_of image) table in
    not_less (f (row - 1) column) (f row column) (map (f (row - 1)) rest) (map (f row) rest)
    (subst (λ columns. IsNotAfter (map (cell (tables_of image) table (row - 1)) columns) (map (cell (tables_of image) table row) columns)) e (meets.order table row more (omega arith, within)))

pub interfaces_ascend : (image : List ℕ) → MeetStructure image → Ascends image 0x09 0
unfolding sort_columns
interfaces_ascend image meets = ascends image 0x09 0 [] refl meets

pub constants_ascend : (image : List ℕ) → MeetStructure image → Ascends image 0x0B 2
unfolding sort_columns
constants_ascend image meets = ascends image 0x0B 2 [] refl meets

pub attributes_ascend : (image : List ℕ) → MeetStructure image → Ascends image 0x0C 0
unfolding sort_columns
attributes_ascend image meets = ascends image 0x0C 0 [] refl meets

pub layouts_ascend : (image : List ℕ) → MeetStructure image → Ascends image 0x0F 2
unfolding sort_columns
layouts_ascend image meets = ascends image 0x0F 2 [] refl meets

pub offsets_ascend : (image : List ℕ) → MeetStructure image → Ascends image 0x10 1
unfolding sort_columns
offsets_ascend image meets = ascends image 0x10 1 [] refl meets

pub semantics_ascend : (image : List ℕ) → MeetStructure image → Ascends image 0x18 2
unfolding sort_columns
semantics_ascend image meets = ascends image 0x18 2 [] refl meets

pub data_ascend : (image : List ℕ) → MeetStructure image → Ascends image 0x1D 1
unfolding sort_columns
data_ascend image meets = ascends image 0x1D 1 [] refl meets

pub generics_ascend : (image : List ℕ) → MeetStructure image → Ascends image 0x2A 2
unfolding sort_columns
generics_ascend image meets = ascends image 0x2A 2 (0 ∷ []) refl meets

pub bounds_ascend : (image : List ℕ) → MeetStructure image → Ascends image 0x2C 0
unfolding sort_columns
bounds_ascend image meets = ascends image 0x2C 0 [] refl meets
