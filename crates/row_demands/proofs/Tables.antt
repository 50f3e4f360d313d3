-- Rows stand only in the tables of the profile.
use Rattle.std.proofs.Common.{◌≡◌, ℕ, ◌<◌, ◌≤◌, ◌⊎◌, List, [], length, slice_index_or, arith, refl, inl, inr, true, false, subst}
use Rattle.std.specs.Prelude.{◌==◌}
use Rattle.std.specs.Int.{bit_at}
use Rattle.std.proofs.lemmas.Bool.{ne_eqb}
use Rattle.metadata_tables.specs.Schema.{schema, columns_of}
use Rattle.metadata_tables.specs.Stream.{row_count, present, IsRow}
use Rattle.metadata_tables.specs.Faults.{IsWhole}
use Rattle.image_model.specs.Streams.{tables_of}
use Rattle.image_model.specs.Rows.{count_of, HasRow}
use Rattle.image_model.specs.Faults.{HasTables}
use Rattle.std.proofs.lemmas.List.{get_or_past}

absent : (stream : List ℕ) (table : ℕ) → (bit_at (present stream) table ≡ 1 → ⊥) → row_count stream table ≡ 0
unfolding row_count
absent stream table h = rw (ne_eqb (bit_at (present stream) table) 1 h) refl

tables_are_few : length schema ≡ 45
unfolding schema
tables_are_few = refl

no_columns : (table : ℕ) → 45 ≤ table → columns_of table ≡ []
no_columns table h = let l = tables_are_few in get_or_past schema table [] (omega arith)

pub none_past : (image : List ℕ) → HasTables image → (table row : ℕ) → (45 ≤ table) ⊎ (count_of image table < row) → HasRow image table row → ⊥
none_past image has table row (inl past) there =
    let none = absent (tables_of image) table (λ bit. has.whole.tables table (bit, no_columns table past)) in
    let h = there in absurd (omega arith)
none_past image has table row (inr past) there = let h = there in absurd (omega arith)

-- the same of what is the image seen otherwise
pub law_at : (seen image : List ℕ) → seen ≡ image → ((table row : ℕ) → (45 ≤ table) ⊎ (count_of seen table < row) → HasRow seen table row → ⊥)
    → (table row : ℕ) {X : Type 0} → (45 ≤ table) ⊎ ((count_of image table < row) × X) → HasRow image table row → ⊥
law_at seen image e law table row {X} past =
    subst (λ image. (table row : ℕ) → (45 ≤ table) ⊎ (count_of image table < row) → HasRow image table row → ⊥) e law table row
    (elim past [ inl far ↦ inl far | inr p ↦ inr p.0 ])
