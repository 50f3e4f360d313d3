-- Tables of references that have no rows yet, and tables of another kind (ECMA-335 II.22.25, II.22.29, II.22.36, II.22.38,
-- II.22.39).
use Rattle.std.specs.Prelude.{◌≡◌, ◌≢◌, ℕ, List, [], take}
use Rattle.metadata_tables.specs.Encoding.{rows_of}
use Rattle.image_tokens.specs.declared.row_set.Cells.{Cells}
use Rattle.image_rows.specs.Filled.{three_cells}
use Rattle.image_members.specs.Pushing.{Tables}

-- as many cells of a row as its table has columns
abbrev pub first_cells : ℕ → Cells → List ℕ
first_cells columns c = take columns (three_cells c)

-- TypeRef, MemberRef, StandAloneSig, TypeSpec and MethodSpec have no rows
pub record LacksReferences (tables : Tables) : Type 0 where
  pub names : rows_of tables 0x01 ≡ []
  pub members : rows_of tables 0x0A ≡ []
  pub locals : rows_of tables 0x11 ≡ []
  pub specs : rows_of tables 0x1B ≡ []
  pub instances : rows_of tables 0x2B ≡ []

-- the other tables have the rows that they had
abbrev pub KeepsOthers : Tables → Tables → Type 0
KeepsOthers old new =
    (table : ℕ) → table ≢ 0x01 → table ≢ 0x0A → table ≢ 0x11 → table ≢ 0x1B → table ≢ 0x2B → rows_of new table ≡ rows_of old table
