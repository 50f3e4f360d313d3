-- The tables of an image by what they say, so that the rows of each part can be added by themselves: 0 the manifest, 1 methods, 2
-- types, 3 fields, 4 properties and events, 5 what other rows own, 6 references, and 7 the tables that have no rows here
-- (ECMA-335 II.22).
use Rattle.std.specs.Prelude.{◌≡◌, ◌≢◌, ℕ, ◌≤◌, ◌==◌, if◌then◌else◌, List, [], ◌∷◌}
use Rattle.metadata_tables.specs.Encoding.{rows_of}
use Rattle.image_tokens.specs.References.{Grows}
use Rattle.image_tokens.specs.declared.references.References.{References}
use Rattle.image_members.specs.Pushing.{Tables}

abbrev pub table_parts : List (ℕ × ℕ)
table_parts =
    (0x00, 0) ∷ (0x01, 6) ∷ (0x02, 2) ∷ (0x04, 3) ∷ (0x06, 1) ∷ (0x08, 1) ∷ (0x09, 2) ∷ (0x0A, 6) ∷ (0x0B, 5) ∷ (0x0C, 5) ∷ (0x0F, 2) ∷ (0x10, 3)
    ∷ (0x11, 6) ∷ (0x12, 2) ∷ (0x14, 4) ∷ (0x15, 2) ∷ (0x17, 4) ∷ (0x18, 4) ∷ (0x19, 1) ∷ (0x1B, 6) ∷ (0x1D, 3) ∷ (0x20, 0) ∷ (0x23, 0) ∷ (0x29, 2)
    ∷ (0x2A, 5) ∷ (0x2B, 6) ∷ (0x2C, 5) ∷ []

abbrev pub part_in : List (ℕ × ℕ) → ℕ → ℕ
part_in [] table = 7
part_in (p ∷ ps) table = if table == p.0 then p.1 else part_in ps table

abbrev pub part_of : ℕ → ℕ
part_of table = part_in table_parts table

-- the tables of other parts have the rows that they had
abbrev pub KeepsOtherParts : ℕ → Tables → Tables → Type 0
KeepsOtherParts part from to = (table : ℕ) → part_of table ≢ part → rows_of to table ≡ rows_of from table

-- the tables of a part have the rows that they had
abbrev pub KeepsPart : ℕ → Tables → Tables → Type 0
KeepsPart part from to = (table : ℕ) → part_of table ≡ part → rows_of to table ≡ rows_of from table

-- this part and all later ones have no rows
abbrev pub LacksFrom : ℕ → Tables → Type 0
LacksFrom part tables = (table : ℕ) → part ≤ part_of table → rows_of tables table ≡ []
