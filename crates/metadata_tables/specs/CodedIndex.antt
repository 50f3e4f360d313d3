-- Coded indexes: a row of one of several tables, in one number (ECMA-335 II.24.2.6).
use Rattle.std.specs.Prelude.{ℕ, ◌+◌, ◌*◌, ◌/◌, ◌%◌, ◌^◌, ◌==◌, List, [], ◌∷◌, Option, find, option_map}
use Rattle.metadata_tables.specs.declared.coded.Coded.{Coded}
use Rattle.metadata_tables.specs.declared.coded.Coded.TheVariants.{TypeDefOrRef, HasConstant, HasCustomAttribute, MemberRefParent, HasSemantics, MethodDefOrRef, CustomAttributeType, ResolutionScope, TypeOrMethodDef}

-- how many of the lowest bits hold the tag
abbrev pub tag_bits : Coded → ℕ
tag_bits TypeDefOrRef = 2
tag_bits HasConstant = 2
tag_bits HasCustomAttribute = 5
tag_bits MemberRefParent = 3
tag_bits HasSemantics = 1
tag_bits MethodDefOrRef = 1
tag_bits CustomAttributeType = 3
tag_bits ResolutionScope = 2
tag_bits TypeOrMethodDef = 1

-- the tables that an index of this kind may name, each before its tag
abbrev pub tags : Coded → List (ℕ × ℕ)
tags TypeDefOrRef = (0x02, 0) ∷ (0x01, 1) ∷ (0x1B, 2) ∷ []
tags HasConstant = (0x04, 0) ∷ (0x08, 1) ∷ (0x17, 2) ∷ []
tags HasCustomAttribute =
    (0x06, 0) ∷ (0x04, 1) ∷ (0x01, 2) ∷ (0x02, 3) ∷ (0x08, 4) ∷ (0x09, 5) ∷ (0x0A, 6) ∷ (0x00, 7)
    ∷ (0x0E, 8) ∷ (0x17, 9) ∷ (0x14, 10) ∷ (0x11, 11) ∷ (0x1A, 12) ∷ (0x1B, 13) ∷ (0x20, 14) ∷ (0x23, 15)
    ∷ (0x26, 16) ∷ (0x27, 17) ∷ (0x28, 18) ∷ (0x2A, 19) ∷ (0x2C, 20) ∷ (0x2B, 21) ∷ []
tags MemberRefParent = (0x02, 0) ∷ (0x01, 1) ∷ (0x1A, 2) ∷ (0x06, 3) ∷ (0x1B, 4) ∷ []
tags HasSemantics = (0x14, 0) ∷ (0x17, 1) ∷ []
tags MethodDefOrRef = (0x06, 0) ∷ (0x0A, 1) ∷ []
tags CustomAttributeType = (0x06, 2) ∷ (0x0A, 3) ∷ []
tags ResolutionScope = (0x00, 0) ∷ (0x1A, 1) ∷ (0x23, 2) ∷ (0x01, 3) ∷ []
tags TypeOrMethodDef = (0x02, 0) ∷ (0x06, 1) ∷ []

-- the tag of a table, where it has one
unfoldable pub tag_of : Coded → ℕ → Option ℕ
tag_of kind table = option_map (λ pair. pair.1) (find (λ pair. pair.0 == table) (tags kind))

-- the table of a tag, where there is one
unfoldable pub table_of : Coded → ℕ → Option ℕ
table_of kind tag = option_map (λ pair. pair.0) (find (λ pair. pair.1 == tag) (tags kind))

-- the index of a row of a table: the row above the tag
abbrev pub packed : Coded → ℕ → ℕ → Option ℕ
packed kind table row = option_map (λ tag. row * 2 ^ tag_bits kind + tag) (tag_of kind table)

-- the table and the row of an index
abbrev pub unpacked : Coded → ℕ → Option (ℕ × ℕ)
unpacked kind value =
    option_map (λ table. (table, value / 2 ^ tag_bits kind)) (table_of kind (value % 2 ^ tag_bits kind))
