-- Tokens, and what names them (ECMA-335 II.22, II.24.2.6). A token is the number of a table in its highest byte and a row in the
-- three below; a user string has 0x70 there, and its index below.
use Rattle.std.specs.Prelude.{◌≡◌, ℕ, ◌+◌, ◌*◌, ◌/◌, ◌%◌, ◌^◌, ◌==◌, ◌⊎◌, nat_lt, if◌then◌else◌, Option, Some, None}

-- the first token of a table
abbrev pub type_refs : ℕ
type_refs = 0x01000000

abbrev pub type_defs : ℕ
type_defs = 0x02000000

abbrev pub type_specs : ℕ
type_specs = 0x1B000000

-- The token of a coded TypeDefOrRef number, which is the row times 4 plus a tag: 0 for a TypeDef, 1 for a TypeRef, 2 for a
-- TypeSpec. With another tag, or a row past three bytes, it has none.
abbrev pub token_of_coded : ℕ → Option ℕ
token_of_coded number =
    if nat_lt number (2 ^ 26) then
    (if number % 4 == 0 then Some (type_defs + number / 4)
    else if number % 4 == 1 then Some (type_refs + number / 4)
    else if number % 4 == 2 then Some (type_specs + number / 4)
    else None)
    else None

-- the token is one of the tables TypeRef and TypeDef
abbrev pub IsDeclared : ℕ → Type 0
IsDeclared token = (token / 2 ^ 24 ≡ 1) ⊎ (token / 2 ^ 24 ≡ 2)

-- the token is one of the tables TypeRef, TypeDef and TypeSpec, so that it has a coded number
abbrev pub IsTypeToken : ℕ → Type 0
IsTypeToken token = (token / 2 ^ 24 ≡ 1) ⊎ (token / 2 ^ 24 ≡ 2) ⊎ (token / 2 ^ 24 ≡ 0x1B)

-- the coded number of such a token
abbrev pub coded_of_token : ℕ → ℕ
coded_of_token token =
    token % 2 ^ 24 * 4 + (if token / 2 ^ 24 == 2 then 0 else if token / 2 ^ 24 == 1 then 1 else 2)

-- A namer's map gives back each value that a numberer's map numbered: the law between the two, for each of their five maps.
abbrev pub GivesBack : {V : Type 0} → (V → Option ℕ) → (ℕ → Option V) → Type 0
GivesBack {V = V} tokens values = (v : V) (token : ℕ) → tokens v ≡ Some token → values token ≡ Some v
