-- The hash of a type's name. That of a short name at the top level of this assembly is its text as a number, spread: no other name has
-- it.
use Rattle.std.specs.Prelude.{ℕ, ◌+◌, ◌*◌, ◌/◌, ◌%◌, ◌^◌, ◌&&◌, nat_lt, List, [], ◌∷◌, Option, Some, None, length, fold, if◌then◌else◌}
use Rattle.std.specs.List.{list_all}
use Rattle.type_terms.specs.declared.name.Scope.{Scope}
use Rattle.type_terms.specs.declared.name.Scope.TheVariants.{Here, Extern}
use Rattle.type_terms.specs.declared.name.TypeId.{TypeId}
use Rattle.type_terms.specs.declared.name.TypeName.{TypeName}
use Rattle.type_terms.specs.Hashing.{start, mix_name}

-- a text as a number: 1, and then its bytes as digits to the base 256
abbrev pub add_digit : ℕ → ℕ → ℕ
add_digit number byte = number * 256 + byte

unfoldable pub number_of : List ℕ → ℕ
number_of text = fold add_digit 1 text

-- another number for each below 2^62: its last digit, and what stands before it times an odd number
unfoldable pub spread : ℕ → ℕ
spread number = (number / 256 * 0x9E3779B97F4A7C15 % 2 ^ 64 % 2 ^ 54) * 256 + number % 256

-- the text of a name of at most 7 bytes, by its space and its name
abbrev pub short_in : List ℕ → List ℕ → Option (List ℕ)
short_in [] name = if nat_lt (length name) 8 && list_all (λ byte. nat_lt byte 256) name then Some name else None
short_in (b ∷ bs) name = None

abbrev pub short_at : Scope → List TypeId → Option (List ℕ)
short_at Here [] = None
short_at Here (id ∷ []) = short_in id.space id.name
short_at Here (id ∷ next ∷ ids) = None
short_at (Extern k) ids = None

abbrev pub short_text : TypeName → Option (List ℕ)
short_text name = short_at name.scope name.path

-- the hash by the text of a short name, or by the hash of a name that isn't short
abbrev pub hash_by : Option (List ℕ) → ℕ → ℕ
hash_by (Some text) other = spread (number_of text)
hash_by None other = 2 ^ 63 + other % 2 ^ 63

unfoldable pub name_hash : TypeName → ℕ
name_hash name = hash_by (short_text name) (mix_name start name)
