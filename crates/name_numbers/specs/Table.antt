-- A table of names: what names a node, told by the number of the node that encloses it, its space and its text.
use Rattle.std.specs.Prelude.{◌≡◌, ℕ, ◌*◌, ◌%◌, ◌^◌, List, [], ◌∷◌, ◌++◌, Some, map, slice_get, bit_xor}
use Rattle.type_terms.specs.declared.name.TypeId.{TypeId}
use Rattle.hash_places.specs.Slots.{place_of}
use Rattle.name_numbers.specs.Chains.{IsChained}
use Rattle.name_numbers.specs.Texts.{text_in, text_hash}
use Rattle.name_numbers.specs.declared.table.Key.{Key}
use Rattle.name_numbers.specs.declared.table.Entry.{Entry}
use Rattle.name_numbers.specs.declared.table.NameTable.{NameTable}

-- a name: the number of what encloses it, and its space and text
pub record Told : Type 0 where
  pub parent : ℕ
  pub id : TypeId

abbrev pub told : List ℕ → Key → Told
told heap key = record { parent = key.parent; id = record { space = text_in heap key.space; name = text_in heap key.text } }

-- one step of FNV-1 at 64 bits
unfoldable pub mix : ℕ → ℕ → ℕ
mix hash number = bit_xor ((hash * 0x00000100000001B3) % (2 ^ 64)) number

unfoldable pub told_hash : Told → ℕ
told_hash t = mix (mix (text_hash t.id.name) (text_hash t.id.space)) t.parent

-- the names of entries, and their numbers
abbrev pub names_in : List ℕ → List Entry → List Told
names_in heap entries = map (λ e. told heap e.key) entries

-- the chains find the names
pub record Finds (table : NameTable) (heap : List ℕ) : Type 0 where
  pub chained : IsChained told_hash (place_of table.newest) (names_in heap table.entries) (map (λ e. e.next) table.entries)

-- an entry has this name and number
pub record HasName (entries : List Entry) (heap : List ℕ) (t : Told) (number : ℕ) : Type 0 where
  pub place : ℕ
  pub entry : Entry
  pub at : slice_get entries place ≡ Some entry
  pub told_is : told heap entry.key ≡ t
  pub number_is : entry.number ≡ number

-- no entry has this name
abbrev pub LacksName : List Entry → List ℕ → Told → Type 0
LacksName entries heap t = (k : ℕ) → slice_get (names_in heap entries) k ≡ Some t → ⊥

-- the entries are others and one more, for this name and number
abbrev pub AddsName : List Entry → List Entry → List ℕ → Told → ℕ → Type 0
AddsName old new heap t number =
    (e : Entry) × (new ≡ old ++ e ∷ []) × (told heap e.key ≡ t) × (e.number ≡ number)
