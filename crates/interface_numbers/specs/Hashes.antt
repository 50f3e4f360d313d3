-- Hashes of the types that rows of InterfaceImpl name (II.22.23).
use Rattle.std.specs.Prelude.{◌≡◌, ℕ, ◌==◌, if◌then◌else◌, List, Option, Some, None}
use Rattle.heaps.specs.LookUp.{blob_in}
use Rattle.sig_codec.specs.Reading.{◌>>=◌}
use Rattle.image_model.specs.Columns.{type_spec_signature}
use Rattle.image_model.specs.Rows.{token_of}
use Rattle.image_model.specs.Streams.{blobs_of}
use Rattle.signature_facts.specs.declared.facts.Facts.{Facts}
use Rattle.signature_facts.specs.declared.facts.OwnerFacts.{OwnerFacts}
use Rattle.signature_facts.specs.Scanning.{OwnersFacts, whole_type}
use Rattle.interface_numbers.specs.Rows.{NamesType}

abbrev pub type_hash : Option Facts → ℕ
type_hash None = 0
type_hash (Some of) = of.hash

abbrev pub owner_hash : Option OwnerFacts → ℕ
owner_hash None = 0
owner_hash (Some of) = of.facts.hash

-- what the blob at an index spells
unfoldable pub spec_hash : List ℕ → OwnersFacts → ℕ → ℕ
spec_hash image facts index = type_hash (blob_in (blobs_of image) index >>= whole_type facts)

-- what a token names
abbrev pub name_hash : OwnersFacts → ℕ → ℕ
name_hash facts token = owner_hash (facts token)

abbrev pub hash_by : List ℕ → OwnersFacts → (table type : ℕ) → ℕ
hash_by image facts table type =
    if table == 0x1B then spec_hash image facts (type_spec_signature image type) else name_hash facts (token_of table type)

-- the type that a row names has a hash
abbrev pub HasHash : List ℕ → OwnersFacts → (row hash : ℕ) → Type 0
HasHash image facts row hash = (table type : ℕ) × NamesType image row table type × (hash ≡ hash_by image facts table type)
