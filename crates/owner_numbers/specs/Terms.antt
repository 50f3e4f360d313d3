-- The types of TypeSpec rows (II.22.39), and what is told of them.
use Rattle.std.specs.Prelude.{◌≡◌, ℕ, ◌-◌, ◌^◌, min, List, Option, Some, None, option_map}
use Rattle.type_terms.specs.declared.term.Owner.{Owner}
use Rattle.type_terms.specs.declared.term.SigType.{SigType}
use Rattle.heaps.specs.LookUp.{blob_in}
use Rattle.sig_codec.specs.Reading.{◌>>=◌, whole_type}
use Rattle.image_model.specs.Columns.{type_spec_signature}
use Rattle.image_model.specs.Naming.{TellsOwners}
use Rattle.image_model.specs.Rows.{count_of, token_of}
use Rattle.image_model.specs.Streams.{blobs_of}
use Rattle.signature_facts.specs.declared.facts.OwnerFacts.{OwnerFacts}
use Rattle.signature_facts.specs.Facts.{Naming}
use Rattle.signature_facts.specs.Owners.{AreFacts}
use Rattle.signature_facts.specs.Scanning.{OwnersFacts}

-- what the blob at an index spells, where tokens name what `owners` says
unfoldable pub term_in : List ℕ → (ℕ → Option Owner) → ℕ → Option SigType
term_in image owners index = blob_in (blobs_of image) index >>= whole_type owners

-- the type of a row
abbrev pub term_of : List ℕ → (ℕ → Option Owner) → ℕ → Option SigType
term_of image owners row = term_in image owners (type_spec_signature image row)

-- how many rows have a token: its row has three bytes (III.1.9)
abbrev pub spec_count : List ℕ → ℕ
spec_count image = min (count_of image 0x1B) (2 ^ 24 - 1)

-- ---- what is told

abbrev pub depth_in : OwnerFacts → ℕ
depth_in of = of.facts.depth

abbrev pub hash_in : Option OwnerFacts → ℕ
hash_in None = 0
hash_in (Some of) = of.facts.hash

-- how deep the type of a row is, and its hash
abbrev pub level_at : OwnersFacts → ℕ → Option ℕ
level_at facts row = option_map depth_in (facts (token_of 0x1B row))

abbrev pub hash_at : OwnersFacts → ℕ → ℕ
hash_at facts row = hash_in (facts (token_of 0x1B row))

-- some map tells what tokens name
abbrev pub IsTold : List ℕ → Type 0
IsTold image = (owners : ℕ → Option Owner) × TellsOwners image owners

-- these are facts of what tokens name
abbrev pub TellFacts : List ℕ → OwnersFacts → Type 0
TellFacts image facts = (owners : ℕ → Option Owner) → TellsOwners image owners → (naming : Naming) × AreFacts naming owners facts

-- two rows have one type, or none
abbrev pub HaveOneTerm : List ℕ → ℕ → ℕ → Type 0
HaveOneTerm image one other = (owners : ℕ → Option Owner) → TellsOwners image owners → term_of image owners one ≡ term_of image owners other
