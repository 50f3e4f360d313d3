-- Members that are alike, and their hashes.
use Rattle.std.specs.Prelude.{◌≡◌, ℕ, List}
use Rattle.type_terms.specs.Hashing.{mix}
use Rattle.image_model.specs.Members.{AreOfOneType, HaveOneName}
use Rattle.image_model.specs.Streams.{strings_of}
use Rattle.member_demands.specs.Semantics.{IsOwnedBy}
use Rattle.name_numbers.specs.Texts.{text_in, text_hash}

-- of one type, with one name and one signature
abbrev pub MembersAlike : List ℕ → (members : ℕ → List ℕ) → (name : ℕ → ℕ) → (alike : ℕ → ℕ → Type 0) → (one other : ℕ) → Type 0
MembersAlike image members name alike one other = AreOfOneType image members one other × HaveOneName image name one other × alike one other

-- the hash is made of the type, the name and the signature
abbrev pub MemberHashed : List ℕ → (members : ℕ → List ℕ) → (name hash : ℕ → ℕ) → (row hashed : ℕ) → Type 0
MemberHashed image members name hash row hashed =
    (type : ℕ) × IsOwnedBy image members row type × (hashed ≡ mix (mix type (text_hash (text_in (strings_of image) (name row)))) (hash row))
