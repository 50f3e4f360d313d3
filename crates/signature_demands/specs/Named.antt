-- What is told of the types that an image declares and refers to, where names have no weight (II.22.37, II.22.38); and the demand on
-- signatures, whatever the tokens of the image name.
use Rattle.std.specs.Prelude.{ℕ, ◌⊎◌, ◌/◌, ◌%◌, ◌^◌, ◌==◌, ◌&&◌, ◌||◌, nat_lt, nat_le, Bool, true, if◌then◌else◌, List, Some, None}
use Rattle.body_codec.specs.Names.{NameMap}
use Rattle.image_model.specs.Faults.{AllMeet, signatures}
use Rattle.image_model.specs.Namings.{AreNamings}
use Rattle.metadata_tables.specs.declared.coded.Coded.TheVariants.{MethodDefOrRef}
use Rattle.image_model.specs.Columns.{instance_method, override_body, override_declaration}
use Rattle.image_model.specs.Rows.{count_of, HasRow, Names}
use Rattle.signature_facts.specs.Facts.{Naming, name_facts}
use Rattle.signature_facts.specs.Scanning.{OwnersFacts}
use Rattle.signature_facts.specs.declared.facts.OwnerFacts.{OwnerFacts}

-- a token names a row of TypeDef or TypeRef
abbrev pub names_type : List ℕ → ℕ → Bool
names_type image token =
    (token / 2 ^ 24 == 0x01 || token / 2 ^ 24 == 0x02) && nat_lt 0 (token % 2 ^ 24) && nat_le (token % 2 ^ 24) (count_of image (token / 2 ^ 24))

-- names without a weight
abbrev pub nameless : Naming
nameless = record { weight = λ name. 0; hash = λ name. 0 }

abbrev pub plain_name : OwnerFacts
plain_name = record { is_name = true; facts = record { depth = 0; nodes = 0; rank = 0; weight = 0; hash = 0 } }

abbrev pub names_told : List ℕ → OwnersFacts
names_told image token = if names_type image token then Some plain_name else None

-- each row meets the demand
abbrev pub AreSigned : List ℕ → Type 0
AreSigned image = (names : NameMap) → AreNamings image names → AllMeet image names signatures

-- ---- rows that name methods

-- a row of MethodImpl or of MethodSpec names a MemberRef
abbrev pub NamesMember : List ℕ → (row member : ℕ) → Type 0
NamesMember image row member =
    (HasRow image 0x19 row × Names MethodDefOrRef (override_body image row) 0x0A member) ⊎ ((HasRow image 0x19 row × Names MethodDefOrRef (override_declaration image row) 0x0A member)
    ⊎ (HasRow image 0x2B row × Names MethodDefOrRef (instance_method image row) 0x0A member))

-- each is there
abbrev pub MembersAreThere : List ℕ → Type 0
MembersAreThere image = (row member : ℕ) → NamesMember image row member → HasRow image 0x0A member
