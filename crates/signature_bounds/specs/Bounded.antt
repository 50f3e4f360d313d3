-- What is asked of the signature of a row (I14), by what is told of it without its term: a scan of its blob finds facts, which are in
-- bounds (II.23.2).
use Rattle.std.specs.Prelude.{◌≡◌, ℕ, ◌≤◌, ◌⊎◌, false, List, Option, Some}
use Rattle.heaps.specs.LookUp.{blob_in}
use Rattle.metadata_tables.specs.declared.coded.Coded.TheVariants.{MethodDefOrRef}
use Rattle.sig_codec.specs.Reading.{◌>>=◌}
use Rattle.image_model.specs.Columns.{field_signature, method_signature, member_signature, property_signature, locals_signature, type_spec_signature, instance_method, instance_arguments, override_body, override_declaration}
use Rattle.image_model.specs.Rows.{HasRow, Names}
use Rattle.image_model.specs.Streams.{blobs_of}
use Rattle.image_model.specs.Terms.{max_count}
use Rattle.image_model.specs.Used.{IsUsed}
use Rattle.signature_facts.specs.declared.facts.Facts.{Facts}
use Rattle.signature_facts.specs.declared.facts.ListFacts.{ListFacts}
use Rattle.signature_facts.specs.declared.facts.MethodFacts.{MethodFacts}
use Rattle.signature_facts.specs.Scanning.{OwnersFacts, whole_type, whole_field, whole_locals, whole_instantiation, whole_method, whole_property}

-- what a scan of the blob at an index finds
abbrev pub scanned_at : {F : Type 0} → List ℕ → (List ℕ → Option F) → ℕ → Option F
scanned_at image scan index = blob_in (blobs_of image) index >>= scan

-- something is found, and it is so
abbrev pub IsKept : {F : Type 0} → Option F → (F → Type 0) → Type 0
IsKept {F = F} found Is = (f : F) × (found ≡ Some f) × Is f

-- arrays of at most 32 dimensions
abbrev pub HasRank : Facts → Type 0
HasRank f = f.rank ≤ 32

-- at most 65,535 generic parameters and parameters
abbrev pub IsBounded : MethodFacts → Type 0
IsBounded m = (m.generic ≤ max_count) × (m.params ≤ max_count) × HasRank m.facts

abbrev pub FieldIs : List ℕ → OwnersFacts → ℕ → Type 0
FieldIs image facts index = IsKept (scanned_at image (whole_field facts) index) HasRank

abbrev pub MethodIs : List ℕ → OwnersFacts → ℕ → (MethodFacts → Type 0) → Type 0
MethodIs image facts index = IsKept (scanned_at image (whole_method facts) index)

-- a MethodDefOrRef index names a MethodDef, or a MemberRef with a method's signature
abbrev pub NamesMethod : List ℕ → OwnersFacts → ℕ → Type 0
NamesMethod image facts value =
    (table row : ℕ) × Names MethodDefOrRef value table row × (table ≡ 0x0A → MethodIs image facts (member_signature image row) (λ m. Unit {0}))

pub record HasBounded (image : List ℕ) (facts : OwnersFacts) (table row : ℕ) : Type 0 where
  pub field : table ≡ 0x04 → HasRow image 0x04 row → FieldIs image facts (field_signature image row)
  pub method : table ≡ 0x06 → HasRow image 0x06 row → MethodIs image facts (method_signature image row) (λ m. IsBounded m × (m.has_sentinel ≡ false))
  pub property : table ≡ 0x17 → HasRow image 0x17 row → IsKept (scanned_at image (whole_property facts) (property_signature image row)) IsBounded
  pub member : table ≡ 0x0A → IsUsed image 0x0A row → MethodIs image facts (member_signature image row) IsBounded ⊎ FieldIs image facts (member_signature image row)
  pub locals : table ≡ 0x11 → IsUsed image 0x11 row → IsKept (scanned_at image (whole_locals facts) (locals_signature image row)) (λ l. (l.count ≤ max_count) × HasRank l.facts)
  pub override : table ≡ 0x19 → HasRow image 0x19 row → NamesMethod image facts (override_body image row) × NamesMethod image facts (override_declaration image row)
  pub type : table ≡ 0x1B → IsUsed image 0x1B row → IsKept (scanned_at image (whole_type facts) (type_spec_signature image row)) HasRank
  pub instance : table ≡ 0x2B → IsUsed image 0x2B row → IsKept (scanned_at image (whole_instantiation facts) (instance_arguments image row)) (λ l. HasRank l.facts)
  pub instance_of : table ≡ 0x2B → HasRow image 0x2B row → NamesMethod image facts (instance_method image row)
