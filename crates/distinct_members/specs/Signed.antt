-- When two rows have one signature, and the hashes by which such rows are found (II.23.2.1, II.23.2.4, II.23.2.5).
use Rattle.std.specs.Prelude.{◌≡◌, ℕ, Bool, List, Option, Some, None}
use Rattle.body_codec.specs.Names.{NameMap}
use Rattle.heaps.specs.LookUp.{blob_in}
use Rattle.sig_codec.specs.Reading.{◌>>=◌}
use Rattle.image_model.specs.Columns.{field_signature, method_signature, property_signature}
use Rattle.image_model.specs.Members.{HaveOne}
use Rattle.image_model.specs.Namings.{AreNamings}
use Rattle.image_model.specs.Streams.{blobs_of}
use Rattle.image_model.specs.Terms.{FieldHas, MethodHas, PropertyHas, HasSignatures}
use Rattle.signature_equality.specs.Numbering.{IsCanon}
use Rattle.signature_facts.specs.declared.facts.Facts.{Facts}
use Rattle.signature_facts.specs.declared.facts.MethodFacts.{MethodFacts}
use Rattle.signature_facts.specs.Facts.{Naming}
use Rattle.signature_facts.specs.Owners.{AreFacts}
use Rattle.signature_facts.specs.Scanning.{OwnersFacts, whole_field, whole_method, whole_property}

-- ---- hashes

abbrev pub type_hash : Option Facts → ℕ
type_hash None = 0
type_hash (Some of) = of.hash

abbrev pub sig_hash : Option MethodFacts → ℕ
sig_hash None = 0
sig_hash (Some of) = of.facts.hash

unfoldable pub field_hash : List ℕ → OwnersFacts → ℕ → ℕ
field_hash image facts row = type_hash (blob_in (blobs_of image) (field_signature image row) >>= whole_field facts)

unfoldable pub method_hash : List ℕ → OwnersFacts → ℕ → ℕ
method_hash image facts row = sig_hash (blob_in (blobs_of image) (method_signature image row) >>= whole_method facts)

unfoldable pub property_hash : List ℕ → OwnersFacts → ℕ → ℕ
property_hash image facts row = sig_hash (blob_in (blobs_of image) (property_signature image row) >>= whole_property facts)

-- ---- equal signatures

-- what holds by the names of an image
abbrev pub ByNames : List ℕ → (NameMap → Type 0) → Type 0
ByNames image Holds = (names : NameMap) → AreNamings image names → Holds names

abbrev pub FieldsAlike : List ℕ → ℕ → ℕ → Type 0
FieldsAlike image a b = ByNames image (λ names. HaveOne (FieldHas image names) a b)

abbrev pub MethodsAlike : List ℕ → ℕ → ℕ → Type 0
MethodsAlike image a b = ByNames image (λ names. HaveOne (MethodHas image names) a b)

abbrev pub PropertiesAlike : List ℕ → ℕ → ℕ → Type 0
PropertiesAlike image a b = ByNames image (λ names. HaveOne (PropertyHas image names) a b)

-- the image has names, and its rows signatures; a test tells tokens that name the same
pub record CanTell (image : List ℕ) (canon : ℕ → ℕ → Bool) : Type 0 where
  pub named : (names : NameMap) × AreNamings image names
  pub signatures : ByNames image (λ names. (table row : ℕ) → HasSignatures image names table row)
  pub canon_is : ByNames image (λ names. IsCanon names.owners canon)

-- facts are those of what tokens name
abbrev pub TellFacts : List ℕ → OwnersFacts → Type 0
TellFacts image facts = ByNames image (λ names. (naming : Naming) × AreFacts naming names.owners facts)
