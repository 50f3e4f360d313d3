-- What is known of an image whose attributes and values are judged, and the demand on attributes by the names of the image (II.22.10).
use Rattle.std.specs.Prelude.{◌≡◌, ℕ, ◌^◌, ◌≤◌, List, Option, Some, length}
use Rattle.body_codec.specs.Names.{NameMap}
use Rattle.heaps.specs.LookUp.{blob_in}
use Rattle.sig_codec.specs.Reading.{◌>>=◌}
use Rattle.image_model.specs.Columns.{member_signature}
use Rattle.image_model.specs.Faults.{HasTables}
use Rattle.image_model.specs.Members.{HasConstructor, HasAttribute}
use Rattle.image_model.specs.Namings.{AreNamings}
use Rattle.image_model.specs.Streams.{blobs_of}
use Rattle.image_model.specs.Structure.{HasScopes}
use Rattle.image_model.specs.Terms.{HasSignatures}
use Rattle.row_demands.specs.Structured.{MeetStructure}
use Rattle.signature_facts.specs.declared.facts.MethodFacts.{MethodFacts}
use Rattle.signature_facts.specs.Facts.{Naming}
use Rattle.signature_facts.specs.Owners.{AreFacts}
use Rattle.signature_facts.specs.Scanning.{OwnersFacts, whole_method}

-- what holds by the names of an image
abbrev pub ByNames : List ℕ → (NameMap → Type 0) → Type 0
ByNames image Holds = (names : NameMap) → AreNamings image names → Holds names

-- I1 to I14 hold of an image of at most 2^26 bytes, it has names, and these are facts of what its tokens name
pub record CanJudge (image : List ℕ) (facts : OwnersFacts) : Type 0 where
  pub small : length image ≤ 2 ^ 26
  pub tables : HasTables image
  pub meets : MeetStructure image
  pub scopes : (table row : ℕ) → HasScopes image table row
  pub named : (names : NameMap) × AreNamings image names
  pub signatures : ByNames image (λ names. (table row : ℕ) → HasSignatures image names table row)
  pub facts_are : ByNames image (λ names. (naming : Naming) × AreFacts naming names.owners facts)

-- the signature of a MemberRef is a method's, as a scan tells
abbrev pub SpellsMethod : List ℕ → OwnersFacts → ℕ → Type 0
SpellsMethod image facts row = (m : MethodFacts) × (blob_in (blobs_of image) (member_signature image row) >>= whole_method facts ≡ Some m)

abbrev pub HasConstructorByNames : List ℕ → ℕ → Type 0
HasConstructorByNames image row = ByNames image (λ names. HasConstructor image names row)

abbrev pub HasAttributeByNames : List ℕ → (table row : ℕ) → Type 0
HasAttributeByNames image table row = ByNames image (λ names. HasAttribute image names table row)
