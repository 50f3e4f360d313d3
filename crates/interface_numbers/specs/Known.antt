-- What is known of an image whose rows of InterfaceImpl get numbers (II.22.23).
use Rattle.std.specs.Prelude.{◌≡◌, ◌↔◌, ℕ, ◌^◌, ◌≤◌, Bool, List, Option, Some, IsTrue, length}
use Rattle.type_terms.specs.declared.term.Owner.{Owner}
use Rattle.type_terms.specs.declared.term.SigType.{SigType}
use Rattle.sig_codec.specs.Reading.{◌>>=◌, whole_type}
use Rattle.heaps.specs.LookUp.{blob_in}
use Rattle.body_codec.specs.Names.{NameMap}
use Rattle.image_model.specs.Columns.{interface_type, type_spec_signature}
use Rattle.image_model.specs.Faults.{RowRule, Holds, HasTables}
use Rattle.image_model.specs.Namings.{AreNamings}
use Rattle.image_model.specs.Reading.{OwnerIs}
use Rattle.image_model.specs.Rows.{HasRow}
use Rattle.image_model.specs.Streams.{blobs_of}
use Rattle.signature_equality.specs.Numbering.{IsCanon}
use Rattle.signature_facts.specs.Facts.{Naming}
use Rattle.signature_facts.specs.Owners.{AreFacts}
use Rattle.signature_facts.specs.Scanning.{OwnersFacts}
use Rattle.told_weights.specs.Fresh.{NameOneType}
use Rattle.interface_numbers.specs.Rows.{NameTypes}

-- what holds by the names of an image
abbrev pub ByNames : List ℕ → (NameMap → Type 0) → Type 0
ByNames image Is = (names : NameMap) → AreNamings image names → Is names

-- I1 to I23 hold of an image of at most 2^26 bytes, these are facts of what its tokens name, and a test tells tokens that name the same
pub record CanNumber (image : List ℕ) (facts : OwnersFacts) (canon : ℕ → ℕ → Bool) : Type 0 where
  pub short : length image ≤ 2 ^ 26
  pub tables : HasTables image
  pub named : (names : NameMap) × AreNamings image names
  pub rows : ByNames image (λ names. (rule : RowRule) → Holds image names rule)
  pub facts_are : ByNames image (λ names. (naming : Naming) × AreFacts naming names.owners facts)
  pub canon_is : ByNames image (λ names. IsCanon names.owners canon)

-- two rows name one type, whatever tells what tokens name
abbrev pub SameType : List ℕ → (one other : ℕ) → Type 0
SameType image one other = ByNames image (λ names. NameOneType image names one other)

-- each row names one type
pub record AreKnown (image : List ℕ) (facts : OwnersFacts) (canon : ℕ → ℕ → Bool) : Type 0 where
  pub named : (names : NameMap) × AreNamings image names
  pub types : NameTypes image
  pub owners : ByNames image (λ names. (row : ℕ) → HasRow image 0x09 row → (owner : Owner) × OwnerIs image names (interface_type image row) owner)
  pub one : ByNames image (λ names. (value : ℕ) (a b : Owner) → OwnerIs image names value a → OwnerIs image names value b → a ≡ b)
  pub facts_are : ByNames image (λ names. (naming : Naming) × AreFacts naming names.owners facts)
  pub canon_is : ByNames image (λ names. IsCanon names.owners canon)

-- a test tells whether the terms of two rows of TypeSpec are one, where they have terms
abbrev pub HaveOneTerm : List ℕ → (ℕ → ℕ → Bool) → (one other : ℕ) → Bool → Type 0
HaveOneTerm image canon one other told =
    (owners : ℕ → Option Owner) (s t : SigType) → IsCanon owners canon → (blob_in (blobs_of image) (type_spec_signature image one) >>= whole_type owners) ≡ Some s
    → (blob_in (blobs_of image) (type_spec_signature image other) >>= whole_type owners) ≡ Some t → IsTrue told ↔ (s ≡ t)
