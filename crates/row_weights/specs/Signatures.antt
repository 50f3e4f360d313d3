-- What a signature weighs, by facts of what its tokens name (II.23.2); 0 where none is spelled. What passes the last number of 32 bits
-- stays there.
use Rattle.std.specs.Prelude.{◌≡◌, ℕ, ◌+◌, ◌*◌, List, slice_get, Option, Some, None}
use Rattle.hash_places.specs.Slots.{place_of}
use Rattle.hash_places.specs.declared.slots.Slot.{Slot}
use Rattle.heaps.specs.LookUp.{blob_in}
use Rattle.image_model.specs.Streams.{blobs_of}
use Rattle.signature_facts.specs.declared.facts.Facts.{Facts}
use Rattle.signature_facts.specs.declared.facts.ListFacts.{ListFacts}
use Rattle.signature_facts.specs.declared.facts.MethodFacts.{MethodFacts}
use Rattle.signature_facts.specs.Facts.{capped}
use Rattle.signature_facts.specs.Scanning.{OwnersFacts, whole_type, whole_field, whole_locals, whole_instantiation, whole_method, whole_property}
use Rattle.row_weights.specs.declared.kind.Kind.{Kind}
use Rattle.row_weights.specs.declared.kind.Kind.TheVariants as kind

abbrev pub type_weighed : Option Facts → ℕ
type_weighed None = 0
type_weighed (Some f) = f.weight

abbrev pub method_weighed : Option MethodFacts → ℕ
method_weighed None = 0
method_weighed (Some m) = m.facts.weight

abbrev pub list_weighed : Option ListFacts → ℕ
list_weighed None = 0
list_weighed (Some l) = l.facts.weight

-- locals count 64 each besides
abbrev pub locals_weighed : Option ListFacts → ℕ
locals_weighed None = 0
locals_weighed (Some l) = capped (l.facts.weight + capped (l.count * 64))

-- the bytes of a signature, read as this kind
abbrev pub weighed_blob : OwnersFacts → Kind → List ℕ → ℕ
weighed_blob facts kind.Type b = type_weighed (whole_type facts b)
weighed_blob facts kind.Field b = type_weighed (whole_field facts b)
weighed_blob facts kind.Method b = method_weighed (whole_method facts b)
weighed_blob facts kind.Property b = method_weighed (whole_property facts b)
weighed_blob facts kind.Locals b = locals_weighed (whole_locals facts b)
weighed_blob facts kind.Instantiation b = list_weighed (whole_instantiation facts b)

abbrev pub weighed_in : OwnersFacts → Kind → Option (List ℕ) → ℕ
weighed_in facts kind None = 0
weighed_in facts kind (Some b) = weighed_blob facts kind b

-- the signature at an index of `#Blob`
unfoldable pub weighed : List ℕ → OwnersFacts → Kind → ℕ → ℕ
weighed image facts kind index = weighed_in facts kind (blob_in (blobs_of image) index)

-- a number for each kind
abbrev pub number_of : Kind → ℕ
number_of kind.Type = 0
number_of kind.Field = 1
number_of kind.Method = 2
number_of kind.Property = 3
number_of kind.Locals = 4
number_of kind.Instantiation = 5

-- a number for each kind and index
abbrev pub key : Kind → ℕ → ℕ
key kind index = index * 8 + number_of kind

-- what was weighed is kept at the place of its key
pub record AreWeighed (image : List ℕ) (facts : OwnersFacts) (slots : List Slot) (weights : List ℕ) : Type 0 where
  pub kept : (kind : Kind) (index place : ℕ) → place_of slots (key kind index) ≡ Some place → slice_get weights place ≡ Some (weighed image facts kind index)
