-- What I14 asks of a signature by itself: that it is spelled whole, by the kind that its column wants, with its numbers in bounds, and
-- whether it has a sentinel (II.23.2).
use Rattle.std.specs.Prelude.{◌≡◌, ℕ, ◌+◌, ◌*◌, ◌&&◌, Bool, true, false, nat_le, List, slice_get, Option, Some, None}
use Rattle.heaps.specs.LookUp.{blob_in}
use Rattle.hash_places.specs.Slots.{place_of}
use Rattle.hash_places.specs.declared.slots.Slot.{Slot}
use Rattle.image_model.specs.Streams.{blobs_of}
use Rattle.image_model.specs.Terms.{max_count}
use Rattle.signature_facts.specs.declared.facts.Facts.{Facts}
use Rattle.signature_facts.specs.declared.facts.ListFacts.{ListFacts}
use Rattle.signature_facts.specs.declared.facts.MethodFacts.{MethodFacts}
use Rattle.signature_facts.specs.Scanning.{OwnersFacts, whole_type, whole_field, whole_locals, whole_instantiation, whole_method, whole_property}
use Rattle.signature_verdicts.specs.declared.kind.Kind.{Kind}
use Rattle.signature_verdicts.specs.declared.kind.Kind.TheVariants as kind
use Rattle.signature_verdicts.specs.declared.kind.Verdict.{Verdict}

abbrev pub damaged : Verdict
damaged = record { is_spelled = false; is_bounded = false; has_sentinel = false }

abbrev pub judged_type : Option Facts → Verdict
judged_type None = damaged
judged_type (Some f) = record { is_spelled = true; is_bounded = nat_le f.rank 32; has_sentinel = false }

abbrev pub judged_method : Option MethodFacts → Verdict
judged_method None = damaged
judged_method (Some m) =
    record { is_spelled = true; is_bounded = nat_le m.generic max_count && nat_le m.params max_count && nat_le m.facts.rank 32; has_sentinel = m.has_sentinel }

abbrev pub judged_locals : Option ListFacts → Verdict
judged_locals None = damaged
judged_locals (Some l) = record { is_spelled = true; is_bounded = nat_le l.count max_count && nat_le l.facts.rank 32; has_sentinel = false }

abbrev pub judged_list : Option ListFacts → Verdict
judged_list None = damaged
judged_list (Some l) = record { is_spelled = true; is_bounded = nat_le l.facts.rank 32; has_sentinel = false }

-- the bytes of a signature, read as this kind
abbrev pub judged_blob : OwnersFacts → Kind → List ℕ → Verdict
judged_blob facts kind.Type b = judged_type (whole_type facts b)
judged_blob facts kind.Field b = judged_type (whole_field facts b)
judged_blob facts kind.Method b = judged_method (whole_method facts b)
judged_blob facts kind.Property b = judged_method (whole_property facts b)
judged_blob facts kind.Locals b = judged_locals (whole_locals facts b)
judged_blob facts kind.Instantiation b = judged_list (whole_instantiation facts b)

abbrev pub judged_in : OwnersFacts → Kind → Option (List ℕ) → Verdict
judged_in facts kind None = damaged
judged_in facts kind (Some b) = judged_blob facts kind b

-- the signature at an index of `#Blob`
unfoldable pub judged : List ℕ → OwnersFacts → Kind → ℕ → Verdict
judged image facts kind index = judged_in facts kind (blob_in (blobs_of image) index)

-- a number for each kind
abbrev pub number_of : Kind → ℕ
number_of kind.Type = 0
number_of kind.Field = 1
number_of kind.Method = 2
number_of kind.Property = 3
number_of kind.Locals = 4
number_of kind.Instantiation = 5

-- a number for each kind and index
abbrev pub key : Kind → ℕ → ℕ
key kind index = index * 8 + number_of kind

-- what was judged is kept at the place of its key
pub record AreJudged (image : List ℕ) (facts : OwnersFacts) (slots : List Slot) (verdicts : List Verdict) : Type 0 where
  pub kept : (kind : Kind) (index place : ℕ) → place_of slots (key kind index) ≡ Some place → slice_get verdicts place ≡ Some (judged image facts kind index)
