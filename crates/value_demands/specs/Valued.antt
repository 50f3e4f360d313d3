-- The demand on values by the names of an image (I16), and what is told of signatures for it.
use Rattle.std.specs.Prelude.{◌≡◌, ℕ, ◌==◌, if◌then◌else◌, List, Option, Some, None}
use Rattle.type_terms.specs.declared.reference.MethodSig.{MethodSig}
use Rattle.heaps.specs.LookUp.{blob_in}
use Rattle.sig_codec.specs.Reading.{◌>>=◌}
use Rattle.image_model.specs.Columns.{method_signature, member_signature}
use Rattle.image_model.specs.Members.{HasValues, FitsInstance, FitsSignature}
use Rattle.image_model.specs.Streams.{blobs_of}
use Rattle.image_model.specs.Terms.{MethodHas}
use Rattle.signature_facts.specs.declared.facts.ListFacts.{ListFacts}
use Rattle.signature_facts.specs.declared.facts.MethodFacts.{MethodFacts}
use Rattle.signature_facts.specs.Scanning.{OwnersFacts, whole_method, whole_instantiation}
use Rattle.attribute_demands.specs.Judging.{ByNames}
use Rattle.value_demands.specs.declared.counts.Counts.{Counts}

abbrev pub HasValuesByNames : List ℕ → (table row : ℕ) → Type 0
HasValuesByNames image table row = ByNames image (λ names. HasValues image names table row)

abbrev pub FitsByNames : List ℕ → ℕ → Type 0
FitsByNames image row = ByNames image (λ names. FitsInstance image names row)

abbrev pub SignatureFitsByNames : List ℕ → ℕ → Type 0
SignatureFitsByNames image row = ByNames image (λ names. (sig : MethodSig) × MethodHas image names row sig × FitsSignature image row sig)

-- how many generic parameters and parameters a method has, if there is one
abbrev pub counts_of : Option MethodFacts → Counts
counts_of None = record { generic = 0; params = 0 }
counts_of (Some m) = record { generic = m.generic; params = m.params }

-- how many types a list has, if there is one
abbrev pub count_of_list : Option ListFacts → ℕ
count_of_list None = 0
count_of_list (Some l) = l.count

-- the signature of a MethodDef or a MemberRef
abbrev pub signature_of : List ℕ → (table row : ℕ) → ℕ
signature_of image table row = if table == 0x06 then method_signature image row else if table == 0x0A then member_signature image row else 0

-- what a scan of the blob at an index finds: a method, and arguments
abbrev pub scanned_method : List ℕ → OwnersFacts → ℕ → Option MethodFacts
scanned_method image facts index = blob_in (blobs_of image) index >>= whole_method facts

abbrev pub scanned_list : List ℕ → OwnersFacts → ℕ → Option ListFacts
scanned_list image facts index = blob_in (blobs_of image) index >>= whole_instantiation facts
