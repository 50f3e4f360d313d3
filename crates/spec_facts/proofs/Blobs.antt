-- The blob at an index, and what it spells.
use Rattle.std.proofs.Common.{◌≡◌, ℕ, List, Option, Some, None, refl}
use Rattle.heaps.specs.Content.{HasBlob}
use Rattle.heaps.specs.LookUp.{blob_in}
use Rattle.heaps.proofs.Computed.{blob_is_computed}
use Rattle.image_model.specs.Streams.{blobs_of}
use Rattle.sig_codec.specs.Reading.{◌>>=◌}
use Rattle.signature_facts.specs.Scanning.{OwnersFacts, whole_type}
use Rattle.spec_facts.specs.Rounds.{scanned_at}

pub scanned_some : (image : List ℕ) (owners : OwnersFacts) (index : ℕ) (b : List ℕ) → HasBlob (blobs_of image) index b → scanned_at image owners index ≡ whole_type owners b
unfolding scanned_at
scanned_some image owners index b h = rw ((blob_is_computed (blobs_of image) index b).0 h) refl

pub scanned_none : (image : List ℕ) (owners : OwnersFacts) (index : ℕ) → ((b : List ℕ) → HasBlob (blobs_of image) index b → ⊥) → scanned_at image owners index ≡ None
unfolding scanned_at
scanned_none image owners index lacks = go (blob_in (blobs_of image) index) refl
  where
    go : (r : Option (List ℕ)) → blob_in (blobs_of image) index ≡ r → (r >>= λ b. whole_type owners b) ≡ None
    go None e = refl
    go (Some b) e = absurd (lacks b ((blob_is_computed (blobs_of image) index b).1 e))
