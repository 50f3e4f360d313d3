-- Blobs in a heap that is being filled (ECMA-335 II.24.2.4).
use Rattle.std.specs.Prelude.{ℕ, List, Contains}
use Rattle.heaps.specs.Content.{HasBlob}
use Rattle.heaps.specs.Heap.{Heap}

-- an index in use holds a blob
pub record HoldsBlob (blobs : Heap) (blob : List ℕ) (index : ℕ) : Type 0 where
  pub there : HasBlob blobs.bytes index blob
  pub used : Contains blobs.used index

-- whatever a heap holds, it holds later
pub record KeepsBlobs (old new : Heap) : Type 0 where
  pub blobs : (index : ℕ) (blob : List ℕ) → HasBlob old.bytes index blob → HasBlob new.bytes index blob
  pub used : (index : ℕ) → Contains old.used index → Contains new.used index
