-- Texts in a heap that is being filled (ECMA-335 II.24.2.3).
use Rattle.std.specs.Prelude.{◌≢◌, ℕ, ◌+◌, List, All, Contains, length}
use Rattle.heaps.specs.Content.{HasText}
use Rattle.heaps.specs.Heap.{Heap}
use Rattle.type_terms.specs.declared.name.TypeId.{TypeId}

-- an index in use holds a text
pub record HoldsText (strings : Heap) (text : List ℕ) (index : ℕ) : Type 0 where
  pub there : HasText strings.bytes index text
  pub used : Contains strings.used index

-- whatever a heap holds, it holds later
pub record KeepsTexts (old new : Heap) : Type 0 where
  pub texts : (index : ℕ) (text : List ℕ) → HasText old.bytes index text → HasText new.bytes index text
  pub used : (index : ℕ) → Contains old.used index → Contains new.used index

-- texts of an image hold no zero byte
abbrev pub HasNoZero : List ℕ → Type 0
HasNoZero text = All (λ byte. byte ≢ 0) text

-- ---- names of types

-- the name and the space of a type hold no zero byte
pub record IsPlainId (id : TypeId) : Type 0 where
  pub name : HasNoZero id.name
  pub space : HasNoZero id.space

-- the bytes that the texts of a type take in the heap, each with the zero that ends it
abbrev pub id_size : TypeId → ℕ
id_size id = length id.name + length id.space + 2

-- the second and the third cell of a row are the name and the space of a type
pub record HoldsId (strings : Heap) (id : TypeId) (name space : ℕ) : Type 0 where
  pub name_is : HoldsText strings id.name name
  pub space_is : HoldsText strings id.space space
