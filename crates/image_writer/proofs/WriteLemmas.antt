-- Why an assembly has no image.
use Rattle.std.proofs.Common.{◌≡◌, ap, refl, sym, ◌∙◌, ℕ, ◌<◌, ◌≤◌, ◌^◌, List, length, arith}
use Rattle.std.specs.Prelude.{min}
use Rattle.assembly_tree.specs.Room.{texts, room_of_texts, room}
use Rattle.assembly_tree.specs.Weight.{weight_of}
use Rattle.assembly_tree.specs.declared.assembly.Assembly.{Assembly}
use Rattle.heaps.specs.Heap.{Heap}
use Rattle.image_tokens.specs.Loaded.{AreLoaded}
use Rattle.image_writer.specs.Refused.{HasFullStrings}

room_is_that : (a : Assembly) → room a ≡ room_of_texts (texts a)
unfolding room
room_is_that a = refl

-- the bytes of the heap of loaded texts are the room
pub room_is : (a : Assembly) (user : Heap) (bytes : List ℕ) → bytes ≡ user.bytes → AreLoaded user (texts a) → length bytes ≡ room a
room_is a user bytes lent loaded = ap (length {A = ℕ}) lent ∙ loaded.size ∙ sym (room_is_that a)

pub has_full : (a : Assembly) (user : Heap) (bytes : List ℕ) (weight : ℕ) → bytes ≡ user.bytes → AreLoaded user (texts a) → weight ≡ min (weight_of a) (2 ^ 63) → weight ≤ 2 ^ 26
    → 2 ^ 24 < length bytes → HasFullStrings a (length bytes)
has_full a user bytes weight lent loaded weighed light full =
    let is = room_is a user bytes lent loaded in
    record { small = omega arith; full = omega arith; is = is }
