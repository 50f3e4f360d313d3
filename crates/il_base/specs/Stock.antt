-- Files in memory by their names.
use Rattle.std.specs.Prelude.{◌≡◌, ◌≢◌, ℕ, ◌≤◌, [], List, Option, Some, IsSomeAnd}
use Rattle.std.specs.Option.{option_map, option_map_or}
use Rattle.il_base.specs.Outside.{Files}

-- bytes, and the length up to which they grow without memory
pub record Held : Type 0 where
  pub bytes : List ℕ
  pub room : ℕ

-- what is stored under each name
abbrev pub Stock : Type 0
Stock = List ℕ → Option Held

-- what is stored under a name, where an absent one counts as nothing
abbrev pub held_at : Stock → List ℕ → Held
held_at stock name = option_map_or (λ held. held) (stock name) (record { bytes = []; room = 0 })

-- the bytes under each name
abbrev pub bytes_of : Stock → Files
bytes_of stock name = option_map (λ held. held.bytes) (stock name)

-- the name is there, and what is stored grows to so many bytes without memory
abbrev pub HasRoomIn : Stock → List ℕ → ℕ → Type 0
HasRoomIn stock name count = IsSomeAnd (stock name) (λ held. count ≤ held.room)

-- no room shrinks
abbrev pub KeepsRoomIn : Stock → Stock → Type 0
KeepsRoomIn before now = (name : List ℕ) (count : ℕ) → HasRoomIn before name count → HasRoomIn now name count

-- the name has this now, and the others are as before
pub record Puts (before now : Stock) (name : List ℕ) (held : Held) : Type 0 where
  pub here : now name ≡ Some held
  pub others : (other : List ℕ) → other ≢ name → now other ≡ before other
