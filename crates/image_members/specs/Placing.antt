-- Bytes in the code of an image, which begins at the RVA 0x2050 (ECMA-335 II.25.4, II.22.18).
use Rattle.std.specs.Prelude.{◌≡◌, ℕ, ◌+◌, ◌%◌, ◌<◌, List, ◌++◌, length}

-- these bytes stand in the code at an RVA
pub record StandsIn (code : List ℕ) (rva : ℕ) (bytes : List ℕ) : Type 0 where
  pub before : List ℕ
  pub after : List ℕ
  pub is : code ≡ before ++ bytes ++ after
  pub at : rva ≡ 0x2050 + length before

-- the code goes on to a multiple
pub record FillsUp (multiple : ℕ) (from to : List ℕ) : Type 0 where
  pub more : List ℕ
  pub is : to ≡ from ++ more
  pub few : length more < multiple
  pub full : length to % multiple ≡ 0

-- these bytes have been added at an RVA that is a multiple
pub record Puts (multiple : ℕ) (bytes from to : List ℕ) (rva : ℕ) : Type 0 where
  pub more : List ℕ
  pub is : to ≡ from ++ more
  pub few : length more < multiple + length bytes
  pub stands : StandsIn to rva bytes
  pub aligned : rva % multiple ≡ 0
