-- What a run reads: its inputs, one after the other, each whole.
use Rattle.std.specs.Prelude.{◌≡◌, ℕ, ◌≤◌, ◌<◌, ◌⊎◌, Bool, IsTrue, List, [], ◌∷◌, ◌++◌, None, Some, length}
use Rattle.il_base.specs.Outside.{Files, Rose}
use Rattle.run_endings.specs.declared.input.Input.{Input}
use Rattle.run_endings.specs.declared.input.Stop.{Stop}
use Rattle.run_endings.specs.declared.input.Stop.TheVariants.{Unread, TooLong, NoMemory}

-- These bytes were read for an input: there are at most as many as its limit, and where the files are told they are those of
-- the file with its name.
pub record IsRead (tells : Bool) (files : Files) (input : Input) (bytes : List ℕ) : Type 0 where
  pub within : length bytes ≤ input.limit
  pub told : IsTrue tells → files input.name ≡ Some bytes

-- these were read for all inputs, in their order
abbrev pub AreRead : Bool → Files → List Input → List (List ℕ) → Type 0
AreRead tells files [] [] = Unit {0}
AreRead tells files (input ∷ inputs) (bytes ∷ given) = IsRead tells files input bytes × AreRead tells files inputs given
AreRead tells files _ _ = ⊥

-- reading comes as far as this input: those before it are read
pub record StopsAt (tells : Bool) (files : Files) (all : List Input) (at : Input) : Type 0 where
  pub passed : List Input
  pub rest : List Input
  pub is : all ≡ passed ++ at ∷ rest
  pub given : List (List ℕ)
  pub read : AreRead tells files passed given

-- the told file has more bytes than the input's limit
pub record IsLonger (files : Files) (input : Input) : Type 0 where
  pub bytes : List ℕ
  pub told : files input.name ≡ Some bytes
  pub more : input.limit < length bytes

-- Why reading stopped. At an input that can't be read, a count of failed reads rose, or the told files lack it; a told one that
-- is too long has more bytes than its limit. Want of memory has no cause.
abbrev pub IsStop : Bool → Files → ℕ → ℕ → List Input → Stop → Type 0
IsStop tells files reads reads_now all (Unread at) = StopsAt tells files all at.now × (Rose reads reads_now ⊎ (IsTrue tells × (files at.now.name ≡ None)))
IsStop tells files reads reads_now all (TooLong at) = StopsAt tells files all at.now × (IsTrue tells → IsLonger files at.now)
IsStop tells files reads reads_now all NoMemory = Unit {0}
