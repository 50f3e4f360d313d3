-- What a run leaves: a file, standard output and standard error, whole or cut where a write failed.
use Rattle.std.specs.Prelude.{◌≡◌, ◌≢◌, ℕ, ◌⊎◌, Bool, IsTrue, List, [], ◌++◌, Option, None, Some, take}
use Rattle.il_base.specs.Outside.{Files, Rose, ChangesOnly}
use Rattle.run_endings.specs.declared.ending.Ending.{Ending}
use Rattle.run_endings.specs.declared.ending.Made.{Made}

-- ---- endings

-- nothing but a text on standard error
abbrev pub says_only : ℕ → List ℕ → Ending
says_only n text = record { number = n; file = None; out = []; err = text }

-- nothing but a text on standard output
abbrev pub prints_only : ℕ → List ℕ → Ending
prints_only n text = record { number = n; file = None; out = text; err = [] }

-- nothing but a file
abbrev pub makes_only : List ℕ → List ℕ → Ending
makes_only name bytes = record { number = 0; file = Some (record { name = name; bytes = bytes }); out = []; err = [] }

-- ---- what a call found and left

-- of a shelf: its files where it tells them, its failed reads and its failed writes, before and now
pub record Shelved : Type 0 where
  pub tells : Bool
  pub before : Files
  pub now : Files
  pub reads : ℕ
  pub reads_now : ℕ
  pub writes : ℕ
  pub writes_now : ℕ

-- of a console: what it took where it tells that, and its failed calls, before and now
pub record Spoken : Type 0 where
  pub tells : Bool
  pub out : List ℕ
  pub out_now : List ℕ
  pub err : List ℕ
  pub err_now : List ℕ
  pub failed : ℕ
  pub failed_now : ℕ

-- ---- what stands afterwards

-- the file holds a front of the bytes
abbrev pub HoldsFront : Files → List ℕ → List ℕ → Type 0
HoldsFront files name bytes = (count : ℕ) × (files name ≡ Some (take count bytes))

-- the file is made, and no other changed
abbrev pub IsMade : Option Made → Shelved → Type 0
IsMade None s = IsTrue s.tells → s.now ≡ s.before
IsMade (Some made) s = IsTrue s.tells → (s.now made.name ≡ Some made.bytes) × ChangesOnly made.name s.before s.now

-- no file changed, or the one that is made holds a front of its bytes and no other changed
abbrev pub IsBegun : Made → Shelved → Type 0
IsBegun made s = IsTrue s.tells → ((s.now ≡ s.before) ⊎ HoldsFront s.now made.name made.bytes) × ChangesOnly made.name s.before s.now

-- the console took these bytes behind those that it had
abbrev pub Takes : Spoken → List ℕ → List ℕ → Type 0
Takes c out err = IsTrue c.tells → (c.out_now ≡ c.out ++ out) × (c.err_now ≡ c.err ++ err)

-- all is said and written
pub record IsDone (e : Ending) (s : Shelved) (c : Spoken) : Type 0 where
  pub made : IsMade e.file s
  pub taken : Takes c e.out e.err

-- the console took nothing
abbrev pub IsQuiet : Spoken → Type 0
IsQuiet c = IsTrue c.tells → (c.out_now ≡ c.out) × (c.err_now ≡ c.err)

-- A call of the console failed, which its count shows: in standard output, of which a front was taken, or in standard error
-- behind all of the other.
pub data IsBrokenOff (out err : List ℕ) (c : Spoken) : Type 0 where
  in_out : out ≢ [] → Rose c.failed c.failed_now → (IsTrue c.tells → (count : ℕ) × (c.out_now ≡ c.out ++ take count out) × (c.err_now ≡ c.err))
      → IsBrokenOff out err c
  in_err : err ≢ [] → Rose c.failed c.failed_now → (IsTrue c.tells → (count : ℕ) × (c.out_now ≡ c.out ++ out) × (c.err_now ≡ c.err ++ take count err))
      → IsBrokenOff out err c

-- a call failed: in the file, which the count of failed writes shows, and nothing was said; or in the console, behind the file
pub data IsCut (e : Ending) (s : Shelved) (c : Spoken) : Type 0 where
  in_file : (made : Made) → e.file ≡ Some made → Rose s.writes s.writes_now → IsBegun made s → IsQuiet c → IsCut e s c
  in_console : IsMade e.file s → IsBrokenOff e.out e.err c → IsCut e s c

-- nothing is said or written
abbrev pub IsUntouched : Shelved → Spoken → Type 0
IsUntouched s c = IsMade None s × IsQuiet c

-- what performing an ending answers and leaves: its status and all that it says, or 4 and a part
pub data IsPerformed (e : Ending) (s : Shelved) (c : Spoken) : ℕ → Type 0 where
  whole : (number : ℕ) → number ≡ e.number → IsDone e s c → IsPerformed e s c number
  part : (number : ℕ) → number ≡ 4 → IsCut e s c → IsPerformed e s c number
