-- What a shelf and a console in memory hold.
use Rattle.std.specs.Prelude.{◌≡◌, ℕ, min, List}
use Rattle.il_base.specs.Calls.{Calls}
use Rattle.il_base.specs.Outside.{Files}
use Rattle.il_base.specs.Stock.{bytes_of, HasRoomIn, KeepsRoomIn}
use Rattle.il_base.specs.StoredFiles.{stock_of}
use Rattle.il_base.specs.declared.mem_console.MemConsole.{MemConsole}
use Rattle.il_base.specs.declared.mem_shelf.MemShelf.{MemShelf}

-- the bytes of the files
abbrev pub shelf_files : MemShelf → Files
shelf_files shelf = bytes_of (stock_of shelf.files)

-- the file is there, and grows to so many bytes without memory
abbrev pub HasRoom : MemShelf → List ℕ → ℕ → Type 0
HasRoom shelf = HasRoomIn (stock_of shelf.files)

-- the room of no file shrinks
abbrev pub KeepsRoom : MemShelf → MemShelf → Type 0
KeepsRoom before now = KeepsRoomIn (stock_of before.files) (stock_of now.files)

-- the calls so far, those that are to fail, and the greatest number of bytes of a call
abbrev pub shelf_calls : MemShelf → Calls
shelf_calls shelf = shelf.plan

-- the counts of failures
abbrev pub shelf_failed_reads : MemShelf → ℕ
shelf_failed_reads shelf = shelf.failed_reads

abbrev pub shelf_failed_writes : MemShelf → ℕ
shelf_failed_writes shelf = shelf.failed_writes

-- only the files changed
pub record ChangesFiles (before now : MemShelf) : Type 0 where
  pub same_calls : shelf_calls now ≡ shelf_calls before
  pub same_reads : shelf_failed_reads now ≡ shelf_failed_reads before
  pub same_writes : shelf_failed_writes now ≡ shelf_failed_writes before
  pub room_stays : KeepsRoom before now

-- only the calls that are to fail or the greatest number of bytes changed
pub record ChangesCalls (before now : MemShelf) : Type 0 where
  pub same_files : shelf_files now ≡ shelf_files before
  pub same_reads : shelf_failed_reads now ≡ shelf_failed_reads before
  pub same_writes : shelf_failed_writes now ≡ shelf_failed_writes before
  pub room_stays : KeepsRoom before now

-- the bytes that a console in memory took
abbrev pub console_out : MemConsole → List ℕ
console_out console = console.out.bytes

abbrev pub console_err : MemConsole → List ℕ
console_err console = console.err.bytes

-- the calls so far, those that are to fail, and the greatest number of bytes of a call
abbrev pub console_calls : MemConsole → Calls
console_calls console = console.plan

-- the count of failed calls
abbrev pub console_failed : MemConsole → ℕ
console_failed console = console.failed

-- the length up to which both lists of bytes grow without memory
abbrev pub console_room : MemConsole → ℕ
console_room console = min console.out.room console.err.room

-- only the calls that are to fail or the greatest number of bytes changed
pub record ChangesConsoleCalls (before now : MemConsole) : Type 0 where
  pub same_out : console_out now ≡ console_out before
  pub same_err : console_err now ≡ console_err before
  pub same_failed : console_failed now ≡ console_failed before
  pub same_room : console_room now ≡ console_room before
