-- How a run ends, whatever the command: which endings it may have, each with its cause, and which status is due.
--
-- A command is told by `usage`, the number of the first word that doesn't fit, where there is one; by `inputs`, what is read
-- where all words fit; by `Gives`, which endings the bytes of the inputs give; and by `Due`, which status they demand.
-- These two are apart, since a status is due also where nobody has shown yet that there is something to write.
use Rattle.std.specs.Prelude.{◌≡◌, ◌≢◌, ℕ, ◌≤◌, ◌⊎◌, Bool, IsTrue, List, Option, None, Some}
use Rattle.il_base.specs.Outside.{Files, Rose}
use Rattle.run_endings.specs.Ends.{Shelved, Spoken, IsDone, IsCut, IsUntouched, says_only}
use Rattle.run_endings.specs.Reads.{AreRead, StopsAt, IsLonger}
use Rattle.run_endings.specs.Texts.{usage_text, unread_text, long_text}
use Rattle.run_endings.specs.declared.ending.Ending.{Ending}
use Rattle.run_endings.specs.declared.ending.Made.{Made}
use Rattle.run_endings.specs.declared.input.Input.{Input}

-- The endings of a run over files that are told or not, with so many failed reads before and after: a word doesn't fit; an input
-- can't be read, or is too long, and those before it were read; or all were read, and give this ending.
pub data IsEnding (usage : Option ℕ) (inputs : List Input) (Gives : List (List ℕ) → Ending → Type 0) (tells : Bool) (files : Files) (reads reads_now : ℕ) (e : Ending) : Type 0 where
  misfit : (word : ℕ) → usage ≡ Some word → e ≡ says_only 2 (usage_text word) → IsEnding usage inputs Gives tells files reads reads_now e
  unread : (at : Input) → usage ≡ None → StopsAt tells files inputs at → Rose reads reads_now ⊎ (IsTrue tells × (files at.name ≡ None))
      → e ≡ says_only 3 (unread_text at.name) → IsEnding usage inputs Gives tells files reads reads_now e
  too_long : (at : Input) → usage ≡ None → StopsAt tells files inputs at → (IsTrue tells → IsLonger files at)
      → e ≡ says_only 5 (long_text at.name at.limit) → IsEnding usage inputs Gives tells files reads reads_now e
  reached : (given : List (List ℕ)) → usage ≡ None → AreRead tells files inputs given → Gives given e → e.number ≤ 1
      → IsEnding usage inputs Gives tells files reads reads_now e

-- the status that is due: 2 by the words, and of told files 3 or 5 by the first that is absent or too long, else that of the bytes
pub data Merits (usage : Option ℕ) (inputs : List Input) (Due : List (List ℕ) → ℕ → Type 0) (tells : Bool) (files : Files) (n : ℕ) : Type 0 where
  by_words : (word : ℕ) → usage ≡ Some word → n ≡ 2 → Merits usage inputs Due tells files n
  by_absence : (at : Input) → usage ≡ None → IsTrue tells → StopsAt tells files inputs at → files at.name ≡ None → n ≡ 3 → Merits usage inputs Due tells files n
  by_length : (at : Input) → usage ≡ None → IsTrue tells → StopsAt tells files inputs at → IsLonger files at → n ≡ 5 → Merits usage inputs Due tells files n
  by_inputs : (given : List (List ℕ)) → usage ≡ None → IsTrue tells → AreRead tells files inputs given → Due given n → Merits usage inputs Due tells files n

-- What is made in memory before anything is written: an ending of the run, with the status that is due unless a read failed and
-- is counted. A file is made with the status 0 alone.
pub record IsPlanned (usage : Option ℕ) (inputs : List Input) (Gives : List (List ℕ) → Ending → Type 0) (Due : List (List ℕ) → ℕ → Type 0) (tells : Bool) (files : Files) (reads reads_now : ℕ) (e : Ending) : Type 0 where
  pub is : IsEnding usage inputs Gives tells files reads reads_now e
  pub number : (e.number ≤ 3) ⊎ (e.number ≡ 5)
  pub makes : (made : Made) → e.file ≡ Some made → e.number ≡ 0
  pub due : (n : ℕ) → Merits usage inputs Due tells files n → (n ≡ e.number) ⊎ ((e.number ≡ 3) × (usage ≡ None) × Rose reads reads_now)

-- What a run's status says. 6 is want of memory, which has no cause.
pub record Runs (usage : Option ℕ) (inputs : List Input) (Gives : List (List ℕ) → Ending → Type 0) (Due : List (List ℕ) → ℕ → Type 0) (number : ℕ) (s : Shelved) (c : Spoken) : Type 0 where
  pub range : number ≤ 6
  -- 0, 1, 2, 3 and 5: that of an ending, and all that it says and makes stands
  pub done : number ≢ 4 → number ≢ 6 → (e : Ending) × IsEnding usage inputs Gives s.tells s.before s.reads s.reads_now e × (number ≡ e.number) × IsDone e s c
  -- 4: an ending was cut where a write failed
  pub cut : number ≡ 4 → (e : Ending) × IsEnding usage inputs Gives s.tells s.before s.reads s.reads_now e × IsCut e s c
  -- 6: nothing was said or made
  pub lacking : number ≡ 6 → IsUntouched s c
  -- the status that is due comes, unless memory lacks or a call failed whose count shows it
  pub exactly : (n : ℕ) → Merits usage inputs Due s.tells s.before n → (number ≡ n) ⊎ ((number ≡ 6)
      ⊎ (((number ≡ 3) × (usage ≡ None) × Rose s.reads s.reads_now)
      ⊎ ((number ≡ 4) × (((n ≡ 0) × Rose s.writes s.writes_now) ⊎ Rose c.failed c.failed_now))))
