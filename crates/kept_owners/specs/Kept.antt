-- What is kept while the rows that name types are kept one after the other (II.22.37, II.22.38, II.22.39).
use Rattle.std.specs.Prelude.{◌≡◌, ℕ, ◌^◌, ◌<◌, ◌≤◌, ◌⊎◌, ◌↔◌, nat_eq, cond, take, Bool, true, false, List, length, Contains, Option, Some}
use Rattle.heaps.specs.Content.{HasBlob}
use Rattle.sig_codec.specs.Signature.{IsType}
use Rattle.type_terms.specs.declared.term.Owner.{Owner}
use Rattle.type_terms.specs.declared.term.SigType.{SigType}
use Rattle.image_model.specs.Columns.{type_spec_signature}
use Rattle.image_model.specs.Naming.{RowOwner, TellsOwners}
use Rattle.image_model.specs.Rows.{count_of, HasRow}
use Rattle.image_model.specs.Streams.{blobs_of}
use Rattle.image_model.specs.Used.{IsUsed}
use Rattle.image_source.specs.Names.{names_of, owner_of_row}
use Rattle.kept_names.specs.Keeping.{kept_at}
use Rattle.kept_names.specs.Keys.{row_key}
use Rattle.kept_names.specs.declared.names.KeptNames.{KeptNames}

-- a type is kept of a row besides, and nothing else changes
pub record Adds (old new : KeptNames) (table row : ℕ) (owner : Owner) : Type 0 where
  pub owners : (q : ℕ) → kept_at new.owners.places new.owners.items q ≡ cond (nat_eq (row_key table row) q) (Some owner) (kept_at old.owners.places old.owners.items q)
  pub methods : new.methods ≡ old.methods
  pub fields : new.fields ≡ old.fields
  pub locals : new.locals ≡ old.locals
  pub texts : new.texts ≡ old.texts

-- a type is kept of a row
abbrev pub IsThere : KeptNames → (table row : ℕ) → Type 0
IsThere kept table row = (owner : Owner) × (owner_of_row kept table row ≡ Some owner)

-- of the first so many rows of a table
abbrev pub AreThere : KeptNames → (table count : ℕ) → Type 0
AreThere kept table count = (row : ℕ) → 0 < row → row ≤ count → IsThere kept table row

-- what is kept of a row is what it is by what tokens name
abbrev pub IsSound : List ℕ → KeptNames → Type 0
IsSound image kept =
    (owners : ℕ → Option Owner) → TellsOwners image owners → (table row : ℕ) (owner : Owner) → row < 2 ^ 32 → owner_of_row kept table row ≡ Some owner
    → RowOwner image owners table row owner

-- From one time to a later one: what is kept stays true, what has a type keeps one, and of members nothing is kept.
pub record Goes (image : List ℕ) (old new : KeptNames) : Type 0 where
  pub sound : IsSound image old → IsSound image new
  pub stays : (table row : ℕ) → IsThere old table row → IsThere new table row
  pub methods : new.methods ≡ old.methods
  pub fields : new.fields ≡ old.fields
  pub locals : new.locals ≡ old.locals
  pub texts : new.texts ≡ old.texts

-- ---- rows of TypeSpec

-- a row is in use
abbrev pub IsWanted : List ℕ → ℕ → Type 0
IsWanted image row = HasRow image 0x1B row × IsUsed image 0x1B row

-- these are the rows that are in use
abbrev pub AreWanted : List ℕ → List ℕ → Type 0
AreWanted image rows = (row : ℕ) → Contains rows row ↔ IsWanted image row

-- the signature of a row spells a type by what is kept
abbrev pub Spells : List ℕ → KeptNames → ℕ → SigType → Type 0
Spells image kept row term = (bytes : List ℕ) × HasBlob (blobs_of image) (type_spec_signature image row) bytes × IsType (names_of kept).owners bytes term

-- it spells none
abbrev pub SpellsNone : List ℕ → KeptNames → ℕ → Type 0
SpellsNone image kept row = (term : SigType) → Spells image kept row term → ⊥

-- each row that is in use still waits, or a type is kept of it
pub record AreLeft (image : List ℕ) (kept : KeptNames) (left : List ℕ) : Type 0 where
  pub wanted : (row : ℕ) → Contains left row → IsWanted image row
  pub waits : (row : ℕ) → IsWanted image row → Contains left row ⊎ IsThere kept 0x1B row

-- What holds once the first rows were looked at: those of them that spelled no type are left. Where that are all, nothing has changed.
pub record RoundSo (image : List ℕ) (old now : KeptNames) (rows left : List ℕ) (count : ℕ) : Type 0 where
  pub goes : Goes image old now
  pub among : (row : ℕ) → Contains left row → Contains rows row
  pub looked : (row : ℕ) → Contains (take count rows) row → Contains left row ⊎ IsThere now 0x1B row
  pub few : length left ≤ count
  pub fixed : length left ≡ count → (now ≡ old) × ((row : ℕ) → Contains (take count rows) row → SpellsNone image old row)

-- What holds once one row was looked at: it spelled a type, which is kept, or it spelled none and nothing has changed.
abbrev pub LookSo : List ℕ → (old new : KeptNames) → ℕ → Bool → Type 0
LookSo image old new row true = Goes image old new × IsThere new 0x1B row
LookSo image old new row false = (new ≡ old) × SpellsNone image old row

-- What holds at the end: each row that is in use has a type that is kept, or is left and spells none.
abbrev pub IsDone : List ℕ → KeptNames → Type 0
IsDone image kept = (left : List ℕ) × AreLeft image kept left × ((row : ℕ) → Contains left row → SpellsNone image kept row)

-- a table has no more rows than four bytes can number
abbrev pub HasFew : List ℕ → ℕ → Type 0
HasFew image table = count_of image table < 2 ^ 32

-- the rows of all three tables are kept
pub record KeptAll (image : List ℕ) (old new : KeptNames) : Type 0 where
  pub goes : Goes image old new
  pub few_types : HasFew image 0x02
  pub few_references : HasFew image 0x01
  pub few_specs : HasFew image 0x1B
  pub types : AreThere new 0x02 (count_of image 0x02)
  pub references : AreThere new 0x01 (count_of image 0x01)
  pub specs : IsDone image new
