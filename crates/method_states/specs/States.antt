-- What is said of the bodies of methods by their bytes: headers (I17), instructions (I18) and clauses (I19) (II.25.4).
use Rattle.std.specs.Prelude.{◌≡◌, ℕ, ◌-◌, ◌<◌, ◌≤◌, ◌↔◌, List, length, Option, Some, slice_index_or}
use Rattle.body_codec.specs.declared.fault.BodyFault.{BodyFault}
use Rattle.body_codec.specs.declared.fault.BodyFault.TheVariants as faults
use Rattle.body_codec.specs.Faults.{IsCode, IsOutline}
use Rattle.body_codec.specs.Header.{HasHeader as IsHeader}
use Rattle.body_codec.specs.Instruction.{Piece}
use Rattle.body_outlines.specs.Outlines.{Outlines, tokens_of}
use Rattle.body_outlines.specs.declared.outlined.BodyOutline.{BodyOutline}
use Rattle.hash_places.specs.Slots.{place_of}
use Rattle.hash_places.specs.declared.slots.Slot.{Slot}
use Rattle.image_model.specs.Bodies.{body_of, HasBody, HasCodeType, HasLocals, HasHeader, HasInstructions, HasClauses, BodyNames}
use Rattle.image_model.specs.Columns.{method_rva}
use Rattle.image_model.specs.Naming.{IsToken}
use Rattle.image_model.specs.Rows.{count_of, HasRow}
use Rattle.method_states.specs.Marks.{IsKept, IsMarked, HaveRoom, MarkBesides}
use Rattle.method_states.specs.declared.row_marks.RowMarks.{RowMarks}
use Rattle.method_states.specs.declared.state.BodyState.{BodyState}
use Rattle.method_states.specs.declared.state.BodyState.TheVariants as states

-- ---- bytes by themselves

-- a known header, with known locals
pub record KnownHeader (image bytes : List ℕ) : Type 0 where
  pub header : IsHeader bytes
  pub locals : HasLocals image bytes

-- What a look at a body says; only where the body is in order, the rows that it names are marked.
abbrev pub Looks : (image bytes : List ℕ) (old new : RowMarks) → BodyState → Type 0
Looks image bytes old new states.Good = KnownHeader image bytes × (o : BodyOutline) × Outlines bytes o × MarkBesides old (tokens_of o) new
Looks image bytes old new states.Header = (KnownHeader image bytes → ⊥) × (new ≡ old)
Looks image bytes old new states.Instructions = KnownHeader image bytes × ((pieces : List Piece) → IsCode bytes pieces → ⊥) × (new ≡ old)
Looks image bytes old new states.Clauses = KnownHeader image bytes × ((pieces : List Piece) × IsCode bytes pieces) × ((pieces : List Piece) → IsOutline bytes pieces → ⊥) × (new ≡ old)
Looks image bytes old new states.Nothing = ⊥
Looks image bytes old new states.Again = ⊥

-- what is said of a body behind a known header by its fault
abbrev pub fault_state : BodyFault → BodyState
fault_state (faults.Range clause) = states.Clauses
fault_state (faults.Opcode offset) = states.Instructions
fault_state (faults.Cut offset) = states.Instructions
fault_state (faults.Target offset) = states.Instructions
fault_state _ = states.Header

-- what is said of a method below one with the same body
abbrev pub again : BodyState → BodyState
again states.Good = states.Again
again states.Again = states.Again
again states.Nothing = states.Nothing
again states.Header = states.Header
again states.Instructions = states.Instructions
again states.Clauses = states.Clauses

-- ---- methods

-- a body without a fault of I17 to I19
pub record HasGoodBody (image : List ℕ) (method : ℕ) : Type 0 where
  pub there : HasBody image method
  pub code_type : HasCodeType image method
  pub known : KnownHeader image (body_of image method)
  pub outline : (o : BodyOutline) × Outlines (body_of image method) o

-- a method above has the same good body
pub record IsAgain (image : List ℕ) (method : ℕ) : Type 0 where
  pub good : HasGoodBody image method
  pub first : ℕ
  pub above : first < method
  pub row : HasRow image 0x06 first
  pub same : method_rva image first ≡ method_rva image method
  pub first_good : HasGoodBody image first

-- the first of I17, I18 and I19 that a method fails
pub record FailsHeader (image : List ℕ) (method : ℕ) : Type 0 where
  pub fails : HasHeader image 0x06 method → ⊥

pub record FailsInstructions (image : List ℕ) (method : ℕ) : Type 0 where
  pub header : HasHeader image 0x06 method
  pub fails : HasInstructions image 0x06 method → ⊥

pub record FailsClauses (image : List ℕ) (method : ℕ) : Type 0 where
  pub header : HasHeader image 0x06 method
  pub instructions : HasInstructions image 0x06 method
  pub fails : HasClauses image 0x06 method → ⊥

-- what is said of a method holds
abbrev pub HasState : List ℕ → ℕ → BodyState → Type 0
HasState image method states.Nothing = HasCodeType image method × (HasBody image method → ⊥)
HasState image method states.Good = HasGoodBody image method
HasState image method states.Again = IsAgain image method
HasState image method states.Header = FailsHeader image method
HasState image method states.Instructions = FailsInstructions image method
HasState image method states.Clauses = FailsClauses image method

-- what is said of the first so many methods
pub record AreStatesTo (image : List ℕ) (count : ℕ) (all : List BodyState) : Type 0 where
  pub long : length all ≡ count
  pub each : (method : ℕ) (d : BodyState) → 0 < method → method ≤ count → HasState image method (slice_index_or all (method - 1) d)

-- and of all
abbrev pub AreStates : List ℕ → List BodyState → Type 0
AreStates image all = AreStatesTo image (count_of image 0x06) all

-- ---- the rows that bodies name

-- one of the first so many methods names a row by its body
pub record NamedTo (image : List ℕ) (count table row : ℕ) : Type 0 where
  pub method : ℕ
  pub some : 0 < method
  pub upto : method ≤ count
  pub token : ℕ
  pub names : BodyNames image method token
  pub is : IsToken token table row

-- these are marked: rows of the tables that are kept, named by the first so many bodies
pub record AreNamedTo (image : List ℕ) (count : ℕ) (marks : RowMarks) : Type 0 where
  pub room : HaveRoom image marks
  pub each : (table row : ℕ) → IsMarked marks table row ↔ (IsKept table × HasRow image table row × NamedTo image count table row)

abbrev pub AreNamedByBodies : List ℕ → RowMarks → Type 0
AreNamedByBodies image marks = AreNamedTo image (count_of image 0x06) marks

-- the place of each RVA is a method with it, whose body was looked at
abbrev pub AreSeen : List ℕ → ℕ → List Slot → Type 0
AreSeen image count seen =
    (rva method : ℕ) → place_of seen rva ≡ Some method → (0 < method) × (method ≤ count) × (method_rva image method ≡ rva) × HasCodeType image method
